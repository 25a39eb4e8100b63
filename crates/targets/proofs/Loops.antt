-- One turn of the loop over the targets: a target, and those after it.
use Rattle.std.proofs.Common.{◌≡◌, ℕ, ◌+◌, ◌<◌, ◌≤◌, List, length, get_or, drop, None, Option, ◌∙◌}
use Rattle.std.proofs.lemmas.List.{at_drop_more, at_drop_all}
use Rattle.faults.specs.Faults.{or_else, first_of}
use Rattle.faults.proofs.Order.{first_of-append}
use Rattle.device.specs.declared.Device.{Device}
use Rattle.adapter.specs.Used.{Answers}
use Rattle.descriptor.specs.declared.blend.ColorTargetState.{ColorTargetState}
use Rattle.errors.specs.declared.create.CreateRenderPipelineError.{CreateRenderPipelineError}
use Rattle.targets.specs.Order.{target_verdicts, targets_verdicts}
use Rattle.faults.proofs.Verdicts.{verdict_cases}

-- the first fault of the targets from an index on
abbrev pub fault_from : Device → Answers → ℕ → ℕ → List (Option ColorTargetState) → Option CreateRenderPipelineError
fault_from d answers count i targets = first_of (targets_verdicts d answers count i (drop i targets))

pub next_target : (d : Device) (answers : Answers) (count i : ℕ) (targets : List (Option ColorTargetState)) → i < length targets → fault_from d answers count i targets ≡ or_else (first_of (target_verdicts d answers count i (get_or targets i None))) (fault_from d answers count (i + 1) targets)
next_target d answers count i targets h =
    at_drop_more (λ ts. first_of (targets_verdicts d answers count i ts)) targets i None h
    ∙ first_of-append (target_verdicts d answers count i (get_or targets i None)) (targets_verdicts d answers count (i + 1) (drop (i + 1) targets))

pub no_target : (d : Device) (answers : Answers) (count i : ℕ) (targets : List (Option ColorTargetState)) → length targets ≤ i → fault_from d answers count i targets ≡ None
no_target d answers count i targets h = at_drop_all (λ ts. first_of (targets_verdicts d answers count i ts)) targets i h

pub ruleset target_steps = (verdict_cases, next_target)
