-- The rules on color targets in words, with no order among them.
use Rattle.std.specs.Prelude.{◌≡◌, ℕ, ◌<◌, ◌≤◌, true, List, [], ◌∷◌, Contains, length, is_some, Some, None, Option, Result, slice_index_or}
use Rattle.faults.specs.Faults.{Judged}
use Rattle.formats.specs.Features.{includes, includes_flags, dual_source_blending, independent_blend}
use Rattle.formats.specs.Samples.{supports}
use Rattle.formats.specs.Texture.{aspects_of, required_of}
use Rattle.device.specs.declared.Device.{Device}
use Rattle.adapter.specs.Used.{Answers, used}
use Rattle.descriptor.specs.Blend.{second_source, is_one, is_min_max, Alike}
use Rattle.descriptor.specs.declared.blend.BlendComponent.{BlendComponent}
use Rattle.descriptor.specs.declared.blend.BlendFactor.{BlendFactor}
use Rattle.descriptor.specs.declared.blend.BlendOperation.{BlendOperation}
use Rattle.descriptor.specs.declared.blend.BlendState.{BlendState}
use Rattle.descriptor.specs.declared.blend.ColorTargetState.{ColorTargetState}
use Rattle.errors.specs.declared.create.CreateRenderPipelineError.{CreateRenderPipelineError}
use Rattle.targets.specs.Order.{targets_verdicts, independent_verdict, dual_verdict, reads_second_at}

-- a factor under an operation, of the target at an index
pub record FactorLawful (d : Device) (index : ℕ) (o : BlendOperation) (f : BlendFactor) : Type 0 where
  pub feature : second_source f ≡ true → includes d.features dual_source_blending ≡ true
  pub first : second_source f ≡ true → index ≡ 0
  pub one : is_min_max o ≡ true → is_one f ≡ true

pub record ComponentLawful (d : Device) (index : ℕ) (c : BlendComponent) : Type 0 where
  pub source : FactorLawful d index c.operation c.src_factor
  pub destination : FactorLawful d index c.operation c.dst_factor

abbrev pub BlendLawful : Device → ℕ → Option BlendState → Type 0
BlendLawful d index None = Unit {0}
BlendLawful d index (Some b) = ComponentLawful d index b.color × ComponentLawful d index b.alpha

-- a target that is not empty
pub record TargetLawful (d : Device) (answers : Answers) (count index : ℕ) (t : ColorTargetState) : Type 0 where
  pub mask : t.write_mask.bits ≤ 15
  pub feature : includes d.features (required_of t.format) ≡ true
  pub renderable : (used d answers t.format).renderable ≡ true
  pub blendable : is_some t.blend ≡ true → (used d answers t.format).flags.blendable ≡ true
  pub color : (aspects_of t.format).color ≡ true
  pub samples : 1 < count → supports (used d answers t.format).flags count ≡ true
  pub blend : BlendLawful d index t.blend

-- each target that is not empty
abbrev pub TargetsLawful : Device → Answers → ℕ → List (Option ColorTargetState) → Type 0
TargetsLawful d answers count targets = (i : ℕ) (t : ColorTargetState) → slice_index_or targets i None ≡ Some t → TargetLawful d answers count i t

abbrev pub TargetsJudged : Device → Answers → ℕ → List (Option ColorTargetState) → Result (Unit {0}) CreateRenderPipelineError → Type 0
TargetsJudged d answers count targets r =
    Judged (targets_verdicts d answers count 0 targets) tt (TargetsLawful d answers count targets) r

-- every two targets that are not empty write the same channels, blended in the same way
abbrev pub AllAlike : List (Option ColorTargetState) → Type 0
AllAlike targets = (s t : ColorTargetState) → Contains targets (Some s) → Contains targets (Some t) → Alike s t

-- they do, or the device has the flag
abbrev pub IndependentLawful : Device → List (Option ColorTargetState) → Type 0
IndependentLawful d targets = (AllAlike targets → ⊥) → includes_flags d.downlevel independent_blend ≡ true

abbrev pub IndependentJudged : Device → List (Option ColorTargetState) → Result (Unit {0}) CreateRenderPipelineError → Type 0
IndependentJudged d targets r = Judged (independent_verdict d targets ∷ []) tt (IndependentLawful d targets) r

-- where the blending of a target reads the second color, there is no other target, not even an empty one
abbrev pub DualLawful : List (Option ColorTargetState) → Type 0
DualLawful targets = (t : ColorTargetState) → Contains targets (Some t) → reads_second_at (Some t) ≡ true → length targets ≤ 1

abbrev pub DualJudged : List (Option ColorTargetState) → Result (Unit {0}) CreateRenderPipelineError → Type 0
DualJudged targets r = Judged (dual_verdict targets ∷ []) tt (DualLawful targets) r
