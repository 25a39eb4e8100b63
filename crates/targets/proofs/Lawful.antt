-- The verdicts on the targets are all none exactly if every rule on them holds.
use Rattle.std.proofs.Common.{◌≡◌, ℕ, zero, suc, ◌+◌, List, [], ◌∷◌, ◌++◌, get_or, Some, None, Option, Result, refl, arith}
use Rattle.faults.specs.Faults.{first_of, answer}
use Rattle.faults.proofs.Order.{both_none, none_both, all_none, judged}
use Rattle.device.specs.declared.Device.{Device}
use Rattle.formats.specs.declared.format_features.TextureFormatFeatures.{TextureFormatFeatures}
use Rattle.adapter.specs.Used.{Answers, used}
use Rattle.descriptor.specs.declared.blend.BlendComponent.{BlendComponent}
use Rattle.descriptor.specs.declared.blend.BlendFactor.{BlendFactor}
use Rattle.descriptor.specs.declared.blend.BlendOperation.{BlendOperation}
use Rattle.descriptor.specs.declared.blend.BlendState.{BlendState}
use Rattle.descriptor.specs.declared.blend.ColorTargetState.{ColorTargetState}
use Rattle.errors.specs.declared.create.CreateRenderPipelineError.{CreateRenderPipelineError}
use Rattle.targets.specs.Order.{factor_verdicts, component_verdicts, blend_verdicts, mask_verdict, feature_verdict, uses_verdicts, count_fault, state_verdicts, target_verdicts, targets_verdicts}
use Rattle.targets.specs.Rules.{FactorLawful, ComponentLawful, BlendLawful, TargetLawful, TargetsLawful, TargetsJudged}
use Rattle.std.proofs.lemmas.Bool.Decides.{nat_tests}
use Rattle.faults.proofs.Verdicts.{verdict_cases}

module _ (d : Device) (index : ℕ) where
  factor_lawful : (o : BlendOperation) (f : BlendFactor) → first_of (factor_verdicts d index o f) ≡ None → FactorLawful d index o f
  factor_lawful o f h = record { feature = λ t. grind (arith, verdict_cases); first = λ t. grind (arith, verdict_cases, nat_tests); one = λ t. grind (arith, verdict_cases) }

  none_factor : (o : BlendOperation) (f : BlendFactor) → FactorLawful d index o f → first_of (factor_verdicts d index o f) ≡ None
  none_factor o f l = grind (arith, verdict_cases, nat_tests)

  component_lawful : (c : BlendComponent) → first_of (component_verdicts d index c) ≡ None → ComponentLawful d index c
  component_lawful c h =
      let k = both_none (factor_verdicts d index c.operation c.src_factor) (factor_verdicts d index c.operation c.dst_factor) h in
      record { source = factor_lawful _ _ k.0; destination = factor_lawful _ _ k.1 }

  none_component : (c : BlendComponent) → ComponentLawful d index c → first_of (component_verdicts d index c) ≡ None
  none_component c l =
      none_both (factor_verdicts d index c.operation c.src_factor) (factor_verdicts d index c.operation c.dst_factor) (none_factor _ _ l.source) (none_factor _ _ l.destination)

  blend_lawful : (b : Option BlendState) → first_of (blend_verdicts d index b) ≡ None → BlendLawful d index b
  blend_lawful None h = tt
  blend_lawful (Some b) h =
      let k = both_none (component_verdicts d index b.color) (component_verdicts d index b.alpha) h in
      (component_lawful b.color k.0, component_lawful b.alpha k.1)

  none_blend : (b : Option BlendState) → BlendLawful d index b → first_of (blend_verdicts d index b) ≡ None
  none_blend None l = refl
  none_blend (Some b) l = none_both (component_verdicts d index b.color) (component_verdicts d index b.alpha) (none_component b.color l.0) (none_component b.alpha l.1)

module _ (d : Device) (answers : Answers) (count : ℕ) where
  module _ (index : ℕ) (t : ColorTargetState) where
    abbrev use_of : TextureFormatFeatures
    use_of = used d answers t.format

    -- all but the blending
    abbrev plain : List (Option CreateRenderPipelineError)
    plain =
        mask_verdict index t
        ∷ feature_verdict d t
        ∷ (uses_verdicts index t use_of ++ (count_fault d answers count index t.format use_of.flags ∷ []))

    target_lawful : first_of (state_verdicts d answers count index t) ≡ None → TargetLawful d answers count index t
    target_lawful h =
        let k = both_none plain (blend_verdicts d index t.blend) h in
        let v = all_none plain k.0 in
        let u = v.1.1 in
        record {
          mask = grind (arith, nat_tests);
          feature = grind arith;
          renderable = grind arith;
          blendable = λ b. grind arith;
          color = grind arith;
          samples = λ l. grind (arith, nat_tests);
          blend = blend_lawful d index t.blend k.1;
        }

    none_target : TargetLawful d answers count index t → first_of (state_verdicts d answers count index t) ≡ None
    none_target l =
        none_both plain (blend_verdicts d index t.blend) (grind (arith, verdict_cases, nat_tests)) (none_blend d index t.blend l.blend)

  -- target by target, the first of them at an index
  abbrev LawfulFrom : ℕ → List (Option ColorTargetState) → Type 0
  LawfulFrom index targets = (i : ℕ) (t : ColorTargetState) → get_or targets i None ≡ Some t → TargetLawful d answers count (index + i) t

  targets_lawful : (index : ℕ) (targets : List (Option ColorTargetState)) → first_of (targets_verdicts d answers count index targets) ≡ None → LawfulFrom index targets
  targets_lawful index [] h i t e = cc
  targets_lawful index (o ∷ rest) h zero t e =
      let k = both_none (target_verdicts d answers count index o) (targets_verdicts d answers count (index + 1) rest) h in
      let z : index + 0 ≡ index = omega arith in
      rw z (target_lawful index t (rw e at k.0))
  targets_lawful index (o ∷ rest) h (suc i) t e =
      let k = both_none (target_verdicts d answers count index o) (targets_verdicts d answers count (index + 1) rest) h in
      let z : index + suc i ≡ index + 1 + i = omega arith in
      rw z (targets_lawful (index + 1) rest k.1 i t e)

  later : (index : ℕ) (o : Option ColorTargetState) (rest : List (Option ColorTargetState)) → LawfulFrom index (o ∷ rest) → LawfulFrom (index + 1) rest
  later index o rest l i t e = let z : index + suc i ≡ index + 1 + i = omega arith in rw z at (l (suc i) t e)

  none_targets : (index : ℕ) (targets : List (Option ColorTargetState)) → LawfulFrom index targets → first_of (targets_verdicts d answers count index targets) ≡ None
  none_targets index [] l = refl
  none_targets index (None ∷ rest) l = none_targets (index + 1) rest (later index None rest l)
  none_targets index (Some t ∷ rest) l =
      let z : index + 0 ≡ index = omega arith in
      none_both (state_verdicts d answers count index t) (targets_verdicts d answers count (index + 1) rest)
      (none_target index t (rw z at (l 0 t refl)))
      (none_targets (index + 1) rest (later index (Some t) rest l))

  module _ (targets : List (Option ColorTargetState)) where
    pub all_lawful : first_of (targets_verdicts d answers count 0 targets) ≡ None → TargetsLawful d answers count targets
    all_lawful h i t e = let z : 0 + i ≡ i = omega arith in rw z at (targets_lawful 0 targets h i t e)

    pub passes_lawful : TargetsLawful d answers count targets → first_of (targets_verdicts d answers count 0 targets) ≡ None
    passes_lawful l = none_targets 0 targets (λ i t e. let z : 0 + i ≡ i = omega arith in rw z (l i t e))

    -- all that the judging answers, from its value
    pub targets_judged : (r : Result (Unit {0}) CreateRenderPipelineError) → r ≡ answer (first_of (targets_verdicts d answers count 0 targets)) tt → TargetsJudged d answers count targets r
    targets_judged = judged (targets_verdicts d answers count 0 targets) tt (TargetsLawful d answers count targets) all_lawful passes_lawful
