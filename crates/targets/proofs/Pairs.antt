-- What the targets ask of each other: the loops, and what their verdicts mean.
use Rattle.std.proofs.Common.{◌≡◌, ◌<◌, true, false, ◌&&◌, ◌||◌, List, [], ◌∷◌, length, Some, None, Decides, Option, Result, sym, refl, ap, subst, ◌∙◌, not-suc-le-zero, arith}
use Rattle.std.specs.Option.{is_some}
use Rattle.std.specs.List.{All, Contains, list_any, list_all, find}
use Rattle.std.proofs.lemmas.List.Elements.{All-cons, All-tail, All-contains, All-contains_itself, All-weaker, Contains-append_right}
use Rattle.std.proofs.lemmas.List.Folds.{list_any_none, list_any-from_Any}
use Rattle.std.proofs.lemmas.List.Recursion.{same_from_clauses}
use Rattle.std.proofs.lemmas.Map.Made.{Contains-tail}
use Rattle.std.proofs.lemmas.Bool.{false_from_ne_true, false≢true}
use Rattle.faults.specs.Faults.{first_of, answer}
use Rattle.faults.proofs.Order.{judged}
use Rattle.faults.proofs.Sequence.{last}
use Rattle.formats.specs.Features.{includes_flags, independent_blend}
use Rattle.device.specs.declared.Device.{Device}
use Rattle.descriptor.specs.Blend.{writes_like, Alike}
use Rattle.descriptor.proofs.Same.{alike}
use Rattle.descriptor.specs.declared.blend.ColorTargetState.{ColorTargetState}
use Rattle.errors.specs.declared.create.CreateRenderPipelineError.{CreateRenderPipelineError}
use Rattle.targets.specs.Order.{like_first, alike_after, alike_targets, independent_verdict, reads_second_at, reads_second_any, dual_verdict}
use Rattle.targets.specs.Rules.{AllAlike, IndependentLawful, DualLawful, IndependentJudged, DualJudged}
use Rattle.faults.proofs.Verdicts.{verdict_cases}
use Rattle.std.proofs.lemmas.Bool.Decides.{Decides-by_and, nat_tests}

abbrev Targets : Type 0
Targets = List (Option ColorTargetState)

-- a search of all targets finds what a recursion over them finds
pub any_second : (targets : Targets) → list_any reads_second_at targets ≡ reads_second_any targets
any_second targets = same_from_clauses (list_any reads_second_at) reads_second_any (λ o b. reads_second_at o || b) refl (λ _ _. refl) (λ _ _. refl) targets

-- each target against the first that is not empty
all_like_first : (f : ColorTargetState) (targets : Targets) → list_all (like_first (Some f)) targets ≡ alike_after (Some f) targets
all_like_first f targets = same_from_clauses (list_all (like_first (Some f))) (alike_after (Some f)) (λ o b. like_first (Some f) o && b) refl (λ _ _. refl) (λ _ _. refl) targets

pub alike_without : (targets : Targets) → find is_some targets ≡ None → true ≡ alike_targets targets
alike_without [] e = refl
alike_without (None ∷ rest) e = alike_without rest e
alike_without (Some f ∷ rest) e = cc

pub alike_by_first : (first : Option ColorTargetState) (targets : Targets) → find is_some targets ≡ Some first → list_all (like_first first) targets ≡ alike_targets targets
alike_by_first first [] e = cc
alike_by_first None (None ∷ rest) e = alike_by_first None rest e
alike_by_first (Some f) (None ∷ rest) e = alike_by_first (Some f) rest e
alike_by_first first (Some f ∷ rest) e =
    let itself : writes_like f f ≡ true = (alike f f).1 (refl, refl) in
    let same : Some f ≡ first = cc in
    subst (λ (o : Option ColorTargetState). list_all (like_first o) (Some f ∷ rest) ≡ alike_targets (Some f ∷ rest)) same
    (ap (λ b. b && list_all (like_first (Some f)) rest) itself ∙ all_like_first f rest)

-- all targets are alike exactly if each writes like the first that is not empty
same_as : (f s t : ColorTargetState) → Alike f s → Alike f t → Alike s t
same_as f s t a b = (sym a.0 ∙ b.0, sym a.1 ∙ b.1)

-- a target is empty, or like f
abbrev Like : ColorTargetState → Option ColorTargetState → Type 0
Like f None = Unit {0}
Like f (Some t) = Alike f t

like_one : (f : ColorTargetState) (o : Option ColorTargetState) → Decides (like_first (Some f) o) (Like f o)
like_one f None = (λ h. tt, λ l. refl)
like_one f (Some t) = alike f t

like_each : (f : ColorTargetState) (targets : Targets) → Decides (alike_after (Some f) targets) (All (Like f) targets)
like_each f = Decides-by_and (like_first (Some f)) (Like f) (alike_after (Some f)) (like_one f) refl (λ _ _. refl)

-- what is true of an empty target, and of each that is not empty, is true of all
from_each : (targets : Targets) (P : Option ColorTargetState → Type 0) → P None → ((t : ColorTargetState) → Contains targets (Some t) → P (Some t)) → All P targets
from_each targets P n f =
    All-weaker (Contains targets) P (λ o. elim o as (λ v. Contains targets v → P v) [ None ↦ λ w. n | Some t ↦ f t ]) targets (All-contains_itself targets)

all_alike : (targets : Targets) → alike_targets targets ≡ true → AllAlike targets
all_alike [] h s t v w = absurd (not-suc-le-zero v.1)
all_alike (None ∷ rest) h s t v w = all_alike rest h s t (Contains-tail None rest (Some s) (λ e. cc) v) (Contains-tail None rest (Some t) (λ e. cc) w)
all_alike (Some f ∷ rest) h s t v w =
    let a : All (Like f) (Some f ∷ rest) = All-cons (Like f) (Some f) rest (refl, refl) ((like_each f rest).0 h) in
    same_as f s t (All-contains (Like f) (Some f ∷ rest) (Some s) a v) (All-contains (Like f) (Some f ∷ rest) (Some t) a w)

alike_from : (targets : Targets) → AllAlike targets → alike_targets targets ≡ true
alike_from [] a = refl
alike_from (None ∷ rest) a = alike_from rest (λ s t v w. a s t (Contains-append_right (None ∷ []) rest (Some s) v) (Contains-append_right (None ∷ []) rest (Some t) w))
alike_from (Some f ∷ rest) a =
    (like_each f rest).1 (All-tail (Like f) (Some f) rest (from_each (Some f ∷ rest) (Like f) tt (λ t. a f t (0, omega arith, refl))))

module _ (d : Device) (targets : Targets) where
  independent_lawful : first_of (independent_verdict d targets ∷ []) ≡ None → IndependentLawful d targets
  independent_lawful h n =
      let unlike : alike_targets targets ≡ false = false_from_ne_true _ (λ t. n (all_alike targets t)) in
      grind (arith, verdict_cases)

  none_independent : IndependentLawful d targets → first_of (independent_verdict d targets ∷ []) ≡ None
  none_independent l =
      let flag : alike_targets targets ≡ false → includes_flags d.downlevel independent_blend ≡ true = λ f. l (λ a. false≢true (sym f ∙ alike_from targets a)) in
      grind (arith, verdict_cases)

  -- all that the judging answers, from its value
  pub independent_judged : (r : Result (Unit {0}) CreateRenderPipelineError) → r ≡ answer (independent_verdict d targets) tt → IndependentJudged d targets r
  independent_judged r h =
      judged (independent_verdict d targets ∷ []) tt (IndependentLawful d targets) independent_lawful none_independent r (last (independent_verdict d targets) tt r h)

module _ (targets : Targets) where
  dual_lawful : first_of (dual_verdict targets ∷ []) ≡ None → DualLawful targets
  dual_lawful h t w e =
      let reads : reads_second_any targets ≡ true = sym (any_second targets) ∙ list_any-from_Any reads_second_at targets (w.0, Some t, w.1, w.2, e) in
      grind (arith, verdict_cases, nat_tests)

  no_second : DualLawful targets → 1 < length targets → reads_second_any targets ≡ false
  no_second l more =
      let none = from_each targets (λ o. reads_second_at o ≡ false) refl (λ t w. false_from_ne_true _ (λ e. let one = l t w e in omega arith)) in
      sym (any_second targets) ∙ list_any_none reads_second_at targets none

  none_dual : DualLawful targets → first_of (dual_verdict targets ∷ []) ≡ None
  none_dual l = grind (arith, verdict_cases, nat_tests, no_second l)

  pub dual_judged : (r : Result (Unit {0}) CreateRenderPipelineError) → r ≡ answer (dual_verdict targets) tt → DualJudged targets r
  dual_judged r h = judged (dual_verdict targets ∷ []) tt (DualLawful targets) dual_lawful none_dual r (last (dual_verdict targets) tt r h)
