-- What a chain of verdicts answers, a verdict at a time: it is none, or the fault of all.
use Rattle.std.proofs.Common.{◌≡◌, ◌⊎◌, Bool, true, false, Some, None, Ok, Err, Option, Result, refl, ap, ◌∙◌, inl, inr, arith}
use Rattle.std.specs.Result.{MatchResult, IsErrAnd}
use Rattle.std.proofs.lemmas.Grind.{common_steps}
use Rattle.std.proofs.lemmas.Result.{MatchResult-at_ok, MatchResult-at_err, err_from_is_err_and}
use Rattle.faults.specs.Faults.{fault_if, or_else, answer, within}
use Rattle.faults.proofs.Order.{first_of-append}

-- the first part of each is there for `grind`, which finds the verdict by it
pub answer_cases : {A E : Type 0} (o : Option E) (a : A) → (answer o a ≡ answer o a) × (((o ≡ None) × (answer o a ≡ Ok a)) ⊎ ((e : E) × (o ≡ Some e) × (answer o a ≡ Err e)))
answer_cases None a = (refl, inl (refl, refl))
answer_cases (Some e) a = (refl, inr (e, refl, refl))

pub or_else_cases : {E : Type 0} (o p : Option E) → (or_else o p ≡ or_else o p) × (((o ≡ None) × (or_else o p ≡ p)) ⊎ ((e : E) × (o ≡ Some e) × (or_else o p ≡ Some e)))
or_else_cases None p = (refl, inl (refl, refl))
or_else_cases (Some e) p = (refl, inr (e, refl, refl))

pub within_cases : {E F : Type 0} (f : E → F) (o : Option E) → (within f o ≡ within f o) × (((o ≡ None) × (within f o ≡ None)) ⊎ ((e : E) × (o ≡ Some e) × (within f o ≡ Some (f e))))
within_cases f None = (refl, inl (refl, refl))
within_cases f (Some e) = (refl, inr (e, refl, refl))

pub ruleset verdict_cases = (answer_cases, or_else_cases, within_cases)

-- calls with `?`, one after the other, answer the first fault of their verdicts one after the other
pub ruleset in_order = (arith, common_steps, first_of-append)

-- the exit of a `?` returns the fault that it made
pub exits : {A E : Type 0} {e : E} {whole : Result A E} (r : Result A E) → IsErrAnd r (λ d. d ≡ e) → Err e ≡ whole → r ≡ whole
exits r h k = let p = err_from_is_err_and r h in p.1 ∙ ap Err p.2 ∙ k

-- a verdict by one test, its fault made by `map_err` from an inner one
pub mapped : {E F : Type 0} (f : E → F) {Made : E → F → Type 0} (b : Bool) (e : E) (s : Result (Unit {0}) E) (r : Result (Unit {0}) F) → s ≡ answer (fault_if b e) tt → MatchResult s (λ x. r ≡ Ok x) (λ d. IsErrAnd r (Made d)) → ((d : E) (g : F) → Made d g → g ≡ f d) → r ≡ answer (fault_if b (f e)) tt
mapped f false e s r h m made = MatchResult-at_ok (λ x. r ≡ Ok x) _ tt h m
mapped f true e s r h m made =
    let p = err_from_is_err_and r (MatchResult-at_err (λ x. r ≡ Ok x) _ e h m) in
    p.1 ∙ ap Err (made e p.0 p.2)
