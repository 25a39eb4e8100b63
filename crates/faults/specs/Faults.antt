-- Ordered checks: the verdict of each is a fault or none, and the first fault of a list of them is the answer.
use Rattle.std.specs.Prelude.{◌≡◌, ℕ, ◌<◌, Bool, true, cond, List, [], ◌∷◌, length, is_ok, Some, None, Ok, Err, Option, Result, slice_index_or}

-- the fault where the test passes, else none
abbrev pub fault_if : {E : Type 0} → Bool → E → Option E
fault_if b e = cond b (Some e) None

abbrev pub or_else : {E : Type 0} → Option E → Option E → Option E
or_else (Some e) o = Some e
or_else None o = o

-- the first fault of a list of verdicts
abbrev pub first_of : {E : Type 0} → List (Option E) → Option E
first_of [] = None
first_of (o ∷ os) = or_else o (first_of os)

-- what a call with this verdict answers: the fault, or the value where there is none
abbrev pub answer : {A E : Type 0} → Option E → A → Result A E
answer (Some e) a = Err e
answer None a = Ok a

-- the verdict of an inner layer, its fault inside the outer layer's
abbrev pub within : {E F : Type 0} → (E → F) → Option E → Option F
within f (Some e) = Some (f e)
within f None = None

-- what `first_of` means: a fault is the verdict at some place, and every earlier place has none; and it is none only where no place has one
abbrev pub FirstIn : {E : Type 0} → List (Option E) → Option E → Type 0
FirstIn os (Some e) = (k : ℕ) × (k < length os) × (slice_index_or os k None ≡ Some e) × ((j : ℕ) → j < k → slice_index_or os j None ≡ None)
FirstIn os None = (j : ℕ) → j < length os → slice_index_or os j None ≡ None

-- a refusal is the first fault of the verdicts
abbrev pub RefusesFirst : {A E : Type 0} → List (Option E) → Result A E → Type 0
RefusesFirst os (Ok a) = Unit {0}
RefusesFirst os (Err e) = FirstIn os (Some e)

-- what a judging by ordered verdicts answers: the value where the rules hold, and only there, else the first fault
pub record Judged {A E : Type 0} (os : List (Option E)) (a : A) (Rules : Type 0) (r : Result A E) : Type 0 where
  pub value : r ≡ answer (first_of os) a
  pub lawful : is_ok r ≡ true → Rules
  pub accepted : Rules → is_ok r ≡ true
  pub refuses : RefusesFirst os r
