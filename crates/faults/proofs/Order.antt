-- The laws of ordered verdicts: what `first_of` means, and how it goes through calls with `?` and through loops.
use Rattle.std.proofs.Common.{◌≡◌, ℕ, zero, suc, ◌+◌, ◌<◌, Bool, true, false, List, [], ◌∷◌, ◌++◌, length, get_or, drop, Some, None, Ok, Err, Option, Result, sym, refl, ap, ◌∙◌, subst, not-suc-le-zero, arith}
use Rattle.std.specs.List.{flat_map, AllByRecursion}
use Rattle.std.proofs.lemmas.List.{at_drop_more}
use Rattle.std.proofs.lemmas.Bool.{false≢true}
use Rattle.faults.specs.Faults.{fault_if, or_else, first_of, answer, FirstIn, Judged}

-- what an answer tells of the verdict that it came from
pub none_from_ok : {A E : Type 0} (o : Option E) (a x : A) → Ok x ≡ answer o a → o ≡ None
none_from_ok (Some e) a x h = cc
none_from_ok None a x h = refl

pub value_from_ok : {A E : Type 0} (o : Option E) (a x : A) → Ok x ≡ answer o a → x ≡ a
value_from_ok (Some e) a x h = cc
value_from_ok None a x h = cc

-- two lists one after the other
or_assoc : {E : Type 0} (a b c : Option E) → or_else (or_else a b) c ≡ or_else a (or_else b c)
or_assoc (Some e) b c = refl
or_assoc None b c = refl

pub first_of-append : {E : Type 0} (os ps : List (Option E)) → first_of (os ++ ps) ≡ or_else (first_of os) (first_of ps)
first_of-append [] ps = refl
first_of-append (o ∷ os) ps = ap (or_else o) (first_of-append os ps) ∙ sym (or_assoc o (first_of os) (first_of ps))

-- a call with `?`: where its verdict is a fault, that is the answer of all; where it is none, the rest answers
pub or_first : {A B E : Type 0} (o p : Option E) (e : E) (a : A) (b : B) → Err e ≡ answer o a → Err e ≡ answer (or_else o p) b
or_first (Some d) p e a b h = cc
or_first None p e a b h = cc

pub or_next : {A B E : Type 0} (o p : Option E) (x a : A) (b : B) → Ok x ≡ answer o a → answer (or_else o p) b ≡ answer p b
or_next (Some d) p x a b h = cc
or_next None p x a b h = refl

pub or_none : {E : Type 0} (o : Option E) → or_else o None ≡ o
or_none (Some e) = refl
or_none None = refl

-- a loop whose answer, from the i-th element on, is R of the rest: the i-th verdict o is the answer, or leaves it to what follows
module _ {X A E : Type 0} (R : List X → Result A E) (xs : List X) (i : ℕ) (x : X) (o p : Option E) (b : A)
    (step : R (get_or xs i x ∷ drop (i + 1) xs) ≡ answer (or_else o p) b)
    (h : i < length xs) (whole : Result A E) (q : whole ≡ R (drop i xs)) where
  here : whole ≡ answer (or_else o p) b
  here = q ∙ at_drop_more R xs i x h ∙ step

  pub loop_refused : {B : Type 0} (a : B) (e : E) → Err e ≡ answer o a → Err e ≡ whole
  loop_refused a e r = or_first o p e a b r ∙ sym here

  pub loop_passed : {B : Type 0} (a y : B) → Ok y ≡ answer o a → whole ≡ answer p b
  loop_passed a y r = here ∙ or_next o p y a b r

-- the same, where the i-th element has a list of verdicts, before those of what follows
module _ {X A E : Type 0} (R : List X → Result A E) (xs : List X) (i : ℕ) (x : X) (os ps : List (Option E)) (b : A)
    (step : R (get_or xs i x ∷ drop (i + 1) xs) ≡ answer (first_of (os ++ ps)) b)
    (h : i < length xs) (whole : Result A E) (q : whole ≡ R (drop i xs)) where
  lists : R (get_or xs i x ∷ drop (i + 1) xs) ≡ answer (or_else (first_of os) (first_of ps)) b
  lists = step ∙ ap (λ o. answer o b) (first_of-append os ps)

  pub lists_refused : {B : Type 0} (a : B) (e : E) → Err e ≡ answer (first_of os) a → Err e ≡ whole
  lists_refused a e r = loop_refused R xs i x (first_of os) (first_of ps) b lists h whole q a e r

  pub lists_passed : {B : Type 0} (a y : B) → Ok y ≡ answer (first_of os) a → whole ≡ answer (first_of ps) b
  lists_passed a y r = loop_passed R xs i x (first_of os) (first_of ps) b lists h whole q a y r

-- what `first_of` means
earlier : {E : Type 0} (os : List (Option E)) (k : ℕ) → ((j : ℕ) → j < k → get_or os j None ≡ None) → (j : ℕ) → j < suc k → get_or (None ∷ os) j None ≡ None
earlier os k q zero h = refl
earlier os k q (suc j) h = q j (omega arith)

later : {E : Type 0} (os : List (Option E)) (o : Option E) → FirstIn os o → FirstIn (None ∷ os) o
later os (Some e) w = (suc w.0, (let l = w.1 in omega arith), w.2, earlier os w.0 w.3)
later os None q = λ j h. earlier os (length os) q j h

pub first_in : {E : Type 0} (os : List (Option E)) → FirstIn os (first_of os)
first_in [] = λ j h. absurd (not-suc-le-zero h)
first_in (Some e ∷ os) = (0, omega arith, refl, λ j h. absurd (not-suc-le-zero h))
first_in (None ∷ os) = later os (first_of os) (first_in os)

-- there is no fault exactly where every verdict is none
pub all_none : {E : Type 0} (os : List (Option E)) → first_of os ≡ None → AllByRecursion (λ o. o ≡ None) os
all_none [] h = tt
all_none (Some e ∷ os) h = let z : ◌≡◌ {A = ℕ} 0 1 = cc in absurd (omega arith)
all_none (None ∷ os) h = (refl, all_none os h)

pub none_all : {E : Type 0} (os : List (Option E)) → AllByRecursion (λ o. o ≡ None) os → first_of os ≡ None
none_all [] h = refl
none_all (o ∷ os) h = ap (λ v. or_else v (first_of os)) h.0 ∙ none_all os h.1

-- of two lists one after the other, and of the lists that elements give
none_left : {E : Type 0} (o p : Option E) → or_else o p ≡ None → o ≡ None
none_left (Some e) p h = cc
none_left None p h = refl

none_right : {E : Type 0} (o p : Option E) → or_else o p ≡ None → p ≡ None
none_right (Some e) p h = cc
none_right None p h = h

pub both_none : {E : Type 0} (os ps : List (Option E)) → first_of (os ++ ps) ≡ None → (first_of os ≡ None) × (first_of ps ≡ None)
both_none os ps h =
    let k = sym (first_of-append os ps) ∙ h in
    (none_left (first_of os) (first_of ps) k, none_right (first_of os) (first_of ps) k)

pub none_both : {E : Type 0} (os ps : List (Option E)) → first_of os ≡ None → first_of ps ≡ None → first_of (os ++ ps) ≡ None
none_both os ps h k = first_of-append os ps ∙ ap (λ o. or_else o (first_of ps)) h ∙ k

pub each_none : {X E : Type 0} (f : X → List (Option E)) (xs : List X) → first_of (flat_map f xs) ≡ None → AllByRecursion (λ x. first_of (f x) ≡ None) xs
each_none f [] h = tt
each_none f (x ∷ xs) h = let k = both_none (f x) (flat_map f xs) h in (k.0, each_none f xs k.1)

pub none_each : {X E : Type 0} (f : X → List (Option E)) (xs : List X) → AllByRecursion (λ x. first_of (f x) ≡ None) xs → first_of (flat_map f xs) ≡ None
none_each f [] h = refl
none_each f (x ∷ xs) h = none_both (f x) (flat_map f xs) h.0 (none_each f xs h.1)

-- a test that makes no fault does not pass
pub not_if : {E : Type 0} (b : Bool) (e : E) → fault_if b e ≡ None → b ≡ false
not_if true e h = cc
not_if false e h = refl

pub if_not : {E : Type 0} (b : Bool) (e : E) → b ≡ false → fault_if b e ≡ None
if_not b e h = ap (λ t. fault_if t e) h

-- the meaning, at what a function answered
pub first_in_at : {E : Type 0} (os : List (Option E)) (o : Option E) → o ≡ first_of os → FirstIn os o
first_in_at {E} os o h = let P : Option E → Type 0 = FirstIn os in subst P (sym h) (first_in os)

-- all that a judging answers, from its value, where the verdicts are all none exactly if the rules hold
module _ {A E : Type 0} (os : List (Option E)) (a : A) (Rules : Type 0) (lawful : first_of os ≡ None → Rules) (passes : Rules → first_of os ≡ None) where
  judged_as : (o : Option E) → o ≡ first_of os → Judged os a Rules (answer o a)
  judged_as None h = record { value = ap (λ p. answer p a) h; lawful = λ t. lawful (sym h); accepted = λ l. refl; refuses = tt }
  judged_as (Some e) h =
      record {
        value = ap (λ p. answer p a) h;
        lawful = λ t. absurd (false≢true t);
        accepted = λ l. let n = passes l in cc;
        refuses = first_in_at os (Some e) h;
      }

  pub judged : (r : Result A E) → r ≡ answer (first_of os) a → Judged os a Rules r
  judged r h = rw h (judged_as (first_of os) refl)

-- a loop over the verdicts themselves: one that is a fault ends it, and one that is none leaves the answer to the rest
module _ {E : Type 0} (os : List (Option E)) (i : ℕ) (o : Option E) (q : first_of os ≡ first_of (drop i os)) (h : i < length os) (r : o ≡ get_or os i o) where
  pub scan_stops : (e : E) → o ≡ Some e → Some e ≡ first_of os
  scan_stops e p = sym (q ∙ at_drop_more first_of os i o h ∙ ap (λ v. or_else v (first_of (drop (i + 1) os))) (sym r ∙ p))

  pub scan_passes : o ≡ None → first_of os ≡ first_of (drop (i + 1) os)
  scan_passes p = q ∙ at_drop_more first_of os i o h ∙ ap (λ v. or_else v (first_of (drop (i + 1) os))) (sym r ∙ p)
