-- Checks one after the other, each by a call with `?`: one that refuses ends it with its fault, and one that passes leaves the answer to the rest.
-- The verdicts of a call stand first among those of the whole: a verdict or a list of them, as they are or inside an outer fault.
use Rattle.std.proofs.Common.{◌≡◌, List, [], ◌∷◌, ◌++◌, map, Some, None, Ok, Err, Option, Result, sym, refl, ap, ◌∙◌}
use Rattle.faults.specs.Faults.{or_else, first_of, answer, within}
use Rattle.faults.proofs.Order.{first_of-append, or_none}

-- one verdict that is none
pub skip : {A B E : Type 0} (o p : Option E) (x a : A) (b : B) (r : Result B E) → Ok x ≡ answer o a → r ≡ answer p b → r ≡ answer (or_else o p) b
skip (Some d) p x a b r h k = cc
skip None p x a b r h k = k

-- one verdict, inside an outer fault
pub stop_in : {A B E F : Type 0} (f : E → F) (o : Option E) (p : Option F) (e : E) (a : A) (b : B) → Err e ≡ answer o a → Err (f e) ≡ answer (or_else (within f o) p) b
stop_in f (Some d) p e a b h = cc
stop_in f None p e a b h = cc

pub skip_in : {A B E F : Type 0} (f : E → F) (o : Option E) (p : Option F) (x a : A) (b : B) (r : Result B F) → Ok x ≡ answer o a → r ≡ answer p b → r ≡ answer (or_else (within f o) p) b
skip_in f (Some d) p x a b r h k = cc
skip_in f None p x a b r h k = k

-- the last verdict
pub last : {B E : Type 0} (o : Option E) (b : B) (r : Result B E) → r ≡ answer o b → r ≡ answer (or_else o None) b
last o b r h = h ∙ ap (λ p. answer p b) (sym (or_none o))

-- a list of verdicts, inside an outer fault
within_or : {E F : Type 0} (f : E → F) (o p : Option E) → or_else (within f o) (within f p) ≡ within f (or_else o p)
within_or f (Some e) p = refl
within_or f None p = refl

pub first_of-within : {E F : Type 0} (f : E → F) (os : List (Option E)) → first_of (map (within f) os) ≡ within f (first_of os)
first_of-within f [] = refl
first_of-within f (o ∷ os) = ap (or_else (within f o)) (first_of-within f os) ∙ within_or f o (first_of os)

joint : {E F : Type 0} (f : E → F) (os : List (Option E)) (ps : List (Option F)) → first_of (map (within f) os ++ ps) ≡ or_else (within f (first_of os)) (first_of ps)
joint f os ps = first_of-append (map (within f) os) ps ∙ ap (λ o. or_else o (first_of ps)) (first_of-within f os)

module _ {A B E F : Type 0} (f : E → F) (os : List (Option E)) (ps : List (Option F)) where
  pub stop_list_in : (e : E) (a : A) (b : B) → Err e ≡ answer (first_of os) a → Err (f e) ≡ answer (first_of (map (within f) os ++ ps)) b
  stop_list_in e a b h = stop_in f (first_of os) (first_of ps) e a b h ∙ ap (λ o. answer o b) (sym (joint f os ps))

  pub skip_list_in : (x a : A) (b : B) (r : Result B F) → Ok x ≡ answer (first_of os) a → r ≡ answer (first_of ps) b → r ≡ answer (first_of (map (within f) os ++ ps)) b
  skip_list_in x a b r h k = skip_in f (first_of os) (first_of ps) x a b r h k ∙ ap (λ o. answer o b) (sym (joint f os ps))

pub none_within : {E F : Type 0} (f : E → F) (o : Option E) → o ≡ None → within f o ≡ None
none_within f o h = ap (within f) h
