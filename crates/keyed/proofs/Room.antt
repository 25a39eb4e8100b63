-- What inserts into empty places leave: how many places there are, how many are taken at most, and nothing under a key that differs from theirs.
use Rattle.std.proofs.Common.{◌≡◌, ℕ, zero, suc, ◌≤◌, Bool, List, [], ◌∷◌, length, replicate, Some, None, Ok, Err, Option, Result, refl, ap, ◌∙◌, arith}
use Rattle.std.specs.Result.{IsErr}
use lib.ListN.{length-replicate}
use Rattle.keyed.specs.declared.Entry.{Entry}
use Rattle.keyed.specs.declared.Full.{Full}
use Rattle.keyed.specs.Lookup.{lookup, taken, places_more, Stored, Refused, Filled, Different, NeverRefused, Inserts}

-- an insert takes at most one place
places_more_le : {V : Type 0} (earlier : Option V) → places_more earlier ≤ 1
places_more_le None = omega arith
places_more_le (Some v) = omega arith

-- of empty places none is taken
pub empty_taken : (K V : Type 0) (n : ℕ) → taken {K = K} {V = V} (replicate n None) ≡ 0
unfolding taken
empty_taken K V zero = refl
empty_taken K V (suc n) = empty_taken K V n

module _ {K V : Type 0} (same : K → K → Bool) where
  -- and under every key stands nothing
  pub empty_lookup : (n : ℕ) (k : K) → lookup {V = V} same (replicate n None) k ≡ None
  unfolding lookup
  empty_lookup zero k = refl
  empty_lookup (suc n) k = empty_lookup n k

  -- inserts keep the number of places
  filled_length : (n : ℕ) (ks : List K) (ps : List (Option (Entry K V))) → Filled same n ks ps → length ps ≡ n
  filled_length n [] ps f = ap length f ∙ length-replicate n None
  filled_length n (k ∷ ks) ps (qs, v, earlier, f, s) = s.places ∙ filled_length n ks qs f

  -- inserts take at most one place each
  filled_taken : (n : ℕ) (ks : List K) (ps : List (Option (Entry K V))) → Filled same n ks ps → taken ps ≤ length ks
  filled_taken n [] ps f = omega (arith, ap taken f ∙ empty_taken K V n)
  filled_taken n (k ∷ ks) ps (qs, v, earlier, f, s) = omega (arith, s.takes, places_more_le earlier, filled_taken n ks qs f)

  -- under a key that differs from those inserted stands nothing
  filled_lookup : (n : ℕ) (ks : List K) (ps : List (Option (Entry K V))) (k : K) → Filled same n ks ps → Different same k ks → lookup same ps k ≡ None
  filled_lookup n [] ps k f d = ap (λ qs. lookup same qs k) f ∙ empty_lookup n k
  filled_lookup n (j ∷ js) ps k (qs, v, earlier, f, s) (d, ds) = grind (arith, s.finds k, filled_lookup n js qs k f ds)

  -- an insert that stored was not refused, and answered nothing earlier for such a key
  pub room_stored : {ps qs : List (Option (Entry K V))} {k : K} {v : V} {earlier : Option V} → Stored same ps k v earlier qs → NeverRefused same ps k (Ok earlier)
  room_stored {ps} {qs} {k} s n ks f h = (refl, λ d. ap Ok (s.answers ∙ filled_lookup n ks ps k f d))

  -- an insert is refused only after as many as there are places
  pub room_refused : {ps qs : List (Option (Entry K V))} {k : K} → Refused same ps k qs → (r : Result (Option V) Full) → IsErr r → NeverRefused same ps k r
  room_refused {ps} s r e n ks f h = absurd (omega (arith, s.full, filled_length n ks ps f, filled_taken n ks ps f))

  -- and it changes nothing
  pub effect_refused : {ps qs : List (Option (Entry K V))} {k : K} (v : V) → Refused same ps k qs → (r : Result (Option V) Full) → IsErr r → Inserts same ps k v r qs
  effect_refused v s (Ok x) e = cc
  effect_refused v s (Err x) e = s
