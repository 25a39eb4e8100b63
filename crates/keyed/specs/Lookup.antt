-- The map over a list of places: what stands under a key, and what an insert leaves.
use Rattle.std.specs.Prelude.{◌≡◌, ℕ, suc, ◌+◌, ◌<◌, Bool, true, false, cond, ◌&&◌, List, [], ◌∷◌, length, replicate, is_ok, Some, None, Ok, Err, Option, Result, ◌==◌}
use Rattle.keyed.specs.declared.Entry.{Entry}
use Rattle.keyed.specs.declared.Full.{Full}
use Rattle.keyed.specs.declared.Subresource.{Subresource}

-- whether a place has the key
abbrev pub hit : {K V : Type 0} (same : K → K → Bool) → K → Option (Entry K V) → Bool
hit same k None = false
hit same k (Some e) = same e.key k

abbrev pub is_empty : {K V : Type 0} → Option (Entry K V) → Bool
is_empty None = true
is_empty (Some e) = false

abbrev pub value_of : {K V : Type 0} → Option (Entry K V) → Option V
value_of None = None
value_of (Some e) = Some e.value

-- the value that stands under a key: that of the first place whose key is the same
unfoldable pub lookup : {K V : Type 0} (same : K → K → Bool) → List (Option (Entry K V)) → K → Option V
lookup same [] k = None
lookup same (None ∷ ps) k = lookup same ps k
lookup same (Some e ∷ ps) k = cond (same e.key k) (Some e.value) (lookup same ps k)

-- how many places are taken
unfoldable pub taken : {K V : Type 0} → List (Option (Entry K V)) → ℕ
taken [] = 0
taken (None ∷ ps) = taken ps
taken (Some e ∷ ps) = suc (taken ps)

-- a new key takes one place more, and one that was there none
abbrev pub places_more : {V : Type 0} → Option V → ℕ
places_more None = 1
places_more (Some v) = 0

-- after an insert that answered the earlier value: the key has the new value, each other key what it had, and a new key has taken one place
pub record Stored {K V : Type 0} (same : K → K → Bool) (ps : List (Option (Entry K V))) (k : K) (v : V) (earlier : Option V) (qs : List (Option (Entry K V))) : Type 0 where
  pub answers : earlier ≡ lookup same ps k
  pub places : length qs ≡ length ps
  pub finds : (j : K) → lookup same qs j ≡ cond (same k j) (Some v) (lookup same ps j)
  pub takes : taken qs ≡ taken ps + places_more earlier

-- after an insert that was refused: the key was new, every place was taken, and nothing has changed
pub record Refused {K V : Type 0} (same : K → K → Bool) (ps : List (Option (Entry K V))) (k : K) (qs : List (Option (Entry K V))) : Type 0 where
  pub new : lookup same ps k ≡ None
  pub full : taken ps ≡ length ps
  pub unchanged : qs ≡ ps

abbrev pub Inserts : {K V : Type 0} (same : K → K → Bool) → List (Option (Entry K V)) → K → V → Result (Option V) Full → List (Option (Entry K V)) → Type 0
Inserts same ps k v (Ok earlier) qs = Stored same ps k v earlier qs
Inserts same ps k v (Err e) qs = Refused same ps k qs

-- the places hold what n empty ones hold after an insert of each of the keys, the latest first
abbrev pub Filled : {K V : Type 0} (same : K → K → Bool) → ℕ → List K → List (Option (Entry K V)) → Type 0
Filled same n [] ps = ps ≡ replicate n None
Filled {K} {V} same n (k ∷ ks) ps =
    (qs : List (Option (Entry K V))) × (v : V) × (earlier : Option V) × Filled same n ks qs × Stored same qs k v earlier ps

-- the key is none of these
abbrev pub Different : {K : Type 0} (same : K → K → Bool) → K → List K → Type 0
Different same k [] = Unit {0}
Different same k (j ∷ js) = (same j k ≡ false) × Different same k js

-- over n empty places n inserts are never refused; and one of a key that differs from those before it finds no earlier value
abbrev pub NeverRefused : {K V : Type 0} (same : K → K → Bool) → List (Option (Entry K V)) → K → Result (Option V) Full → Type 0
NeverRefused {K} same ps k r =
    (n : ℕ) (ks : List K) → Filled same n ks ps → length ks < n → (is_ok r ≡ true) × (Different same k ks → r ≡ Ok None)

-- two parts of textures are the same if texture, mip and layer are
abbrev pub same_subresource : Subresource → Subresource → Bool
same_subresource a b = a.texture == b.texture && a.mip == b.mip && a.layer == b.layer
