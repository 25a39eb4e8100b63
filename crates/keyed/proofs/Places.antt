-- The places of a map, one by one: what stands under a key, and what a store leaves.
use Rattle.std.proofs.Common.{◌≡◌, ℕ, zero, suc, ◌<◌, ◌≤◌, Bool, true, false, ◌||◌, List, [], ◌∷◌, length, get_or, set, Some, None, Option, sym, refl, ap, ◌∙◌, inl, inr, ◌⊎◌, cond, arith, position}
use Rattle.std.proofs.lemmas.Bool.{cases_Bool}
use Rattle.std.proofs.lemmas.Bool.Decides.{nat_tests}
use Rattle.std.proofs.lemmas.List.Quantifiers.{position-Some}
use Rattle.std.proofs.lemmas.List.Recursion.{found_at, found_nowhere}
use Rattle.std.proofs.lemmas.List.Sums.{fails_before_first}
use Rattle.std.specs.List.{find, flat_map, position_or_len}
use Rattle.std.specs.Option.{option_map, option_or, option_to_list}
use Rattle.keyed.specs.declared.Entry.{Entry}
use Rattle.keyed.specs.Lookup.{hit, is_empty, value_of, lookup, taken, Stored, Refused}

-- which of the two an `or` answered
or_some : {X : Type 0} (o p : Option X) (x : X) → option_or o p ≡ Some x → (o ≡ Some x) ⊎ ((o ≡ None) × (p ≡ Some x))
or_some None p x h = inr (refl, h)
or_some (Some y) p x h = inl h

or_none : {X : Type 0} (o p : Option X) → option_or o p ≡ None → (o ≡ None) × (p ≡ None)
or_none None p h = (refl, h)
or_none (Some y) p h = cc

-- where no element passes, the search went past the last
nowhere : {X : Type 0} (p : X → Bool) (xs : List X) → position p xs ≡ None → length xs ≤ position_or_len p xs
nowhere p xs h = grind (arith, nat_tests)

-- where no place is empty, every place is taken
taken_all : {K V : Type 0} (ps : List (Option (Entry K V))) → length ps ≤ position_or_len is_empty ps → taken ps ≡ length ps
unfolding taken
taken_all [] h = refl
taken_all (None ∷ ps) h = absurd (omega arith)
taken_all (Some e ∷ ps) h = ap suc (taken_all ps (omega arith))

value_none : {K V : Type 0} (p : Option (Entry K V)) → is_empty p ≡ true → value_of p ≡ None
value_none None h = refl
value_none (Some e) h = cc

-- a place that has the key and the value
abbrev holding : {K V : Type 0} → K → V → Option (Entry K V)
holding k v = Some (record { key = k; value = v })

module _ {K V : Type 0} (same : K → K → Bool) where
  -- what stands under a key, as the first of the taken places that has it
  pub lookup-find : (ps : List (Option (Entry K V))) (k : K) → lookup same ps k ≡ option_map (λ e. e.value) (find (λ e. same e.key k) (flat_map option_to_list ps))
  unfolding lookup
  lookup-find [] k = refl
  lookup-find (None ∷ ps) k = lookup-find ps k
  lookup-find (Some e ∷ ps) k = elim (cases_Bool (same e.key k)) [ inl t ↦ rw t refl | inr f ↦ rw f (lookup-find ps k) ]

  -- what stands under a key, a place at a time
  lookup-cons : (k : K) (p : Option (Entry K V)) (ps : List (Option (Entry K V))) → lookup same (p ∷ ps) k ≡ cond (hit same k p) (value_of p) (lookup same ps k)
  unfolding lookup
  lookup-cons k None ps = refl
  lookup-cons k (Some e) ps = refl

  -- under a key that no place has stands nothing
  pub lookup_none : (ps : List (Option (Entry K V))) (k : K) → position (hit same k) ps ≡ None → lookup same ps k ≡ None
  unfolding lookup
  lookup_none ps k h = found_nowhere (λ qs. lookup same qs k) (hit same k) value_of None refl (lookup-cons k) ps None (λ j l. fails_before_first (hit same k) ps j None (let past = nowhere (hit same k) ps h in omega arith))

  -- where a search for a place ended with none, the key is new and every place taken
  pub refused : (ps : List (Option (Entry K V))) (k : K) → option_or (position (hit same k) ps) (position is_empty ps) ≡ None → Refused same ps k ps
  refused ps k none =
      let (new, full) = or_none (position (hit same k) ps) (position is_empty ps) none in
      record { new = lookup_none ps k new; full = taken_all ps (nowhere is_empty ps full); unchanged = refl }

  module _ (symmetric : (a b : K) → same a b ≡ true → same b a ≡ true) (transitive : (a b c : K) → same a b ≡ true → same b c ≡ true → same a c ≡ true) where
    -- an empty place before the store changes nothing
    past_empty : {ps qs : List (Option (Entry K V))} {k : K} {v : V} {earlier : Option V} → Stored same ps k v earlier qs → Stored same (None ∷ ps) k v earlier (None ∷ qs)
    unfolding lookup taken
    past_empty s = record { answers = s.answers; places = ap suc s.places; finds = s.finds; takes = s.takes }

    -- nor does a place before it that has another key
    past_other : (e : Entry K V) {ps qs : List (Option (Entry K V))} {k : K} {v : V} {earlier : Option V} → same e.key k ≡ false → Stored same ps k v earlier qs → Stored same (Some e ∷ ps) k v earlier (Some e ∷ qs)
    unfolding lookup taken
    past_other e {k = k} other s =
        record {
          answers = grind (arith, s.answers);
          places = ap suc s.places;
          finds = λ j. grind (arith, s.finds j, symmetric k j, transitive e.key j k);
          takes = omega (arith, s.takes);
        }

    -- a store over the same key
    over_same : (e : Entry K V) (ps : List (Option (Entry K V))) (k : K) (v : V) → same e.key k ≡ true → Stored same (Some e ∷ ps) k v (Some e.value) (holding k v ∷ ps)
    unfolding lookup taken
    over_same e ps k v known =
        record {
          answers = grind arith;
          places = refl;
          finds = λ j. grind (arith, symmetric e.key k, transitive k e.key j);
          takes = omega arith;
        }

    -- a store of a new key in an empty place
    over_empty : (ps : List (Option (Entry K V))) (k : K) (v : V) → lookup same ps k ≡ None → Stored same (None ∷ ps) k v None (holding k v ∷ ps)
    unfolding lookup taken
    over_empty ps k v new = record { answers = sym new; places = refl; finds = λ j. refl; takes = omega arith }

    -- a store at place i, which has the key or is empty, where what stands there is what stands under the key
    at_place : (ps : List (Option (Entry K V))) (i : ℕ) (k : K) (v : V) (d : Option (Entry K V)) → i < length ps → ((j : ℕ) → j < i → hit same k (get_or ps j d) ≡ false)
        → (hit same k (get_or ps i d) || is_empty (get_or ps i d)) ≡ true → lookup same ps k ≡ value_of (get_or ps i d) → Stored same ps k v (value_of (get_or ps i d)) (set ps i (holding k v))
    unfolding lookup
    at_place [] i k v d within before here found = absurd (omega arith)
    at_place (None ∷ ps) zero k v d within before here found = over_empty ps k v found
    at_place (Some e ∷ ps) zero k v d within before here found = over_same e ps k v (grind arith)
    at_place (None ∷ ps) (suc i) k v d within before here found = past_empty (at_place ps i k v d (omega arith) (λ j l. before (suc j) (omega arith)) here found)
    at_place (Some e ∷ ps) (suc i) k v d within before here found =
        let other = before 0 (omega arith) in past_other e other (at_place ps i k v d (omega arith) (λ j l. before (suc j) (omega arith)) here (rw other at found))

    -- a store where the search for a place ended
    stored_at : (ps : List (Option (Entry K V))) (i : ℕ) (k : K) (v : V) (d : Option (Entry K V)) → option_or (position (hit same k) ps) (position is_empty ps) ≡ Some i → Stored same ps k v (value_of (get_or ps i d)) (set ps i (holding k v))
    unfolding lookup
    stored_at ps i k v d at =
        elim (or_some (position (hit same k) ps) (position is_empty ps) i at) [
          | inl known ↦
              let (within, here, before) = position-Some (hit same k) ps i d known in
              at_place ps i k v d within before (grind arith) (found_at (λ qs. lookup same qs k) (hit same k) value_of None refl (lookup-cons k) ps i d within before here)
          | inr (new, free) ↦
              let (within, here, before) = position-Some is_empty ps i d free in
              let past = nowhere (hit same k) ps new in
              at_place ps i k v d within (λ j l. fails_before_first (hit same k) ps j d (omega arith)) (grind arith) (lookup_none ps k new ∙ sym (value_none (get_or ps i d) here))
        ]

    -- the same, by what was read and written there
    pub stored : (ps : List (Option (Entry K V))) (i : ℕ) (k : K) (v : V) (old new : Option (Entry K V)) (earlier : Option V) → option_or (position (hit same k) ps) (position is_empty ps) ≡ Some i → old ≡ get_or ps i old → new ≡ holding k v → earlier ≡ value_of old → Stored same ps k v earlier (set ps i new)
    stored ps i k v old new earlier some read written answer = rw (written, answer ∙ ap value_of read) (stored_at ps i k v old some)
