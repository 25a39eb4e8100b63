-- A new location below 32 always finds room among 32 places: each place that is taken has such a location of its own.
use Rattle.std.proofs.Common.{◌≡◌, ℕ, zero, suc, ◌<◌, ◌≤◌, Bool, true, false, cond, ◌||◌, eqb, replicate, is_some, Some, None, Ok, Err, Option, Result, sym, refl, ap, ◌∙◌, not-suc-le-zero, arith}
use mathlib.Core.Path.{fun_ext}
use Rattle.formats.specs.declared.vertex.VertexFormat.{VertexFormat}
use Rattle.keyed.specs.Lookup.{lookup, taken, Stored, Refused, Inserts}
use Rattle.keyed.specs.declared.Full.{Full}
use Rattle.keyed.proofs.Room.{empty_taken, empty_lookup}
use Rattle.vertex.specs.Claims.{Places, claimed, count_below, Roomy, Claims}
use Rattle.vertex.specs.Order.{unused}

abbrev also : ℕ → (ℕ → Bool) → ℕ → Bool
also k used l = eqb k l || used l

-- one more location that is not below n
count_past : (n k : ℕ) (used : ℕ → Bool) → n ≤ k → count_below n (also k used) ≡ count_below n used
unfolding count_below
count_past zero k used h = refl
count_past (suc n) k used h = grind (arith, count_past n k used (omega arith))

-- and one that is, and that was not claimed
count_more : (n k : ℕ) (used : ℕ → Bool) → k < n → used k ≡ false → count_below n (also k used) ≡ suc (count_below n used)
unfolding count_below
count_more zero k used h f = absurd (not-suc-le-zero h)
count_more (suc n) k used h f = grind (arith, count_past n k used, count_more n k used)

count_le : (n : ℕ) (used : ℕ → Bool) → count_below n used ≤ n
unfolding count_below
count_le zero used = omega arith
count_le (suc n) used = grind (arith, count_le n used)

-- where one below n is not claimed, not all are
count_lt : (n k : ℕ) (used : ℕ → Bool) → k < n → used k ≡ false → count_below n used < n
count_lt n k used h f = omega (arith, count_more n k used h f, count_le n (also k used))

-- one that was claimed before
also_known : (k : ℕ) (used : ℕ → Bool) → used k ≡ true → also k used ≡ used
also_known k used t = fun_ext (λ l. grind (arith, t))

-- a new location is not refused
pub not_refused : (ps : Places) (k : ℕ) (qs : Places) → k < 32 → Roomy ps → Refused eqb ps k qs → ⊥
not_refused ps k qs h r w = omega (arith, count_lt 32 k (claimed ps) h (ap is_some w.new), w.full, r.size, r.room)

some_or : {A : Type 0} (b : Bool) (v : A) (o : Option A) → is_some (cond b (Some v) o) ≡ (b || is_some o)
some_or b v o = grind arith

module _ (ps : Places) (k : ℕ) (v : VertexFormat) (qs : Places) where
  marks : (earlier : Option VertexFormat) → Stored eqb ps k v earlier qs → claimed qs ≡ also k (claimed ps)
  marks earlier w = fun_ext (λ l. ap is_some (w.finds l) ∙ some_or (eqb k l) v (lookup eqb ps l))

  room : (earlier : Option VertexFormat) → k < 32 → Roomy ps → Stored eqb ps k v earlier qs → taken qs ≤ count_below 32 (claimed qs)
  room None h r w = omega (arith, w.takes, r.room, ap (count_below 32) (marks None w), count_more 32 k (claimed ps) h (ap is_some (sym w.answers)))
  room (Some u) h r w =
      omega (arith, w.takes, r.room, ap (count_below 32) (marks (Some u) w ∙ also_known k (claimed ps) (ap is_some (sym w.answers))))

  -- after a store the location is claimed besides those before, and there is still room
  pub claims : (earlier : Option VertexFormat) → k < 32 → Roomy ps → Stored eqb ps k v earlier qs → Claims (also k (claimed ps)) qs
  claims earlier h r w =
      record { roomy = record { size = w.places ∙ r.size; room = room earlier h r w }; marks = marks earlier w }

  -- so there is, whatever the insert answers
  pub room_kept : (r : Result (Option VertexFormat) Full) → k < 32 → Roomy ps → Inserts eqb ps k v r qs → Roomy qs
  room_kept (Ok earlier) h r w = (claims earlier h r w).roomy
  room_kept (Err e) h r w = rw w.unchanged r

-- at the start nothing is claimed, and every place is empty
pub none_claimed : claimed (replicate 32 None) ≡ unused
none_claimed = fun_ext (λ l. ap is_some (empty_lookup {V = VertexFormat} eqb 32 l))

pub all_room : Roomy (replicate 32 None)
all_room = record { size = refl; room = omega (arith, empty_taken ℕ VertexFormat 32) }
