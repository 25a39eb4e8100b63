-- The verdicts in order are all none exactly if every rule holds.
use Rattle.std.proofs.Common.{◌≡◌, ℕ, ◌+◌, ◌%◌, ◌≤◌, Bool, true, false, not, eqb, ◌≢◌, List, [], ◌∷◌, ◌++◌, length, get_or, Some, None, All, Contains, Option, Result, refl, arith}
use Rattle.std.proofs.lemmas.List.Elements.{All-from_recursion, recursion_from_All, All-nil, All-cons, All-head, All-tail, All-weaker, All-contains, All-contains_itself}
use Rattle.std.proofs.lemmas.Bool.{not-false, lt-leb, eqb-true, eqb-false, ne_eqb, or_parts, or_from}
use Rattle.faults.specs.Faults.{first_of, Judged}
use Rattle.faults.proofs.Order.{each_none, none_each, if_not, judged}
use Rattle.formats.specs.Features.{includes, vertex_attribute_64bit}
use Rattle.formats.specs.Vertex.{is64bit}
use Rattle.device.specs.declared.Device.{Device}
use Rattle.descriptor.specs.Vertex.{part_of, attributes_of}
use Rattle.descriptor.specs.declared.vertex.VertexAttribute.{VertexAttribute}
use Rattle.descriptor.specs.declared.vertex.VertexBufferLayout.{VertexBufferLayout}
use Rattle.vertex.specs.declared.error.VertexStateError.{VertexStateError}
use Rattle.vertex.specs.Order.{attribute_verdicts, attributes_verdicts, far_verdict, format_verdict, claims_verdicts, mark, mark_all, reach, part_verdicts, slots_verdicts, ranges_verdicts, vertex_verdicts, unused}
use Rattle.vertex.specs.Claims.{InList}
use Rattle.vertex.proofs.Loops.{ranges_answer}
use Rattle.faults.proofs.Verdicts.{in_order}
use Rattle.vertex.proofs.Slots.{all_stay, none_stay, from_each}
use Rattle.vertex.specs.Rules.{AttributeLawful, SlotLawful, PairwiseDifferent, Lawful, InRange}

-- a test of an equation that is denied
differs : (a b : ℕ) → not (eqb a b) ≡ false → a ≡ b
differs a b h = eqb-true a b (not-false _ h)

-- the feature of a format
module _ (d : Device) (a : VertexAttribute) where
  format_none : format_verdict d a ≡ None → is64bit a.format ≡ true → includes d.features vertex_attribute_64bit ≡ true
  format_none h t = grind (arith, h, t)

  none_format : (is64bit a.format ≡ true → includes d.features vertex_attribute_64bit ≡ true) → format_verdict d a ≡ None
  none_format h = grind (arith, h)

  -- the second round, but for the clash
  abbrev Claimable : Type 0
  Claimable = (far_verdict a ≡ None) × (format_verdict d a ≡ None)

  module _ (most : ℕ) where
    attribute_lawful : first_of (attribute_verdicts d most a) ≡ None → Claimable → AttributeLawful d most a
    attribute_lawful h k =
        record {
          end = grind (in_order, h);
          aligned = grind (in_order, h);
          location = grind (in_order, h);
          near = grind (in_order, k.0);
          format = format_none k.1;
        }

    first_round : AttributeLawful d most a → first_of (attribute_verdicts d most a) ≡ None
    first_round l = grind (in_order, l.end, l.aligned, l.location)

    second_round : AttributeLawful d most a → Claimable
    second_round l = (if_not _ _ (lt-leb _ _ l.near), none_format l.format)

-- two facts of each element make a third
all_both : {X : Type 0} (P Q R : X → Type 0) → ((x : X) → P x → Q x → R x) → (xs : List X) → All P xs → All Q xs → All R xs
all_both P Q R f xs p q k d l = f (get_or xs k d) (p k d l) (q k d l)

-- each attribute's location was free when it was claimed
abbrev Fresh : (ℕ → Bool) → List VertexAttribute → Type 0
Fresh used [] = Unit {0}
Fresh used (a ∷ rest) = (used a.shader_location ≡ false) × Fresh (mark used a) rest

fresh_append : (used : ℕ → Bool) (xs ys : List VertexAttribute) → Fresh used xs → Fresh (mark_all used xs) ys → Fresh used (xs ++ ys)
fresh_append used [] ys p q = q
fresh_append used (x ∷ xs) ys p q = (p.0, fresh_append (mark used x) xs ys p.1 q)

fresh_left : (used : ℕ → Bool) (xs ys : List VertexAttribute) → Fresh used (xs ++ ys) → Fresh used xs
fresh_left used [] ys p = tt
fresh_left used (x ∷ xs) ys p = (p.0, fresh_left (mark used x) xs ys p.1)

fresh_right : (used : ℕ → Bool) (xs ys : List VertexAttribute) → Fresh used (xs ++ ys) → Fresh (mark_all used xs) ys
fresh_right used [] ys p = p
fresh_right used (x ∷ xs) ys p = fresh_right (mark used x) xs ys p.1

-- which is that no two have one location, and none has one that was used before
abbrev Free : (ℕ → Bool) → VertexAttribute → Type 0
Free used a = used a.shader_location ≡ false

fresh_free : (used : ℕ → Bool) (xs : List VertexAttribute) → Fresh used xs → All (Free used) xs
fresh_free used [] p = All-nil (Free used)
fresh_free used (x ∷ xs) p =
    All-cons (Free used) x xs p.0 (All-weaker (Free (mark used x)) (Free used) (λ a h. (or_parts _ _ h).1) xs (fresh_free (mark used x) xs p.1))

fresh_different : (used : ℕ → Bool) (xs : List VertexAttribute) → Fresh used xs → PairwiseDifferent xs
fresh_different used [] p = tt
fresh_different used (x ∷ xs) p = (
  All-weaker (Free (mark used x)) (λ b. x.shader_location ≢ b.shader_location) (λ a h. eqb-false _ _ (or_parts _ _ h).0) xs (fresh_free (mark used x) xs p.1),
  fresh_different (mark used x) xs p.1,
)

different_fresh : (used : ℕ → Bool) (xs : List VertexAttribute) → All (Free used) xs → PairwiseDifferent xs → Fresh used xs
different_fresh used [] p q = tt
different_fresh used (x ∷ xs) p q = (
  All-head (Free used) x xs p,
  different_fresh (mark used x) xs
      (all_both (λ b. x.shader_location ≢ b.shader_location) (Free used) (Free (mark used x)) (λ b n f. or_from _ _ (ne_eqb _ _ n) f) xs q.0 (All-tail (Free used) x xs p))
      q.1,
)

all_unused : (xs : List VertexAttribute) → All (Free unused) xs
all_unused xs k d l = refl

-- the second round at the attributes of a slot
module _ (d : Device) where
  claims_none : (used : ℕ → Bool) (part : List VertexAttribute) → first_of (claims_verdicts d used part) ≡ None → All (Claimable d) part × Fresh used part
  claims_none used [] h = (All-nil (Claimable d), tt)
  claims_none used (a ∷ rest) h =
      let r = claims_none (mark used a) rest (grind (in_order, h)) in
      (All-cons (Claimable d) a rest (grind (in_order, h), grind (in_order, h)) r.0, (grind (in_order, h), r.1))

  none_claims : (used : ℕ → Bool) (part : List VertexAttribute) → All (Claimable d) part → Fresh used part → first_of (claims_verdicts d used part) ≡ None
  none_claims used [] c f = refl
  none_claims used (a ∷ rest) c f =
      let here = All-head (Claimable d) a rest c in
      grind (in_order, here.0, here.1, f.0, none_claims (mark used a) rest (All-tail (Claimable d) a rest c) f.1)

  -- a slot, but for its range and for clashes
  pub record PartLawful (s : VertexBufferLayout) (part : List VertexAttribute) : Type 0 where
    pub stride : s.array_stride ≤ d.limits.max_vertex_buffer_array_stride
    pub aligned : s.array_stride % 4 ≡ 0
    pub each : All (AttributeLawful d (reach d s)) part

  module _ (index : ℕ) (used : ℕ → Bool) (s : VertexBufferLayout) (part : List VertexAttribute) where
    part_none : first_of (part_verdicts d index used s part) ≡ None → PartLawful s part × Fresh used part
    part_none h =
        let first : first_of (attributes_verdicts d (reach d s) part) ≡ None = grind (in_order, h) in
        let c = claims_none used part (grind (in_order, h)) in (
          record {
            stride = grind (in_order, h);
            aligned = grind (in_order, h);
            each =
                all_both (λ a. first_of (attribute_verdicts d (reach d s) a) ≡ None) (Claimable d) (AttributeLawful d (reach d s)) (λ a. attribute_lawful d a (reach d s)) part
                (All-from_recursion (λ a. first_of (attribute_verdicts d (reach d s) a) ≡ None) part (each_none (attribute_verdicts d (reach d s)) part first)) c.0;
          },
          c.1,
        )

    none_part : PartLawful s part → Fresh used part → first_of (part_verdicts d index used s part) ≡ None
    none_part l f =
        let first =
        none_each (attribute_verdicts d (reach d s)) part
        (recursion_from_All (λ a. first_of (attribute_verdicts d (reach d s) a) ≡ None) part (λ k a h. first_round d (get_or part k a) (reach d s) (l.each k a h))) in
        let second = none_claims used part (λ k a h. second_round d (get_or part k a) (reach d s) (l.each k a h)) f in
        grind (in_order, first, second, l.stride, l.aligned)

  -- slot by slot
  module _ (attributes : List VertexAttribute) where
    abbrev Holds : Option VertexBufferLayout → Type 0
    Holds None = Unit {0}
    Holds (Some s) = PartLawful s (part_of attributes s)

    slots_none : (index : ℕ) (used : ℕ → Bool) (slots : List (Option VertexBufferLayout)) → first_of (slots_verdicts d attributes index used slots) ≡ None → All Holds slots × Fresh used (attributes_of attributes slots)
    slots_none index used [] h = (All-nil Holds, tt)
    slots_none index used (None ∷ rest) h = let r = slots_none (index + 1) used rest h in (All-cons Holds None rest tt r.0, r.1)
    slots_none index used (Some s ∷ rest) h =
        let v = part_none index used s (part_of attributes s) (grind (in_order, h)) in
        let r = slots_none (index + 1) (mark_all used (part_of attributes s)) rest (grind (in_order, h)) in
        (All-cons Holds (Some s) rest v.0 r.0, fresh_append used (part_of attributes s) (attributes_of attributes rest) v.1 r.1)

    none_slots : (index : ℕ) (used : ℕ → Bool) (slots : List (Option VertexBufferLayout)) → All Holds slots → Fresh used (attributes_of attributes slots) → first_of (slots_verdicts d attributes index used slots) ≡ None
    none_slots index used [] l f = refl
    none_slots index used (None ∷ rest) l f = none_slots (index + 1) used rest (All-tail Holds None rest l) f
    none_slots index used (Some s ∷ rest) l f =
        let first =
        none_part index used s (part_of attributes s) (All-head Holds (Some s) rest l) (fresh_left used (part_of attributes s) (attributes_of attributes rest) f) in
        let others =
        none_slots (index + 1) (mark_all used (part_of attributes s)) rest (All-tail Holds (Some s) rest l) (fresh_right used (part_of attributes s) (attributes_of attributes rest) f) in
        grind (in_order, first, others)

module _ (slots : List (Option VertexBufferLayout)) (attributes : List VertexAttribute) where
  -- the ranges alone
  in_range : first_of (ranges_verdicts (length attributes) 0 slots) ≡ None → InRange slots attributes
  in_range h s w = All-contains (InList attributes) slots (Some s) (all_stay attributes 0 slots h) w

  passes_in_range : InRange slots attributes → first_of (ranges_verdicts (length attributes) 0 slots) ≡ None
  passes_in_range l = none_stay attributes 0 slots (from_each slots (InList attributes) tt l)

  pub ranges_answer_lem : (r : Result (Unit {0}) VertexStateError) → r ≡ ranges_answer (length attributes) 0 slots → Judged (ranges_verdicts (length attributes) 0 slots) tt (InRange slots attributes) r
  ranges_answer_lem r h = judged (ranges_verdicts (length attributes) 0 slots) tt (InRange slots attributes) in_range passes_in_range r h

-- the whole
module _ (d : Device) (slots : List (Option VertexBufferLayout)) (attributes : List VertexAttribute) where
  slot_lawful : (s : VertexBufferLayout) → InList attributes (Some s) → Holds d attributes (Some s) → SlotLawful d attributes s
  slot_lawful s i l =
      record { range = i; stride = l.stride; aligned = l.aligned; part = λ a h. All-contains (AttributeLawful d (reach d s)) (part_of attributes s) a l.each h }

  part_lawful : (s : VertexBufferLayout) → SlotLawful d attributes s → Holds d attributes (Some s)
  part_lawful s l =
      record {
        stride = l.stride;
        aligned = l.aligned;
        each = All-weaker (Contains (part_of attributes s)) (AttributeLawful d (reach d s)) l.part (part_of attributes s) (All-contains_itself (part_of attributes s));
      }

  pub lawful : first_of (vertex_verdicts d slots attributes) ≡ None → Lawful d slots attributes
  lawful h =
      let ranges : first_of (ranges_verdicts (length attributes) 0 slots) ≡ None = grind (in_order, h) in
      let v = slots_none d attributes 0 unused slots (grind (in_order, h)) in
      record {
        buffers = grind (in_order, h);
        each = λ s w. slot_lawful s (in_range slots attributes ranges s w) (All-contains (Holds d attributes) slots (Some s) v.0 w);
        locations = fresh_different unused (attributes_of attributes slots) v.1;
        total = grind (in_order, h);
      }

  pub passes_lawful : Lawful d slots attributes → first_of (vertex_verdicts d slots attributes) ≡ None
  passes_lawful l =
      let ranges = passes_in_range slots attributes (λ s w. (l.each s w).range) in
      let each =
      none_slots d attributes 0 unused slots (from_each slots (Holds d attributes) tt (λ s w. part_lawful s (l.each s w)))
      (different_fresh unused (attributes_of attributes slots) (all_unused (attributes_of attributes slots)) l.locations) in
      grind (in_order, ranges, each, l.buffers, l.total)
