-- What an accepted vertex state keeps, in words.
use Rattle.std.proofs.Common.{◌≡◌, ℕ, ◌≤◌, max, ◌⊎◌, List, [], ◌∷◌, length, get_or, Some, None, All, Contains, Option, Result, sym, refl, inl, inr, arith}
use Rattle.std.proofs.lemmas.List.Elements.{All-nil, All-cons, All-head, All-contains, Contains-get_or, Contains-append_right}
use Rattle.std.proofs.lemmas.List.{get_or_past}
use Rattle.std.proofs.lemmas.Grind.{common_steps}
use Rattle.std.proofs.lemmas.Bool.{cases_lt}
use Rattle.faults.specs.Faults.{first_of, answer, Judged}
use Rattle.faults.proofs.Order.{judged}
use Rattle.device.specs.declared.Device.{Device}
use Rattle.descriptor.specs.Vertex.{attribute_end, part_of}
use Rattle.descriptor.specs.declared.vertex.VertexAttribute.{VertexAttribute}
use Rattle.descriptor.specs.declared.vertex.VertexBufferLayout.{VertexBufferLayout}
use Rattle.vertex.specs.declared.error.VertexStateError.{VertexStateError}
use Rattle.vertex.specs.declared.step.VertexStep.{VertexStep}
use Rattle.vertex.specs.Order.{greatest_end, last_stride_of, reach, vertex_verdicts, step_of, steps_of}
use Rattle.vertex.specs.Rules.{SlotLawful, Lawful, Greatest, KeptOf, Accepts}
use Rattle.vertex.proofs.Lawful.{lawful, passes_lawful}

-- the greatest end: at least where it began, at least each end, and one of these
from_start : (m : ℕ) (part : List VertexAttribute) → m ≤ greatest_end m part
from_start m [] = omega arith
from_start m (a ∷ rest) = omega (arith, from_start (max m (attribute_end a)) rest)

abbrev Within : ℕ → VertexAttribute → Type 0
Within n a = attribute_end a ≤ n

each_end : (m : ℕ) (part : List VertexAttribute) → All (Within (greatest_end m part)) part
each_end m [] = All-nil (Within m)
each_end m (a ∷ rest) =
    All-cons (Within (greatest_end m (a ∷ rest))) a rest (omega (arith, from_start (max m (attribute_end a)) rest)) (each_end (max m (attribute_end a)) rest)

abbrev OneOf : ℕ → List VertexAttribute → Type 0
OneOf n part = (a : VertexAttribute) × Contains part a × (attribute_end a ≡ n)

one_of : (m : ℕ) (part : List VertexAttribute) → (greatest_end m part ≡ m) ⊎ OneOf (greatest_end m part) part
one_of m [] = inl refl
one_of m (a ∷ rest) =
    elim (one_of (max m (attribute_end a)) rest) [
      | inl e ↦
          elim (cases_lt m (attribute_end a)) [
            | inl l ↦ inr (a, Contains-get_or (a ∷ rest) 0 a (omega arith), omega arith)
            | inr l ↦ inl (omega arith)
          ]
      | inr w ↦ inr (w.0, Contains-append_right (a ∷ []) rest w.0 w.1, w.2)
    ]

reached : (part : List VertexAttribute) → ((part ≡ []) × (last_stride_of part ≡ 0)) ⊎ OneOf (last_stride_of part) part
reached [] = inl (refl, refl)
reached (a ∷ rest) =
    elim (one_of 0 (a ∷ rest)) [
      | inl e ↦ let h = All-head (Within (last_stride_of (a ∷ rest))) a rest (each_end 0 (a ∷ rest)) in inr (a, Contains-get_or (a ∷ rest) 0 a (omega arith), omega arith)
      | inr w ↦ inr w
    ]

greatest : (part : List VertexAttribute) → Greatest part (last_stride_of part)
greatest part = record { covers = λ a w. All-contains (Within (last_stride_of part)) part a (each_end 0 part) w; reached = reached part }

-- where no end is beyond n, the greatest is not
within_bound : (part : List VertexAttribute) (n : ℕ) → ((a : VertexAttribute) → Contains part a → attribute_end a ≤ n) → last_stride_of part ≤ n
within_bound part n f =
    elim (reached part) [
      | inl e ↦ let z = e.1 in omega arith
      | inr w ↦ let l = f w.0 w.1 in let z = w.2 in omega arith
    ]

module _ (d : Device) (slots : List (Option VertexBufferLayout)) (attributes : List VertexAttribute) (l : Lawful d slots attributes) where
  reach_bound : (s : VertexBufferLayout) → SlotLawful d attributes s → reach d s ≤ 536870912
  reach_bound s k = grind (arith, k.stride, d.limits.stride)

  keeps : (o : Option VertexBufferLayout) → Contains slots o → KeptOf attributes o (step_of attributes o)
  keeps None w = tt
  keeps (Some s) w =
      let k = l.each s w in
      let c = d.limits.stride in
      record {
        stride = refl;
        mode = refl;
        last = greatest (part_of attributes s);
        stride_bound = (let h = k.stride in omega arith);
        last_bound =
            (let h = within_bound (part_of attributes s) (reach d s) (λ a v. (k.part a v).end) in
            let r = reach_bound s k in
            omega arith);
      }

  -- past the slots there is neither a slot nor a step
  empty : (i : ℕ) → length slots ≤ i → KeptOf attributes (get_or slots i None) (get_or (steps_of slots attributes) i None)
  empty i h =
      let e : get_or (steps_of slots attributes) i None ≡ None = grind (arith, common_steps) in
      rw (get_or_past slots i None h, e) tt

  kept : (i : ℕ) → KeptOf attributes (get_or slots i None) (get_or (steps_of slots attributes) i None)
  kept i =
      elim (cases_lt i (length slots)) [
        | inl h ↦
            let e : get_or (steps_of slots attributes) i None ≡ step_of attributes (get_or slots i None) = grind (arith, common_steps) in
            rw e (keeps (get_or slots i None) (Contains-get_or slots i None h))
        | inr h ↦ empty i h
      ]

-- what is kept, from the answer's value
module _ (d : Device) (slots : List (Option VertexBufferLayout)) (attributes : List VertexAttribute) where
  kept_as : (o : Option VertexStateError) → o ≡ first_of (vertex_verdicts d slots attributes) → Accepts slots attributes (answer o (steps_of slots attributes))
  kept_as None h = kept d slots attributes (lawful d slots attributes (sym h))
  kept_as (Some e) h = tt

  keeps_steps : (r : Result (List (Option VertexStep)) VertexStateError) → r ≡ answer (first_of (vertex_verdicts d slots attributes)) (steps_of slots attributes) → Accepts slots attributes r
  keeps_steps r h = rw h (kept_as (first_of (vertex_verdicts d slots attributes)) refl)

  -- all that the judging answers
  pub answers : (r : Result (List (Option VertexStep)) VertexStateError) → r ≡ answer (first_of (vertex_verdicts d slots attributes)) (steps_of slots attributes) → record { judged : Judged (vertex_verdicts d slots attributes) (steps_of slots attributes) (Lawful d slots attributes) r; kept : Accepts slots attributes r }
  answers r h =
      record {
        judged = judged (vertex_verdicts d slots attributes) (steps_of slots attributes) (Lawful d slots attributes) (lawful d slots attributes) (passes_lawful d slots attributes) r h;
        kept = keeps_steps r h;
      }
