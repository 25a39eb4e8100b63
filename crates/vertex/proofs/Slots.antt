-- What is known of slots and attributes whose verdicts are none: locations below 32, and parts that stay in the list.
use Rattle.std.proofs.Common.{◌≡◌, ℕ, ◌+◌, ◌<◌, List, [], ◌∷◌, length, get_or, Some, None, Ok, All, Contains, Option, refl, arith}
use Rattle.std.proofs.lemmas.List.Elements.{All-from_recursion, All-nil, All-cons, All-head, All-tail, All-weaker, All-contains_itself}
use Rattle.faults.specs.Faults.{first_of, answer}
use Rattle.faults.proofs.Order.{none_from_ok, each_none}
use Rattle.device.specs.declared.Device.{Device}
use Rattle.descriptor.specs.declared.vertex.VertexAttribute.{VertexAttribute}
use Rattle.descriptor.specs.declared.vertex.VertexBufferLayout.{VertexBufferLayout}
use Rattle.vertex.specs.Order.{attribute_verdicts, attributes_verdicts, ranges_verdicts}
use Rattle.vertex.specs.Claims.{InList}
use Rattle.vertex.specs.Rules.{InRange}
use Rattle.faults.proofs.Verdicts.{in_order}

-- the locations of attributes that pass the first round are below the limit
low : (d : Device) (most : ℕ) (a : VertexAttribute) → first_of (attribute_verdicts d most a) ≡ None → a.shader_location < d.limits.max_vertex_attributes
low d most a h = grind (in_order, h)

pub all_low : (d : Device) (most : ℕ) (part : List VertexAttribute) (y x : ℕ) → Ok y ≡ answer (first_of (attributes_verdicts d most part)) x → All (λ a. a.shader_location < 32) part
all_low d most part y x h =
    All-weaker (λ a. first_of (attribute_verdicts d most a) ≡ None) (λ a. a.shader_location < 32) (λ a k. let l = low d most a k in let c = d.limits.attributes in omega arith) part
    (All-from_recursion _ part (each_none (attribute_verdicts d most) part (none_from_ok _ x y h)))

-- where no slot's part leaves the list, each stays in it
module _ (attributes : List VertexAttribute) where
  pub all_stay : (index : ℕ) (slots : List (Option VertexBufferLayout)) → first_of (ranges_verdicts (length attributes) index slots) ≡ None → All (InList attributes) slots
  all_stay index [] h = All-nil (InList attributes)
  all_stay index (None ∷ rest) h = All-cons (InList attributes) None rest tt (all_stay (index + 1) rest h)
  all_stay index (Some s ∷ rest) h = All-cons (InList attributes) (Some s) rest (grind (in_order, h)) (all_stay (index + 1) rest (grind (in_order, h)))

  pub none_stay : (index : ℕ) (slots : List (Option VertexBufferLayout)) → All (InList attributes) slots → first_of (ranges_verdicts (length attributes) index slots) ≡ None
  none_stay index [] h = refl
  none_stay index (None ∷ rest) h = none_stay (index + 1) rest (All-tail (InList attributes) None rest h)
  none_stay index (Some s ∷ rest) h =
      grind (in_order, All-head (InList attributes) (Some s) rest h, none_stay (index + 1) rest (All-tail (InList attributes) (Some s) rest h))

-- from the slots that are there to each place
pub from_each : (slots : List (Option VertexBufferLayout)) (P : Option VertexBufferLayout → Type 0) → P None → ((s : VertexBufferLayout) → Contains slots (Some s) → P (Some s)) → All P slots
from_each slots P n f = All-weaker (Contains slots) P (λ o. elim o as (λ v. Contains slots v → P v) [ Some s ↦ f s | None ↦ λ h. n ]) slots (All-contains_itself slots)

-- the i-th slot of those whose parts all stay in the list
pub slot_stays : (slots : List (Option VertexBufferLayout)) (attributes : List VertexAttribute) → InRange slots attributes → (i : ℕ) → i < length slots → InList attributes (get_or slots i None)
slot_stays slots attributes h i l = from_each slots (InList attributes) tt h i None l
