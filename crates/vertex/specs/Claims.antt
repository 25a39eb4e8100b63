-- The map that the second round keeps: the locations that attributes have claimed, over 32 places.
use Rattle.std.specs.Prelude.{◌≡◌, ℕ, zero, suc, ◌+◌, ◌≤◌, Bool, cond, List, length, is_some, Some, None, Option, nat_eq}
use Rattle.formats.specs.declared.vertex.VertexFormat.{VertexFormat}
use Rattle.keyed.specs.Lookup.{lookup, taken}
use Rattle.keyed.specs.declared.Entry.{Entry}
use Rattle.descriptor.specs.Vertex.{part_end}
use Rattle.descriptor.specs.declared.vertex.VertexAttribute.{VertexAttribute}
use Rattle.descriptor.specs.declared.vertex.VertexBufferLayout.{VertexBufferLayout}

-- the places of the map
abbrev pub Places : Type 0
Places = List (Option (Entry ℕ VertexFormat))

-- whether a location is claimed
abbrev pub claimed : Places → ℕ → Bool
claimed places location = is_some (lookup nat_eq places location)

-- of the locations below n, how many are claimed
unfoldable pub count_below : ℕ → (ℕ → Bool) → ℕ
count_below zero used = 0
count_below (suc n) used = cond (used n) 1 0 + count_below n used

-- each place that is taken has a location below 32 of its own, so that a new one finds room
pub record Roomy (places : Places) : Type 0 where
  pub size : length places ≡ 32
  pub room : taken places ≤ count_below 32 (claimed places)

-- the locations claimed are these, and there is room for more
pub record Claims (used : ℕ → Bool) (places : Places) : Type 0 where
  pub roomy : Roomy places
  pub marks : claimed places ≡ used

-- a slot's part stays in the attribute list
abbrev pub InList : List VertexAttribute → Option VertexBufferLayout → Type 0
InList attributes None = Unit {0}
InList attributes (Some s) = part_end s ≤ length attributes
