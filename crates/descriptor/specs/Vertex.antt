-- The vertex state of a style: what a slot marks, and where an attribute ends. Sums are exact.
use Rattle.std.specs.Prelude.{ℕ, ◌+◌, ◌-◌, ◌^◌, min, List, [], ◌∷◌, ◌++◌, take, drop, Some, None, codes, Option}
use Rattle.formats.specs.Vertex.{size_of}
use Rattle.descriptor.specs.declared.vertex.VertexAttribute.{VertexAttribute}
use Rattle.descriptor.specs.declared.vertex.VertexBufferLayout.{VertexBufferLayout}
use Rattle.descriptor.specs.declared.vertex.VertexStepMode.{VertexStepMode}
use Rattle.descriptor.specs.declared.vertex.VertexStepMode.TheVariants.{Vertex, Instance}

-- the byte after an attribute's last, from the start of its element
abbrev pub attribute_end : VertexAttribute → ℕ
attribute_end a = a.offset + size_of a.format

-- a number as a fault gives it: held to 64 bits
abbrev pub capped : ℕ → ℕ
capped n = min n (2 ^ 64 - 1)

-- the place after a slot's last attribute
abbrev pub part_end : VertexBufferLayout → ℕ
part_end s = s.first + s.count

-- the attributes that a slot marks
abbrev pub part_of : List VertexAttribute → VertexBufferLayout → List VertexAttribute
part_of attributes s = take s.count (drop s.first attributes)

-- the attributes that all slots mark, slot after slot
abbrev pub attributes_of : List VertexAttribute → List (Option VertexBufferLayout) → List VertexAttribute
attributes_of attributes [] = []
attributes_of attributes (None ∷ slots) = attributes_of attributes slots
attributes_of attributes (Some s ∷ slots) = part_of attributes s ++ attributes_of attributes slots

-- what is printed of a step mode
abbrev pub step_mode_words : VertexStepMode → List ℕ
step_mode_words Vertex = codes "vertex"
step_mode_words Instance = codes "instance"
