-- The vertex rules in words, with no order among them: a vertex state is lawful if each holds.
use Rattle.std.specs.Prelude.{◌≡◌, ℕ, ◌%◌, ◌<◌, ◌≤◌, min, true, ◌≢◌, ◌⊎◌, List, [], ◌∷◌, length, Some, None, Ok, Err, All, Contains, sum_by, Option, Result, slice_index_or}
use Rattle.faults.specs.Faults.{Judged}
use Rattle.formats.specs.Features.{includes, vertex_attribute_64bit}
use Rattle.formats.specs.Vertex.{size_of, is64bit}
use Rattle.device.specs.declared.Device.{Device}
use Rattle.descriptor.specs.Vertex.{attribute_end, part_end, part_of, attributes_of}
use Rattle.descriptor.specs.declared.vertex.VertexAttribute.{VertexAttribute}
use Rattle.descriptor.specs.declared.vertex.VertexBufferLayout.{VertexBufferLayout}
use Rattle.descriptor.specs.declared.vertex.VertexState.{VertexState}
use Rattle.vertex.specs.declared.error.VertexStateError.{VertexStateError}
use Rattle.vertex.specs.declared.step.VertexStep.{VertexStep}
use Rattle.vertex.specs.Order.{reach, count_of, ranges_verdicts, vertex_verdicts, steps_of}

-- an attribute whose end may reach as far as `most`
pub record AttributeLawful (d : Device) (most : ℕ) (a : VertexAttribute) : Type 0 where
  pub end : attribute_end a ≤ most
  pub aligned : a.offset % min (size_of a.format) 4 ≡ 0
  pub location : a.shader_location < d.limits.max_vertex_attributes
  pub near : a.offset < 268435456
  pub format : is64bit a.format ≡ true → includes d.features vertex_attribute_64bit ≡ true

-- a slot that is not empty
pub record SlotLawful (d : Device) (attributes : List VertexAttribute) (s : VertexBufferLayout) : Type 0 where
  pub range : part_end s ≤ length attributes
  pub stride : s.array_stride ≤ d.limits.max_vertex_buffer_array_stride
  pub aligned : s.array_stride % 4 ≡ 0
  pub part : (a : VertexAttribute) → Contains (part_of attributes s) a → AttributeLawful d (reach d s) a

-- no two of the attributes have one location
abbrev pub PairwiseDifferent : List VertexAttribute → Type 0
PairwiseDifferent [] = Unit {0}
PairwiseDifferent (a ∷ rest) = All (λ b. a.shader_location ≢ b.shader_location) rest × PairwiseDifferent rest

-- every rule holds
pub record Lawful (d : Device) (slots : List (Option VertexBufferLayout)) (attributes : List VertexAttribute) : Type 0 where
  pub buffers : length slots ≤ d.limits.max_vertex_buffers
  pub each : (s : VertexBufferLayout) → Contains slots (Some s) → SlotLawful d attributes s
  pub locations : PairwiseDifferent (attributes_of attributes slots)
  pub total : sum_by count_of slots ≤ d.limits.max_vertex_attributes

-- n is at least the end of each attribute, and is one of these ends, or 0 where there is no attribute
pub record Greatest (part : List VertexAttribute) (n : ℕ) : Type 0 where
  pub covers : (a : VertexAttribute) → Contains part a → attribute_end a ≤ n
  pub reached : ((part ≡ []) × (n ≡ 0)) ⊎ ((a : VertexAttribute) × Contains part a × (attribute_end a ≡ n))

-- what is kept of a slot; neither number is above the ceiling of strides
pub record Keeps (attributes : List VertexAttribute) (s : VertexBufferLayout) (t : VertexStep) : Type 0 where
  pub stride : t.stride ≡ s.array_stride
  pub mode : t.mode ≡ s.step_mode
  pub last : Greatest (part_of attributes s) t.last_stride
  pub stride_bound : t.stride ≤ 536870912
  pub last_bound : t.last_stride ≤ 536870912

abbrev pub KeptOf : List VertexAttribute → Option VertexBufferLayout → Option VertexStep → Type 0
KeptOf attributes None None = Unit {0}
KeptOf attributes None (Some t) = ⊥
KeptOf attributes (Some s) None = ⊥
KeptOf attributes (Some s) (Some t) = Keeps attributes s t

-- an acceptance keeps a step at the place of each slot that is not empty, and none elsewhere
abbrev pub Accepts : List (Option VertexBufferLayout) → List VertexAttribute → Result (List (Option VertexStep)) VertexStateError → Type 0
Accepts slots attributes (Ok steps) = (i : ℕ) → KeptOf attributes (slice_index_or slots i None) (slice_index_or steps i None)
Accepts slots attributes (Err e) = Unit {0}

-- the part of each slot stays in the attribute list
abbrev pub InRange : List (Option VertexBufferLayout) → List VertexAttribute → Type 0
InRange slots attributes = (s : VertexBufferLayout) → Contains slots (Some s) → part_end s ≤ length attributes

-- what the judging of the ranges answers, and that of the whole
abbrev pub RangesJudged : VertexState → Result (Unit {0}) VertexStateError → Type 0
RangesJudged v r =
    Judged (ranges_verdicts (length v.attributes.now) 0 v.buffers.now) tt (InRange v.buffers.now v.attributes.now) r

abbrev pub VertexJudged : Device → VertexState → Result (List (Option VertexStep)) VertexStateError → Type 0
VertexJudged d v r =
    Judged (vertex_verdicts d v.buffers.now v.attributes.now) (steps_of v.buffers.now v.attributes.now) (Lawful d v.buffers.now v.attributes.now) r

abbrev pub VertexKept : VertexState → Result (List (Option VertexStep)) VertexStateError → Type 0
VertexKept v r = Accepts v.buffers.now v.attributes.now r
