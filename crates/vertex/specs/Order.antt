-- The vertex rules, verdict by verdict, in the order in which they are judged.
use Rattle.std.specs.Prelude.{ℕ, ◌+◌, ◌-◌, ◌%◌, min, max, Bool, false, cond, not, ◌||◌, List, [], ◌∷◌, ◌++◌, map, length, replicate, Some, None, sum_by, Option, ◌==◌, nat_le, nat_lt}
use Rattle.std.specs.List.{flat_map}
use Rattle.faults.specs.Faults.{fault_if, within}
use Rattle.formats.specs.Features.{vertex_attribute_64bit}
use Rattle.formats.specs.Vertex.{size_of, is64bit}
use Rattle.device.specs.Lacking.{features_fault}
use Rattle.device.specs.declared.Device.{Device}
use Rattle.descriptor.specs.Vertex.{attribute_end, capped, part_end, part_of}
use Rattle.descriptor.specs.declared.vertex.VertexAttribute.{VertexAttribute}
use Rattle.descriptor.specs.declared.vertex.VertexBufferLayout.{VertexBufferLayout}
use Rattle.vertex.specs.declared.step.VertexStep.{VertexStep}
use Rattle.vertex.specs.declared.error.VertexStateError.{VertexStateError}
use Rattle.vertex.specs.declared.error.VertexStateError.TheVariants.{AttributeRange, TooManyVertexBuffers, VertexStrideTooLarge, UnalignedVertexStride, VertexAttributeStrideTooLarge, InvalidVertexAttributeOffset, VertexAttributeLocationTooLarge, ShaderLocationClash, TooManyVertexAttributes, MissingFeatures}

-- one attribute, first time: its end, its offset, its location

-- its end is beyond reach
abbrev pub end_verdict : ℕ → VertexAttribute → Option VertexStateError
end_verdict most a =
    fault_if (nat_lt most (attribute_end a)) (VertexAttributeStrideTooLarge a.shader_location (capped (attribute_end a)) most)

-- its offset is no multiple of its size or, if that is less, of 4
abbrev pub offset_verdict : VertexAttribute → Option VertexStateError
offset_verdict a =
    fault_if (not (a.offset % min (size_of a.format) 4 == 0)) (InvalidVertexAttributeOffset a.shader_location a.offset)

-- its location is not below the limit
abbrev pub location_verdict : Device → VertexAttribute → Option VertexStateError
location_verdict d a =
    fault_if (nat_le d.limits.max_vertex_attributes a.shader_location)
    (VertexAttributeLocationTooLarge a.shader_location d.limits.max_vertex_attributes)

abbrev pub attribute_verdicts : Device → ℕ → VertexAttribute → List (Option VertexStateError)
attribute_verdicts d most a = end_verdict most a ∷ offset_verdict a ∷ location_verdict d a ∷ []

abbrev pub attributes_verdicts : Device → ℕ → List VertexAttribute → List (Option VertexStateError)
attributes_verdicts d most part = flat_map (attribute_verdicts d most) part

-- the greatest end of the attributes, at least m
abbrev pub greatest_end : ℕ → List VertexAttribute → ℕ
greatest_end m [] = m
greatest_end m (a ∷ rest) = greatest_end (max m (attribute_end a)) rest

-- the byte after the last that an element of the slot needs, or 0
abbrev pub last_stride_of : List VertexAttribute → ℕ
last_stride_of part = greatest_end 0 part

-- each attribute again: its offset, its format, its location. `used` tells of each location whether an attribute before has it

-- its offset is too great for any panel
abbrev pub far_verdict : VertexAttribute → Option VertexStateError
far_verdict a = fault_if (nat_le 268435456 a.offset) (InvalidVertexAttributeOffset a.shader_location a.offset)

-- its format has 64-bit components, and the device does not take them
abbrev pub format_verdict : Device → VertexAttribute → Option VertexStateError
format_verdict d a = cond (is64bit a.format) (within MissingFeatures (features_fault d vertex_attribute_64bit)) None

-- an attribute before, in any slot, has its location
abbrev pub clash_verdict : (ℕ → Bool) → VertexAttribute → Option VertexStateError
clash_verdict used a = fault_if (used a.shader_location) (ShaderLocationClash a.shader_location)

abbrev pub claim_verdicts : Device → (ℕ → Bool) → VertexAttribute → List (Option VertexStateError)
claim_verdicts d used a = far_verdict a ∷ format_verdict d a ∷ clash_verdict used a ∷ []

-- what is used once an attribute has its location, and once each of a list has
abbrev pub mark : (ℕ → Bool) → VertexAttribute → ℕ → Bool
mark used a location = a.shader_location == location || used location

abbrev pub mark_all : (ℕ → Bool) → List VertexAttribute → ℕ → Bool
mark_all used [] = used
mark_all used (a ∷ rest) = mark_all (mark used a) rest

abbrev pub claims_verdicts : Device → (ℕ → Bool) → List VertexAttribute → List (Option VertexStateError)
claims_verdicts d used [] = []
claims_verdicts d used (a ∷ rest) = claim_verdicts d used a ++ claims_verdicts d (mark used a) rest

-- one slot

-- what an attribute's end may reach: the stride, or the stride limit where the stride is 0
abbrev pub reach : Device → VertexBufferLayout → ℕ
reach d s = cond (s.array_stride == 0) d.limits.max_vertex_buffer_array_stride s.array_stride

-- the stride is above the limit
abbrev pub stride_verdict : Device → ℕ → VertexBufferLayout → Option VertexStateError
stride_verdict d index s =
    fault_if (nat_lt d.limits.max_vertex_buffer_array_stride s.array_stride)
    (VertexStrideTooLarge index s.array_stride d.limits.max_vertex_buffer_array_stride)

-- the stride is no multiple of 4
abbrev pub alignment_verdict : ℕ → VertexBufferLayout → Option VertexStateError
alignment_verdict index s = fault_if (not (s.array_stride % 4 == 0)) (UnalignedVertexStride index s.array_stride)

abbrev pub stride_verdicts : Device → ℕ → VertexBufferLayout → List (Option VertexStateError)
stride_verdicts d index s = stride_verdict d index s ∷ alignment_verdict index s ∷ []

-- a slot beside its part of the attribute list
abbrev pub part_verdicts : Device → ℕ → (ℕ → Bool) → VertexBufferLayout → List VertexAttribute → List (Option VertexStateError)
part_verdicts d index used s part =
    stride_verdicts d index s ++ (attributes_verdicts d (reach d s) part ++ claims_verdicts d used part)

abbrev pub slot_verdicts : Device → List VertexAttribute → ℕ → (ℕ → Bool) → Option VertexBufferLayout → List (Option VertexStateError)
slot_verdicts d attributes index used None = []
slot_verdicts d attributes index used (Some s) = part_verdicts d index used s (part_of attributes s)

-- what is used once a slot is judged
abbrev pub mark_slot : List VertexAttribute → (ℕ → Bool) → Option VertexBufferLayout → ℕ → Bool
mark_slot attributes used None = used
mark_slot attributes used (Some s) = mark_all used (part_of attributes s)

-- slot by slot, the first of them at an index
abbrev pub slots_verdicts : Device → List VertexAttribute → ℕ → (ℕ → Bool) → List (Option VertexBufferLayout) → List (Option VertexStateError)
slots_verdicts d attributes index used [] = []
slots_verdicts d attributes index used (o ∷ rest) =
    slot_verdicts d attributes index used o ++ slots_verdicts d attributes (index + 1) (mark_slot attributes used o) rest

-- the whole

-- a slot's part leaves a list of n attributes
abbrev pub range_verdict : ℕ → ℕ → Option VertexBufferLayout → Option VertexStateError
range_verdict n index None = None
range_verdict n index (Some s) = fault_if (nat_lt n (part_end s)) (AttributeRange index (part_end s) n)

abbrev pub ranges_verdicts : ℕ → ℕ → List (Option VertexBufferLayout) → List (Option VertexStateError)
ranges_verdicts n index [] = []
ranges_verdicts n index (o ∷ rest) = range_verdict n index o ∷ ranges_verdicts n (index + 1) rest

-- the slots, empty ones counted, are more than the limit
abbrev pub buffers_verdict : Device → List (Option VertexBufferLayout) → Option VertexStateError
buffers_verdict d slots =
    fault_if (nat_lt d.limits.max_vertex_buffers (length slots)) (TooManyVertexBuffers (length slots) d.limits.max_vertex_buffers)

abbrev pub count_of : Option VertexBufferLayout → ℕ
count_of None = 0
count_of (Some s) = s.count

-- the attributes that the slots mark, one that is marked twice counted twice, are more than the limit
abbrev pub total_verdict : Device → List (Option VertexBufferLayout) → Option VertexStateError
total_verdict d slots =
    fault_if (nat_lt d.limits.max_vertex_attributes (sum_by count_of slots))
    (TooManyVertexAttributes (sum_by count_of slots) d.limits.max_vertex_attributes)

-- no location is used yet
abbrev pub unused : ℕ → Bool
unused location = false

-- all rules but the first: the slots' number, each slot, the attributes' number
abbrev pub layout_verdicts : Device → List (Option VertexBufferLayout) → List VertexAttribute → List (Option VertexStateError)
layout_verdicts d slots attributes =
    buffers_verdict d slots ∷ (slots_verdicts d attributes 0 unused slots ++ (total_verdict d slots ∷ []))

-- all rules, in order
abbrev pub vertex_verdicts : Device → List (Option VertexBufferLayout) → List VertexAttribute → List (Option VertexStateError)
vertex_verdicts d slots attributes = ranges_verdicts (length attributes) 0 slots ++ layout_verdicts d slots attributes

-- what is kept of an accepted slot: a step, unless it is empty
abbrev pub part_step : VertexBufferLayout → List VertexAttribute → VertexStep
part_step s part = record { stride = s.array_stride; last_stride = last_stride_of part; mode = s.step_mode }

abbrev pub step_of : List VertexAttribute → Option VertexBufferLayout → Option VertexStep
step_of attributes None = None
step_of attributes (Some s) = Some (part_step s (part_of attributes s))

-- a step for each slot, and the rest of sixteen places empty
abbrev pub steps_of : List (Option VertexBufferLayout) → List VertexAttribute → List (Option VertexStep)
steps_of slots attributes = map (step_of attributes) slots ++ replicate (16 - length slots) None
