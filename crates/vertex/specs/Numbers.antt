-- The number of each fault of a vertex state in the rule book.
use Rattle.std.specs.Prelude.{ℕ}
use Rattle.device.specs.Lacking.{missing_features_number}
use Rattle.vertex.specs.declared.error.VertexStateError.{VertexStateError}
use Rattle.vertex.specs.declared.error.VertexStateError.TheVariants.{AttributeRange, TooManyVertexBuffers, VertexStrideTooLarge, UnalignedVertexStride, VertexAttributeStrideTooLarge, InvalidVertexAttributeOffset, VertexAttributeLocationTooLarge, ShaderLocationClash, TooManyVertexAttributes, MissingFeatures}

abbrev pub number_of : VertexStateError → ℕ
number_of (AttributeRange index given limit) = 1
number_of (TooManyVertexBuffers given limit) = 3
number_of (VertexStrideTooLarge index given limit) = 4
number_of (UnalignedVertexStride index stride) = 5
number_of (VertexAttributeStrideTooLarge location given limit) = 6
number_of (InvalidVertexAttributeOffset location offset) = 7
number_of (VertexAttributeLocationTooLarge given limit) = 8
number_of (ShaderLocationClash location) = 9
number_of (TooManyVertexAttributes given limit) = 10
number_of (MissingFeatures e) = missing_features_number e
