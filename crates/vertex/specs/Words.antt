-- What is printed of each fault of a vertex state. Of missing features nothing is said here: their names are printed.
use Rattle.std.specs.Prelude.{ℕ, List, ◌++◌, Some, None, codes, decimal, Option}
use Rattle.vertex.specs.declared.error.VertexStateError.{VertexStateError}
use Rattle.vertex.specs.declared.error.VertexStateError.TheVariants.{AttributeRange, TooManyVertexBuffers, VertexStrideTooLarge, UnalignedVertexStride, VertexAttributeStrideTooLarge, InvalidVertexAttributeOffset, VertexAttributeLocationTooLarge, ShaderLocationClash, TooManyVertexAttributes, MissingFeatures}

abbrev pub words : VertexStateError → Option (List ℕ)
words (AttributeRange index given limit) =
    Some (codes "vertex buffer " ++ (decimal index ++ (codes " ends at attribute " ++ (decimal given ++ (codes ", the list at " ++ decimal limit)))))
words (TooManyVertexBuffers given limit) = Some (decimal given ++ (codes " vertex buffers are more than the limit of " ++ decimal limit))
words (VertexStrideTooLarge index given limit) =
    Some (codes "vertex buffer " ++ (decimal index ++ (codes " has stride " ++ (decimal given ++ (codes ", above the limit of " ++ decimal limit)))))
words (UnalignedVertexStride index stride) =
    Some (codes "vertex buffer " ++ (decimal index ++ (codes " has stride " ++ (decimal stride ++ codes ", which is no multiple of 4"))))
words (VertexAttributeStrideTooLarge location given limit) =
    Some (codes "attribute at location " ++ (decimal location ++ (codes " ends at byte " ++ (decimal given ++ (codes ", beyond " ++ decimal limit)))))
words (InvalidVertexAttributeOffset location offset) =
    Some (codes "attribute at location " ++ (decimal location ++ (codes " has offset " ++ (decimal offset ++ codes ", unaligned or not below 2^28"))))
words (VertexAttributeLocationTooLarge given limit) =
    Some (codes "location " ++ (decimal given ++ (codes " is not below the limit of " ++ decimal limit)))
words (ShaderLocationClash location) = Some (codes "two attributes have location " ++ decimal location)
words (TooManyVertexAttributes given limit) = Some (decimal given ++ (codes " vertex attributes are more than the limit of " ++ decimal limit))
words (MissingFeatures e) = None
