-- What is printed of each fault of a list of color attachments.
use Rattle.std.specs.Prelude.{ℕ, List, ◌++◌, Some, codes, decimal, Option}
use Rattle.attachments.specs.declared.error.ColorAttachmentError.{ColorAttachmentError}
use Rattle.attachments.specs.declared.error.ColorAttachmentError.TheVariants.{TooMany, NoByteCost, TooManyBytesPerSample}

abbrev pub words : ColorAttachmentError → Option (List ℕ)
words (TooMany given limit) = Some (decimal given ++ (codes " color targets are more than the limit of " ++ decimal limit))
words (NoByteCost index) = Some (codes "color target " ++ (decimal index ++ codes " has a format without a byte cost"))
words (TooManyBytesPerSample total limit) =
    Some (codes "the color targets take " ++ (decimal total ++ (codes " bytes for a sample, more than the limit of " ++ decimal limit)))
