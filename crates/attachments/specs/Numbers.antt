-- The number of each fault of a list of color attachments in the rule book.
use Rattle.std.specs.Prelude.{ℕ}
use Rattle.attachments.specs.declared.error.ColorAttachmentError.{ColorAttachmentError}
use Rattle.attachments.specs.declared.error.ColorAttachmentError.TheVariants.{TooMany, NoByteCost, TooManyBytesPerSample}

abbrev pub number_of : ColorAttachmentError → ℕ
number_of (TooMany given limit) = 2
number_of (NoByteCost index) = 15
number_of (TooManyBytesPerSample total limit) = 16
