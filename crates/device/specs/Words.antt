-- What is printed of a limit above its ceiling.
use Rattle.std.specs.Prelude.{ℕ, List, ◌++◌, codes, decimal}
use Rattle.device.specs.declared.ceilings.FailedLimit.{FailedLimit}
use Rattle.device.specs.declared.ceilings.LimitName.{LimitName}
use Rattle.device.specs.declared.ceilings.LimitName.TheVariants.{MaxColorAttachments, MaxVertexBuffers, MaxVertexAttributes, MaxVertexBufferArrayStride, MaxColorAttachmentBytesPerSample}

abbrev pub limit_words : LimitName → List ℕ
limit_words MaxColorAttachments = codes "max_color_attachments"
limit_words MaxVertexBuffers = codes "max_vertex_buffers"
limit_words MaxVertexAttributes = codes "max_vertex_attributes"
limit_words MaxVertexBufferArrayStride = codes "max_vertex_buffer_array_stride"
limit_words MaxColorAttachmentBytesPerSample = codes "max_color_attachment_bytes_per_sample"

abbrev pub failed_limit_words : FailedLimit → List ℕ
failed_limit_words e =
    codes "the limit " ++ (limit_words e.name ++ (codes " is " ++ (decimal e.requested ++ (codes ", above its ceiling of " ++ decimal e.allowed))))
