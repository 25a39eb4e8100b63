-- The ceilings of a device's limits, and the refusal of a limit above its own.
use Rattle.std.specs.Prelude.{◌≡◌, ℕ, ◌≤◌, true, List, [], ◌∷◌, is_ok, Some, Ok, Err, Option, Result, nat_lt}
use Rattle.faults.specs.Faults.{fault_if, FirstIn}
use Rattle.device.specs.declared.limits.Limits.{Limits}
use Rattle.device.specs.declared.ceilings.RequiredLimits.{RequiredLimits}
use Rattle.device.specs.declared.ceilings.FailedLimit.{FailedLimit}
use Rattle.device.specs.declared.ceilings.LimitName.{LimitName}
use Rattle.device.specs.declared.ceilings.LimitName.TheVariants.{MaxColorAttachments, MaxVertexBuffers, MaxVertexAttributes, MaxVertexBufferArrayStride, MaxColorAttachmentBytesPerSample}

-- a limit above its ceiling is refused, with both numbers
abbrev pub above_ceiling : LimitName → ℕ → ℕ → Option FailedLimit
above_ceiling name requested allowed =
    fault_if (nat_lt allowed requested) (record { name = name; requested = requested; allowed = allowed })

-- the five ceilings, in the order of the record
abbrev pub ceiling_verdicts : RequiredLimits → List (Option FailedLimit)
ceiling_verdicts l =
    above_ceiling MaxColorAttachments l.max_color_attachments 8
    ∷ above_ceiling MaxVertexBuffers l.max_vertex_buffers 16
    ∷ above_ceiling MaxVertexAttributes l.max_vertex_attributes 32
    ∷ above_ceiling MaxVertexBufferArrayStride l.max_vertex_buffer_array_stride 536870912
    ∷ above_ceiling MaxColorAttachmentBytesPerSample l.max_color_attachment_bytes_per_sample 128
    ∷ []

-- the limits are the ones asked for
pub record Same (l : RequiredLimits) (m : Limits) : Type 0 where
  pub attachments : m.max_color_attachments ≡ l.max_color_attachments
  pub buffers : m.max_vertex_buffers ≡ l.max_vertex_buffers
  pub attributes : m.max_vertex_attributes ≡ l.max_vertex_attributes
  pub stride : m.max_vertex_buffer_array_stride ≡ l.max_vertex_buffer_array_stride
  pub bytes : m.max_color_attachment_bytes_per_sample ≡ l.max_color_attachment_bytes_per_sample

-- the limits asked for where each is within its ceiling, else the first that is not, in the order of the record
abbrev pub Limited : RequiredLimits → Result Limits FailedLimit → Type 0
Limited l (Ok m) = Same l m
Limited l (Err e) = FirstIn (ceiling_verdicts l) (Some e)

-- each is within its ceiling
pub record Within (l : RequiredLimits) : Type 0 where
  pub attachments : l.max_color_attachments ≤ 8
  pub buffers : l.max_vertex_buffers ≤ 16
  pub attributes : l.max_vertex_attributes ≤ 32
  pub stride : l.max_vertex_buffer_array_stride ≤ 536870912
  pub bytes : l.max_color_attachment_bytes_per_sample ≤ 128

-- limits are taken exactly if each is within its ceiling
abbrev pub Taken : RequiredLimits → Result Limits FailedLimit → Type 0
Taken l r = (is_ok r ≡ true → Within l) × (Within l → is_ok r ≡ true)

-- the fault's number in the rule book
abbrev pub failed_limit_number : FailedLimit → ℕ
failed_limit_number e = 22
