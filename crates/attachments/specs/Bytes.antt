-- How many color attachments there may be, and how many bytes they may take for one sample.
use Rattle.std.specs.Prelude.{◌≡◌, ℕ, ◌+◌, ◌-◌, ◌%◌, ◌<◌, ◌≤◌, Bool, true, false, not, List, [], ◌∷◌, ◌++◌, is_some, Some, None, Contains, Option, Result, nat_lt}
use Rattle.faults.specs.Faults.{fault_if, Judged}
use Rattle.formats.specs.Texture.{cost_of}
use Rattle.formats.specs.declared.texture.TargetCost.{TargetCost}
use Rattle.formats.specs.declared.texture.TextureFormat.{TextureFormat}
use Rattle.device.specs.declared.Device.{Device}
use Rattle.attachments.specs.declared.error.ColorAttachmentError.{ColorAttachmentError}
use Rattle.attachments.specs.declared.error.ColorAttachmentError.TheVariants.{TooMany, NoByteCost, TooManyBytesPerSample}

-- there are more than the limit, empty ones counted
abbrev pub count_verdict : Device → ℕ → Option ColorAttachmentError
count_verdict d given =
    fault_if (nat_lt d.limits.max_color_attachments given) (TooMany given d.limits.max_color_attachments)

-- an attachment has a format that has no byte cost
abbrev pub unpriced : Option TextureFormat → Bool
unpriced None = false
unpriced (Some f) = not (is_some (cost_of f))

abbrev pub cost_verdict : ℕ → Option TextureFormat → Option ColorAttachmentError
cost_verdict index color = fault_if (unpriced color) (NoByteCost index)

-- n, or what is to be added to reach the next multiple of a
abbrev pub round_up : ℕ → ℕ → ℕ
round_up n a = n + (a - n % a) % a

-- the bytes once one more is there: rounded up to its alignment, and then its cost
abbrev pub priced : ℕ → Option TargetCost → ℕ
priced total None = total
priced total (Some c) = round_up total c.component_alignment + c.pixel_byte_cost

abbrev pub bytes_after : ℕ → Option TextureFormat → ℕ
bytes_after total None = total
bytes_after total (Some f) = priced total (cost_of f)

-- the bytes of a list of attachments, beside those that are there before it
abbrev pub bytes_from : ℕ → List (Option TextureFormat) → ℕ
bytes_from total [] = total
bytes_from total (color ∷ rest) = bytes_from (bytes_after total color) rest

abbrev pub bytes_of : List (Option TextureFormat) → ℕ
bytes_of colors = bytes_from 0 colors

-- attachment by attachment, the first of them at an index
abbrev pub cost_verdicts : ℕ → List (Option TextureFormat) → List (Option ColorAttachmentError)
cost_verdicts index [] = []
cost_verdicts index (color ∷ rest) = cost_verdict index color ∷ cost_verdicts (index + 1) rest

-- the bytes are more than the limit
abbrev pub total_verdict : Device → List (Option TextureFormat) → Option ColorAttachmentError
total_verdict d colors =
    fault_if (nat_lt d.limits.max_color_attachment_bytes_per_sample (bytes_of colors))
    (TooManyBytesPerSample (bytes_of colors) d.limits.max_color_attachment_bytes_per_sample)

-- each attachment has a byte cost; then their bytes are within the limit
abbrev pub bytes_verdicts : Device → List (Option TextureFormat) → List (Option ColorAttachmentError)
bytes_verdicts d colors = cost_verdicts 0 colors ++ (total_verdict d colors ∷ [])

-- the same in words
pub record BytesLawful (d : Device) (colors : List (Option TextureFormat)) : Type 0 where
  pub priced : (f : TextureFormat) → Contains colors (Some f) → is_some (cost_of f) ≡ true
  pub total : bytes_of colors ≤ d.limits.max_color_attachment_bytes_per_sample

abbrev pub BytesJudged : Device → List (Option TextureFormat) → Result ℕ ColorAttachmentError → Type 0
BytesJudged d colors r = Judged (bytes_verdicts d colors) (bytes_of colors) (BytesLawful d colors) r

-- what is rounded up is the least multiple that is not below the number
abbrev pub Rounding : Type 0
Rounding = (n a : ℕ) → 0 < a → (round_up n a % a ≡ 0) × (n ≤ round_up n a) × (round_up n a < n + a)
