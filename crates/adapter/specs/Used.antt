-- The answer that a device uses of a format: the adapter's, or what WebGPU guarantees.
use Rattle.std.specs.Prelude.{◌≡◌, Bool, cond, not, ◌||◌, Result}
use Rattle.faults.specs.Faults.{answer}
use Rattle.formats.specs.Features.{includes, includes_flags, texture_adapter_specific_format_features, webgpu_texture_format_support}
use Rattle.formats.specs.Texture.{required_of, guaranteed}
use Rattle.formats.specs.declared.format_features.TextureFormatFeatures.{TextureFormatFeatures}
use Rattle.formats.specs.declared.texture.TextureFormat.{TextureFormat}
use Rattle.device.specs.Lacking.{MissingFeatures, features_fault}
use Rattle.device.specs.declared.Device.{Device}

-- what an adapter means: its answer for each format
abbrev pub Answers : Type 0
Answers = TextureFormat → TextureFormatFeatures

-- the device has TEXTURE_ADAPTER_SPECIFIC_FORMAT_FEATURES, or not WEBGPU_TEXTURE_FORMAT_SUPPORT
abbrev pub asks_adapter : Device → Bool
asks_adapter d =
    includes d.features texture_adapter_specific_format_features
    || not (includes_flags d.downlevel webgpu_texture_format_support)

-- the adapter's answer where the device asks it, else the table's under the device's features
abbrev pub used : Device → Answers → TextureFormat → TextureFormatFeatures
used d answers f = cond (asks_adapter d) (answers f) (guaranteed d.features f)

-- the format's own features come first
abbrev pub answer_used : Device → Answers → TextureFormat → Result TextureFormatFeatures MissingFeatures
answer_used d answers f = answer (features_fault d (required_of f)) (used d answers f)

-- the two answer every format alike
abbrev pub SameMap : Answers → Answers → Type 0
SameMap answers others = (f : TextureFormat) → others f ≡ answers f

-- every adapter with the same map gets the same answer used
abbrev pub SameForSameMap : Device → Answers → TextureFormat → Result TextureFormatFeatures MissingFeatures → Type 0
SameForSameMap d answers f r = (others : Answers) → SameMap answers others → answer_used d others f ≡ r
