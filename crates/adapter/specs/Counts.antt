-- The refusal of a sample count that a format cannot have.
use Rattle.std.specs.Prelude.{ℕ, not, ◌&&◌, Option, nat_lt}
use Rattle.faults.specs.Faults.{fault_if}
use Rattle.formats.specs.Samples.{supports, sum_of_counts}
use Rattle.formats.specs.Texture.{guaranteed}
use Rattle.formats.specs.declared.format_features.TextureFormatFeatureFlags.{TextureFormatFeatureFlags}
use Rattle.formats.specs.declared.texture.TextureFormat.{TextureFormat}
use Rattle.device.specs.declared.Device.{Device}
use Rattle.adapter.specs.Used.{Answers}
use Rattle.adapter.specs.declared.samples.UnsupportedSampleCount.{UnsupportedSampleCount}

-- more than one sample, and not a count among the flags. The refusal tells which counts are guaranteed, and which the adapter has
abbrev pub counts_fault : Device → Answers → ℕ → TextureFormat → TextureFormatFeatureFlags → Option UnsupportedSampleCount
counts_fault d answers count f flags =
    fault_if (nat_lt 1 count && not (supports flags count))
    (record {
      count = count;
      format = f;
      guaranteed = sum_of_counts (guaranteed d.features f).flags;
      supported = sum_of_counts (answers f).flags;
    })
