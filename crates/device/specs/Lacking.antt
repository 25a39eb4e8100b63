-- What a device lacks.
use Rattle.std.specs.Prelude.{ℕ, not, Option}
use Rattle.faults.specs.Faults.{fault_if}
use Rattle.formats.specs.Features.{includes, includes_flags}
use Rattle.formats.specs.Flags.{holds}
use Rattle.formats.specs.declared.features.DownlevelFlags.{DownlevelFlags}
use Rattle.formats.specs.declared.features.Features.{Features}
use Rattle.device.specs.declared.Missing.{Missing}
use Rattle.device.specs.declared.Device.{Device}

abbrev pub MissingFeatures : Type 0
MissingFeatures = Missing Features

abbrev pub MissingDownlevelFlags : Type 0
MissingDownlevelFlags = Missing DownlevelFlags

-- of sets that are words of bits, the one that is held does not have all that is needed
abbrev pub lacks : {S : Type 0} → (S → ℕ) → S → S → Option (Missing S)
lacks word held needed = fault_if (not (holds (word held) (word needed))) (record { 0 = needed })

-- the device lacks a feature of the set
abbrev pub features_fault : Device → Features → Option MissingFeatures
features_fault d fs = fault_if (not (includes d.features fs)) (record { 0 = fs })

-- the device lacks a downlevel flag of the set
abbrev pub flags_fault : Device → DownlevelFlags → Option MissingDownlevelFlags
flags_fault d fs = fault_if (not (includes_flags d.downlevel fs)) (record { 0 = fs })

-- the faults' numbers in the rule book
abbrev pub missing_features_number : MissingFeatures → ℕ
missing_features_number e = 23

abbrev pub missing_flags_number : MissingDownlevelFlags → ℕ
missing_flags_number e = 24
