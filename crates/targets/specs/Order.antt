-- The rules on color targets, verdict by verdict, in the order in which they are judged.
use Rattle.std.specs.Prelude.{ℕ, ◌+◌, Bool, true, false, cond, not, ◌&&◌, ◌||◌, List, [], ◌∷◌, ◌++◌, length, is_some, Some, None, Option, ◌==◌, nat_lt}
use Rattle.std.specs.Option.{option_or}
use Rattle.faults.specs.Faults.{fault_if, within}
use Rattle.formats.specs.Features.{dual_source_blending, independent_blend}
use Rattle.formats.specs.Samples.{supports, sum_of_counts}
use Rattle.formats.specs.Texture.{aspects_of, required_of, guaranteed}
use Rattle.formats.specs.declared.format_features.TextureFormatFeatureFlags.{TextureFormatFeatureFlags}
use Rattle.formats.specs.declared.format_features.TextureFormatFeatures.{TextureFormatFeatures}
use Rattle.formats.specs.declared.texture.TextureFormat.{TextureFormat}
use Rattle.device.specs.Lacking.{features_fault, flags_fault}
use Rattle.device.specs.declared.Device.{Device}
use Rattle.adapter.specs.Used.{Answers, used}
use Rattle.descriptor.specs.Blend.{second_source, is_one, is_min_max, reads_second, unknown_bits, writes_like}
use Rattle.descriptor.specs.declared.blend.BlendComponent.{BlendComponent}
use Rattle.descriptor.specs.declared.blend.BlendFactor.{BlendFactor}
use Rattle.descriptor.specs.declared.blend.BlendOperation.{BlendOperation}
use Rattle.descriptor.specs.declared.blend.BlendState.{BlendState}
use Rattle.descriptor.specs.declared.blend.ColorTargetState.{ColorTargetState}
use Rattle.errors.specs.declared.color.ColorStateError.TheVariants.{FormatNotRenderable, FormatNotBlendable, FormatNotColor, InvalidSampleCount, InvalidWriteMask, BlendFactorOnUnsupportedTarget, InvalidMinMaxBlendFactor}
use Rattle.errors.specs.declared.create.CreateRenderPipelineError.{CreateRenderPipelineError}
use Rattle.errors.specs.declared.create.CreateRenderPipelineError.TheVariants.{ColorState, MissingFeatures, MissingDownlevelFlags, DualSourceBlendingWithMultipleColorTargets}

-- one factor of one target's blending

-- a factor that reads the second color needs the feature, and then target 0
abbrev pub second_verdicts : Device → ℕ → BlendFactor → List (Option CreateRenderPipelineError)
second_verdicts d index f =
    cond (second_source f) (within MissingFeatures (features_fault d dual_source_blending)) None
    ∷ fault_if (second_source f && not (index == 0)) (ColorState index (BlendFactorOnUnsupportedTarget f index))
    ∷ []

-- Min and Max take no factor but One
abbrev pub min_max_verdict : ℕ → BlendOperation → BlendFactor → Option CreateRenderPipelineError
min_max_verdict index o f = fault_if (is_min_max o && not (is_one f)) (ColorState index (InvalidMinMaxBlendFactor f index))

abbrev pub factor_verdicts : Device → ℕ → BlendOperation → BlendFactor → List (Option CreateRenderPipelineError)
factor_verdicts d index o f = second_verdicts d index f ++ (min_max_verdict index o f ∷ [])

-- the source factor, then the destination's
abbrev pub component_verdicts : Device → ℕ → BlendComponent → List (Option CreateRenderPipelineError)
component_verdicts d index c =
    factor_verdicts d index c.operation c.src_factor ++ factor_verdicts d index c.operation c.dst_factor

-- color, then alpha
abbrev pub blend_verdicts : Device → ℕ → Option BlendState → List (Option CreateRenderPipelineError)
blend_verdicts d index None = []
blend_verdicts d index (Some b) = component_verdicts d index b.color ++ component_verdicts d index b.alpha

-- one target

-- its write mask has a bit that is no channel's
abbrev pub mask_verdict : ℕ → ColorTargetState → Option CreateRenderPipelineError
mask_verdict index t = fault_if (unknown_bits t.write_mask) (ColorState index (InvalidWriteMask t.write_mask))

-- the device lacks a feature that its format itself needs
abbrev pub feature_verdict : Device → ColorTargetState → Option CreateRenderPipelineError
feature_verdict d t = within MissingFeatures (features_fault d (required_of t.format))

-- its format cannot be drawn on; it is blended, and its format cannot be; its format has no color
abbrev pub uses_verdicts : ℕ → ColorTargetState → TextureFormatFeatures → List (Option CreateRenderPipelineError)
uses_verdicts index t u =
    fault_if (not u.renderable) (ColorState index (FormatNotRenderable t.format))
    ∷ fault_if (is_some t.blend && not u.flags.blendable) (ColorState index (FormatNotBlendable t.format))
    ∷ fault_if (not (aspects_of t.format).color) (ColorState index (FormatNotColor t.format))
    ∷ []

-- more than one sample, and not a count among the flags. The refusal tells which counts are guaranteed, and which the adapter has
abbrev pub count_fault : Device → Answers → ℕ → ℕ → TextureFormat → TextureFormatFeatureFlags → Option CreateRenderPipelineError
count_fault d answers count index f flags =
    fault_if (nat_lt 1 count && not (supports flags count))
    (ColorState index
    (InvalidSampleCount (record { count = count; format = f; guaranteed = sum_of_counts (guaranteed d.features f).flags; supported = sum_of_counts (answers f).flags })))

-- what its format can do is the answer used
abbrev pub state_verdicts : Device → Answers → ℕ → ℕ → ColorTargetState → List (Option CreateRenderPipelineError)
state_verdicts d answers count index t =
    mask_verdict index t
    ∷ feature_verdict d t
    ∷ (uses_verdicts index t (used d answers t.format)
    ++ (count_fault d answers count index t.format (used d answers t.format).flags
    ∷ blend_verdicts d index t.blend))

-- an empty target has no rules
abbrev pub target_verdicts : Device → Answers → ℕ → ℕ → Option ColorTargetState → List (Option CreateRenderPipelineError)
target_verdicts d answers count index None = []
target_verdicts d answers count index (Some t) = state_verdicts d answers count index t

-- target by target, the first of them at an index
abbrev pub targets_verdicts : Device → Answers → ℕ → ℕ → List (Option ColorTargetState) → List (Option CreateRenderPipelineError)
targets_verdicts d answers count index [] = []
targets_verdicts d answers count index (o ∷ rest) =
    target_verdicts d answers count index o ++ targets_verdicts d answers count (index + 1) rest

-- the targets side by side

-- one that is not empty writes like the first that is not
abbrev pub like_first : Option ColorTargetState → Option ColorTargetState → Bool
like_first None target = true
like_first (Some f) None = true
like_first (Some f) (Some t) = writes_like f t

-- each does, the first being one before the list, or else the first in it
abbrev pub alike_after : Option ColorTargetState → List (Option ColorTargetState) → Bool
alike_after first [] = true
alike_after first (o ∷ rest) = like_first first o && alike_after (option_or first o) rest

abbrev pub alike_targets : List (Option ColorTargetState) → Bool
alike_targets targets = alike_after None targets

-- they do not write alike, and the device lacks the flag
abbrev pub independent_verdict : Device → List (Option ColorTargetState) → Option CreateRenderPipelineError
independent_verdict d targets = cond (alike_targets targets) None (within MissingDownlevelFlags (flags_fault d independent_blend))

-- the blending of a target reads the second color
abbrev pub reads_second_in : Option BlendState → Bool
reads_second_in None = false
reads_second_in (Some b) = reads_second b.color || reads_second b.alpha

abbrev pub reads_second_at : Option ColorTargetState → Bool
reads_second_at None = false
reads_second_at (Some t) = reads_second_in t.blend

abbrev pub reads_second_any : List (Option ColorTargetState) → Bool
reads_second_any [] = false
reads_second_any (o ∷ rest) = reads_second_at o || reads_second_any rest

-- that of some target does, and there is another target, perhaps an empty one
abbrev pub dual_verdict : List (Option ColorTargetState) → Option CreateRenderPipelineError
dual_verdict targets =
    fault_if (nat_lt 1 (length targets) && reads_second_any targets) (DualSourceBlendingWithMultipleColorTargets (length targets))
