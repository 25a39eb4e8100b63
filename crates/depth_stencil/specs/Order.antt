-- The depth-stencil rules, verdict by verdict, in the order in which they are judged.
use Rattle.std.specs.Prelude.{ℕ, Bool, cond, not, ◌&&◌, ◌||◌, List, [], ◌∷◌, is_some, Some, None, Option, nat_lt}
use Rattle.faults.specs.Faults.{fault_if, within}
use Rattle.formats.specs.Features.{depth_bias_clamp}
use Rattle.formats.specs.Samples.{supports, sum_of_counts}
use Rattle.formats.specs.Texture.{aspects_of, required_of, guaranteed}
use Rattle.formats.specs.declared.format_features.TextureFormatFeatureFlags.{TextureFormatFeatureFlags}
use Rattle.formats.specs.declared.texture.TextureFormat.{TextureFormat}
use Rattle.device.specs.Lacking.{features_fault, flags_fault}
use Rattle.device.specs.declared.Device.{Device}
use Rattle.adapter.specs.Used.{Answers, used}
use Rattle.descriptor.specs.Primitive.{is_triangles}
use Rattle.descriptor.specs.DepthStencil.{is_keep, depth_enabled, depth_written, stencil_enabled, biased, clamped}
use Rattle.descriptor.specs.declared.depth_stencil.DepthStencilState.{DepthStencilState}
use Rattle.descriptor.specs.declared.primitive.PrimitiveTopology.{PrimitiveTopology}
use Rattle.errors.specs.declared.create.CreateRenderPipelineError.{CreateRenderPipelineError}
use Rattle.errors.specs.declared.create.CreateRenderPipelineError.TheVariants.{DepthStencilState as InDepthStencil, MissingFeatures, MissingDownlevelFlags}
use Rattle.errors.specs.declared.depth_stencil.DepthStencilStateError.{DepthStencilStateError}
use Rattle.errors.specs.declared.depth_stencil.DepthStencilStateError.TheVariants.{FormatNotRenderable, FormatNotDepthOrStencil, FormatNotDepth, FormatNotStencil, InvalidSampleCount, DepthBiasWithIncompatibleTopology, MissingDepthCompare, MissingDepthWriteEnabled}

abbrev pub has_depth : DepthStencilState → Bool
has_depth ds = (aspects_of ds.format).depth

abbrev pub has_stencil : DepthStencilState → Bool
has_stencil ds = (aspects_of ds.format).stencil

-- the format has neither depth nor stencil
abbrev pub aspect_verdict : DepthStencilState → Option DepthStencilStateError
aspect_verdict ds = fault_if (not (has_depth ds) && not (has_stencil ds)) (FormatNotDepthOrStencil ds.format)

-- the device lacks a feature that the format itself needs
abbrev pub feature_verdict : Device → DepthStencilState → Option CreateRenderPipelineError
feature_verdict d ds = within MissingFeatures (features_fault d (required_of ds.format))

-- by the answer used, the format cannot be drawn on
abbrev pub renderable_verdict : Device → Answers → DepthStencilState → Option DepthStencilStateError
renderable_verdict d answers ds = fault_if (not (used d answers ds.format).renderable) (FormatNotRenderable ds.format)

-- depth is enabled, and the format has none
abbrev pub no_depth_verdict : DepthStencilState → Option DepthStencilStateError
no_depth_verdict ds = fault_if (not (has_depth ds) && depth_enabled ds) (FormatNotDepth ds.format)

-- the format has depth, and whether it is written is not told
abbrev pub write_verdict : DepthStencilState → Option DepthStencilStateError
write_verdict ds = fault_if (has_depth ds && not (is_some ds.depth_write_enabled)) (MissingDepthWriteEnabled ds.format)

-- depth is written, or an operation follows where its comparison fails: the comparison has to be told
abbrev pub needs_compare : DepthStencilState → Bool
needs_compare ds =
    depth_written ds || not (is_keep ds.stencil.front.depth_fail_op) || not (is_keep ds.stencil.back.depth_fail_op)

abbrev pub compare_verdict : DepthStencilState → Option DepthStencilStateError
compare_verdict ds =
    fault_if (has_depth ds && (needs_compare ds && not (is_some ds.depth_compare))) (MissingDepthCompare ds.format)

abbrev pub depth_verdicts : DepthStencilState → List (Option DepthStencilStateError)
depth_verdicts ds = no_depth_verdict ds ∷ write_verdict ds ∷ compare_verdict ds ∷ []

-- the stencil is enabled, and the format has none
abbrev pub no_stencil_verdict : DepthStencilState → Option DepthStencilStateError
no_stencil_verdict ds = fault_if (stencil_enabled ds.stencil && not (has_stencil ds)) (FormatNotStencil ds.format)

-- more than one sample, and not a count among the flags. The refusal tells which counts are guaranteed, and which the adapter has
abbrev pub count_fault : Device → Answers → ℕ → TextureFormat → TextureFormatFeatureFlags → Option DepthStencilStateError
count_fault d answers count f flags =
    fault_if (nat_lt 1 count && not (supports flags count))
    (InvalidSampleCount (record { count = count; format = f; guaranteed = sum_of_counts (guaranteed d.features f).flags; supported = sum_of_counts (answers f).flags }))

-- the flags are those of the answer used
abbrev pub count_verdict : Device → Answers → ℕ → DepthStencilState → Option DepthStencilStateError
count_verdict d answers count ds = count_fault d answers count ds.format (used d answers ds.format).flags

-- the bias is clamped, and the device lacks the flag
abbrev pub clamp_verdict : Device → DepthStencilState → Option CreateRenderPipelineError
clamp_verdict d ds = cond (clamped ds.bias) (within MissingDownlevelFlags (flags_fault d depth_bias_clamp)) None

-- there is a bias, and what is drawn is no triangles
abbrev pub topology_verdict : PrimitiveTopology → DepthStencilState → Option CreateRenderPipelineError
topology_verdict topology ds =
    fault_if (biased ds.bias && not (is_triangles topology)) (InDepthStencil (DepthBiasWithIncompatibleTopology topology))

-- all rules, in order
abbrev pub state_verdicts : Device → Answers → ℕ → PrimitiveTopology → DepthStencilState → List (Option CreateRenderPipelineError)
state_verdicts d answers count topology ds =
    within InDepthStencil (aspect_verdict ds)
    ∷ feature_verdict d ds
    ∷ within InDepthStencil (renderable_verdict d answers ds)
    ∷ within InDepthStencil (no_depth_verdict ds)
    ∷ within InDepthStencil (write_verdict ds)
    ∷ within InDepthStencil (compare_verdict ds)
    ∷ within InDepthStencil (no_stencil_verdict ds)
    ∷ within InDepthStencil (count_verdict d answers count ds)
    ∷ clamp_verdict d ds
    ∷ topology_verdict topology ds
    ∷ []

-- a style may have no depth-stencil state
abbrev pub depth_stencil_verdicts : Device → Answers → ℕ → PrimitiveTopology → Option DepthStencilState → List (Option CreateRenderPipelineError)
depth_stencil_verdicts d answers count topology None = []
depth_stencil_verdicts d answers count topology (Some ds) = state_verdicts d answers count topology ds
