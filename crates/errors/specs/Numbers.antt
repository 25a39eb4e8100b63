-- The number of each fault of create in the rule book.
use Rattle.std.specs.Prelude.{ℕ}
use Rattle.device.specs.Lacking.{missing_features_number, missing_flags_number}
use Rattle.attachments.specs.Numbers.{number_of as attachment_number}
use Rattle.vertex.specs.Numbers.{number_of as vertex_number}
use Rattle.errors.specs.declared.create.CreateRenderPipelineError.{CreateRenderPipelineError}
use Rattle.errors.specs.declared.create.CreateRenderPipelineError.TheVariants.{ColorAttachment, ColorState, DepthStencilState, InvalidSampleCount, VertexState, StripIndexFormatForNonStripTopology, ConservativeRasterizationNonFillPolygonMode, MissingFeatures, MissingDownlevelFlags, DualSourceBlendingWithMultipleColorTargets, NoTargetSpecified}

abbrev pub number_of : CreateRenderPipelineError → ℕ
number_of (ColorAttachment e) = attachment_number e
number_of (ColorState target e) = 13
number_of (DepthStencilState e) = 17
number_of (InvalidSampleCount count) = 19
number_of (VertexState e) = vertex_number e
number_of (StripIndexFormatForNonStripTopology format topology) = 11
number_of ConservativeRasterizationNonFillPolygonMode = 12
number_of (MissingFeatures e) = missing_features_number e
number_of (MissingDownlevelFlags e) = missing_flags_number e
number_of (DualSourceBlendingWithMultipleColorTargets count) = 14
number_of NoTargetSpecified = 18
