-- The depth-stencil rules in words, with no order among them.
use Rattle.std.specs.Prelude.{◌≡◌, ℕ, ◌<◌, true, ◌⊎◌, is_some, Some, None, Option, Result}
use Rattle.faults.specs.Faults.{Judged}
use Rattle.formats.specs.Features.{includes, includes_flags, depth_bias_clamp}
use Rattle.formats.specs.Samples.{supports}
use Rattle.formats.specs.Texture.{required_of}
use Rattle.device.specs.declared.Device.{Device}
use Rattle.adapter.specs.Used.{Answers, used}
use Rattle.descriptor.specs.Primitive.{is_triangles}
use Rattle.descriptor.specs.DepthStencil.{depth_enabled, stencil_enabled, biased, clamped}
use Rattle.descriptor.specs.declared.depth_stencil.DepthStencilState.{DepthStencilState}
use Rattle.descriptor.specs.declared.primitive.PrimitiveTopology.{PrimitiveTopology}
use Rattle.errors.specs.declared.create.CreateRenderPipelineError.{CreateRenderPipelineError}
use Rattle.depth_stencil.specs.Order.{has_depth, has_stencil, needs_compare, depth_stencil_verdicts}

pub record StateLawful (d : Device) (answers : Answers) (count : ℕ) (topology : PrimitiveTopology) (ds : DepthStencilState) : Type 0 where
  pub aspects : (has_depth ds ≡ true) ⊎ (has_stencil ds ≡ true)
  pub feature : includes d.features (required_of ds.format) ≡ true
  pub renderable : (used d answers ds.format).renderable ≡ true
  pub depth : depth_enabled ds ≡ true → has_depth ds ≡ true
  pub write_told : has_depth ds ≡ true → is_some ds.depth_write_enabled ≡ true
  pub compare_told : has_depth ds ≡ true → needs_compare ds ≡ true → is_some ds.depth_compare ≡ true
  pub stencil : stencil_enabled ds.stencil ≡ true → has_stencil ds ≡ true
  pub samples : 1 < count → supports (used d answers ds.format).flags count ≡ true
  pub clamp : clamped ds.bias ≡ true → includes_flags d.downlevel depth_bias_clamp ≡ true
  pub bias : biased ds.bias ≡ true → is_triangles topology ≡ true

abbrev pub DepthStencilLawful : Device → Answers → ℕ → PrimitiveTopology → Option DepthStencilState → Type 0
DepthStencilLawful d answers count topology None = Unit {0}
DepthStencilLawful d answers count topology (Some ds) = StateLawful d answers count topology ds

abbrev pub DepthStencilJudged : Device → Answers → ℕ → PrimitiveTopology → Option DepthStencilState → Result (Unit {0}) CreateRenderPipelineError → Type 0
DepthStencilJudged d answers count topology state r =
    Judged (depth_stencil_verdicts d answers count topology state) tt (DepthStencilLawful d answers count topology state) r
