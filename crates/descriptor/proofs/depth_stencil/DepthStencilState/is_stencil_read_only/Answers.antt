use Rattle.descriptor.proofs.Written.{writes_stencil}
use Rattle.descriptor.proofs.depth_stencil.DepthStencilState.is_stencil_read_only.Goals as goal

pub returns : goal.returns
returns c = record { value = c.is_read_only.ensures; exactly = writes_stencil _ _ _ c.is_read_only.ensures }
