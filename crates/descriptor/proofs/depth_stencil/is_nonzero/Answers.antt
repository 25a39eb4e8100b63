use Rattle.descriptor.proofs.depth_stencil.is_nonzero.Goals as goal
use Rattle.descriptor.proofs.Floats.{ne_zero}

pub returns : goal.returns
returns c = ne_zero c.args.x
