use Rattle.std.proofs.Common.{refl}
use Rattle.formats.specs.Vertex.{sizes}
use Rattle.formats.proofs.Sizes.{in_range}
use Rattle.formats.proofs.vertex.size_at.Goals as goal

pub returns-clause-range : goal.returns-clause-range
returns-clause-range c = in_range sizes c.args.place refl c.requires
