use Rattle.std.proofs.Common.{rules}
use Rattle.targets.proofs.Pairs.{dual_judged}
use Rattle.targets.proofs.beside.check_dual_source_blending.Goals as goal

pub returns : goal.returns
returns c = dual_judged c.args.targets.now _ (search rules)
