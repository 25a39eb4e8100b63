use Rattle.std.proofs.Common.{rules}
use Rattle.targets.proofs.Pairs.{independent_judged}
use Rattle.targets.proofs.beside.check_independent_blend.Goals as goal

pub returns-in_err-require_downlevel_flags : goal.returns-in_err-require_downlevel_flags
returns-in_err-require_downlevel_flags c = independent_judged c.args.device.now c.args.targets.now _ (search rules)

pub returns-else-not-write_alike : goal.returns-else-not-write_alike
returns-else-not-write_alike c = independent_judged c.args.device.now c.args.targets.now _ (search rules)
