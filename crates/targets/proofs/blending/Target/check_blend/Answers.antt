use Rattle.std.proofs.Common.{arith}
use Rattle.faults.proofs.Verdicts.{verdict_cases}
use Rattle.targets.proofs.blending.Target.check_blend.Goals as goal

pub returns-in_err-check_component : goal.returns-in_err-check_component
returns-in_err-check_component c = grind (arith, verdict_cases)
