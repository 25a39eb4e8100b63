use Rattle.std.proofs.Common.{arith}
use Rattle.faults.proofs.Verdicts.{verdict_cases}
use Rattle.targets.proofs.state.Judge.check_state.Goals as goal

pub returns-in_err-check_uses : goal.returns-in_err-check_uses
returns-in_err-check_uses g c = grind (arith, verdict_cases)

pub returns-in_err-check_sample_count : goal.returns-in_err-check_sample_count
returns-in_err-check_sample_count g c = grind (arith, verdict_cases)

pub returns : goal.returns
returns g c = grind (arith, verdict_cases)
