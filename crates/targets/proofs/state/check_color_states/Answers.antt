use Rattle.std.proofs.Common.{arith}
use Rattle.targets.proofs.Lawful.{targets_judged}
use Rattle.targets.proofs.Loops.{target_steps, no_target}
use Rattle.targets.proofs.state.check_color_states.Goals as goal

pub returns-in_err-check_target : goal.returns-in_err-check_target
returns-in_err-check_target g c =
    targets_judged c.args.device.now (g.A.Adapter.answers c.args.adapter.now) c.args.count c.args.targets.now _ (grind (arith, target_steps))

pub loop-i-preserved : goal.loop-i-preserved
loop-i-preserved g c = grind (arith, target_steps)

pub returns : goal.returns
returns g c =
    targets_judged c.args.device.now (g.A.Adapter.answers c.args.adapter.now) c.args.count c.args.targets.now _ (grind (arith, no_target))
