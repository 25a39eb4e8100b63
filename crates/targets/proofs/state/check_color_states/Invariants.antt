use Rattle.std.proofs.Common.{◌≡◌}
use Rattle.targets.proofs.Loops.{fault_from}
use Rattle.targets.proofs.state.check_color_states.Given as goal

-- the targets so far pass: the first fault is that of the rest
abbrev pub invariant-loop-i : goal.invariant-loop-i
invariant-loop-i g l =
    fault_from l.device (g.A.Adapter.answers l.adapter) l.count 0 l.targets
    ≡ fault_from l.device (g.A.Adapter.answers l.adapter) l.count l.i l.targets
