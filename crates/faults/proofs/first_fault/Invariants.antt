use Rattle.std.proofs.Common.{◌≡◌, drop}
use Rattle.faults.specs.Faults.{first_of}
use Rattle.faults.proofs.first_fault.Given as goal

-- the verdicts so far are none, so that the first fault is that of the rest
abbrev pub invariant-loop-verdict : goal.invariant-loop-verdict
invariant-loop-verdict g l = first_of l.verdicts ≡ first_of (drop l.verdict-index l.verdicts)
