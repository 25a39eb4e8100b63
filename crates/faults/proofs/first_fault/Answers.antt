use Rattle.std.proofs.Common.{sym, ◌∙◌}
use Rattle.std.proofs.lemmas.List.{at_drop_all}
use Rattle.faults.specs.Faults.{first_of}
use Rattle.faults.proofs.Order.{first_in_at, scan_stops, scan_passes}
use Rattle.faults.proofs.first_fault.Goals as goal

pub returns-in-Some : goal.returns-in-Some
returns-in-Some g c =
    let e = scan_stops c.args.verdicts.now c.loop-verdict.verdict-index c.verdict-item.result c.loop-verdict.invariant c.loop-verdict-test.true c.verdict-item.is c.in-Some.fault c.in-Some.is in
    record { value = e; first = first_in_at c.args.verdicts.now _ e }

pub loop-verdict-preserved : goal.loop-verdict-preserved
loop-verdict-preserved g c =
    scan_passes c.args.verdicts.now c.loop-verdict.verdict-index c.verdict-item.result c.loop-verdict.invariant c.loop-verdict-test.true c.verdict-item.is c.in_default.is

pub returns : goal.returns
returns g c =
    let e = sym (c.loop-verdict.invariant ∙ at_drop_all first_of c.args.verdicts.now c.loop-verdict.verdict-index c.loop-verdict-test.false) in
    record { value = e; first = first_in_at c.args.verdicts.now _ e }
