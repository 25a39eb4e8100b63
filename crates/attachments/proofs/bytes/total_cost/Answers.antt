use Rattle.std.proofs.Common.{rules, None}
use Rattle.std.proofs.lemmas.List.{at_drop_more, at_drop_all}
use Rattle.faults.proofs.Verdicts.{in_order}
use Rattle.attachments.proofs.Costs.{costs_answer}
use Rattle.attachments.proofs.bytes.total_cost.Goals as goal

pub returns-in_err-total : goal.returns-in_err-total
returns-in_err-total c =
    let here = at_drop_more (costs_answer c.loop-i.i c.loop-i.total) c.args.colors.now c.loop-i.i None (search rules) in
    grind (in_order, here)

pub loop-i-preserved : goal.loop-i-preserved
loop-i-preserved c =
    let here = at_drop_more (costs_answer c.loop-i.i c.loop-i.total) c.args.colors.now c.loop-i.i None (search rules) in
    grind (in_order, here)

pub returns : goal.returns
returns c =
    let end = at_drop_all (costs_answer c.loop-i.i c.loop-i.total) c.args.colors.now c.loop-i.i (search rules) in
    grind (in_order, end)
