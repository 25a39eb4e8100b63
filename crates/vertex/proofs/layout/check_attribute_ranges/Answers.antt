use Rattle.faults.proofs.Verdicts.{in_order}
use Rattle.vertex.proofs.Lawful.{ranges_answer_lem}
use Rattle.vertex.proofs.layout.check_attribute_ranges.Goals as goal

pub returns-in_err-check_range : goal.returns-in_err-check_range
returns-in_err-check_range c =
    ranges_answer_lem c.args.vertex.now.buffers.now c.args.vertex.now.attributes.now _ (grind in_order)

pub returns : goal.returns
returns c =
    ranges_answer_lem c.args.vertex.now.buffers.now c.args.vertex.now.attributes.now _ (grind in_order)
