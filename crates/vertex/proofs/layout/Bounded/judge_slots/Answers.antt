use Rattle.std.proofs.Common.{set, None, ap, ◌∙◌, arith}
use Rattle.faults.proofs.Order.{value_from_ok}
use Rattle.faults.proofs.Fixed.{filled_more}
use Rattle.vertex.specs.Order.{step_of}
use Rattle.faults.proofs.Verdicts.{in_order}
use Rattle.vertex.proofs.Slots.{slot_stays}
use Rattle.vertex.proofs.layout.Bounded.judge_slots.Goals as goal

pub judge_slot-requires : goal.judge_slot-requires
judge_slot-requires c =
    let v = c.args.self.now.vertex in
    slot_stays v.buffers.now v.attributes.now c.args.self.now.ranged c.loop-i.i c.loop-i-test.true

pub returns-in_err-steps : goal.returns-in_err-steps
returns-in_err-steps c = grind in_order

pub loop-i-preserved : goal.loop-i-preserved
loop-i-preserved c =
    let v = c.args.self.now.vertex in
    let e = c.in_ok-steps.ensures in
    record {
      verdict = grind in_order;
      kept =
          ap (set c.loop-i.steps c.loop-i.i) (value_from_ok _ _ _ e.verdict)
          ∙ filled_more (step_of v.attributes.now) v.buffers.now 16 c.loop-i.i None None c.loop-i-test.true (omega arith) c.loop-i.steps c.loop-i.invariant.kept;
    }
