-- Each way out gives the value of the whole; the rest of what is promised follows from that.
use Rattle.std.proofs.Common.{refl}
use Rattle.faults.proofs.Verdicts.{in_order}
use Rattle.vertex.proofs.Kept.{answers}
use Rattle.vertex.proofs.layout.check_vertex_state.Goals as goal

pub returns-in_err-check_attribute_ranges : goal.returns-in_err-check_attribute_ranges
returns-in_err-check_attribute_ranges c =
    let v = c.args.vertex.now in
    answers c.args.device.now v.buffers.now v.attributes.now _ (grind in_order)

pub returns-in_err-check_buffer_count : goal.returns-in_err-check_buffer_count
returns-in_err-check_buffer_count c =
    let v = c.args.vertex.now in
    answers c.args.device.now v.buffers.now v.attributes.now _ (grind in_order)

pub invariant_of-bounded : goal.invariant_of-bounded
invariant_of-bounded c =
    record {
      few = grind (in_order, c.args.device.now.limits.buffers);
      ranged = c.in_ok-check_attribute_ranges.ensures.lawful refl;
    }

pub returns-in_err-steps : goal.returns-in_err-steps
returns-in_err-steps c =
    let v = c.args.vertex.now in
    answers c.args.device.now v.buffers.now v.attributes.now _ (grind in_order)

pub returns-in_err-check_attribute_count : goal.returns-in_err-check_attribute_count
returns-in_err-check_attribute_count c =
    let v = c.args.vertex.now in
    answers c.args.device.now v.buffers.now v.attributes.now _ (grind in_order)

pub returns : goal.returns
returns c =
    let v = c.args.vertex.now in
    answers c.args.device.now v.buffers.now v.attributes.now _ (grind in_order)
