-- Each way out gives the value of the whole, from what the calls before it answered.
use Rattle.faults.proofs.Verdicts.{exits}
use Rattle.depth_stencil.proofs.Steps.{depth_refuses, stencil_refuses, count_refuses, clamp_refuses, topology_answers}
use Rattle.depth_stencil.proofs.check_state.Goals as goal

pub returns-in_err-check_depth : goal.returns-in_err-check_depth
returns-in_err-check_depth g c =
    exits _ c.from_residual-in_err-check_depth.ensures.1
    (depth_refuses c.args.device.now (g.A.Adapter.answers c.args.adapter.now) c.args.count c.args.topology c.args.ds.now
    c.in_ok-check_aspects.ensures _ c.in_ok-features.ensures.value c.in_ok-refuse_if.ensures _ c.in_err-check_depth.ensures)

pub returns-in_err-check_stencil : goal.returns-in_err-check_stencil
returns-in_err-check_stencil g c =
    exits _ c.from_residual-in_err-check_stencil.ensures.1
    (stencil_refuses c.args.device.now (g.A.Adapter.answers c.args.adapter.now) c.args.count c.args.topology c.args.ds.now
    c.in_ok-check_aspects.ensures _ c.in_ok-features.ensures.value c.in_ok-refuse_if.ensures c.in_ok-check_depth.ensures _ c.in_err-check_stencil.ensures)

pub returns-in_err-check_sample_count : goal.returns-in_err-check_sample_count
returns-in_err-check_sample_count g c =
    exits _ c.from_residual-in_err-check_sample_count.ensures.1
    (count_refuses c.args.device.now (g.A.Adapter.answers c.args.adapter.now) c.args.count c.args.topology c.args.ds.now
    c.in_ok-check_aspects.ensures _ c.in_ok-features.ensures.value c.in_ok-refuse_if.ensures c.in_ok-check_depth.ensures c.in_ok-check_stencil.ensures _ c.in_err-check_sample_count.ensures)

pub returns-in_err-check_clamp : goal.returns-in_err-check_clamp
returns-in_err-check_clamp g c =
    exits _ c.from_residual-in_err-check_clamp.ensures.1
    (clamp_refuses c.args.device.now (g.A.Adapter.answers c.args.adapter.now) c.args.count c.args.topology c.args.ds.now
    c.in_ok-check_aspects.ensures _ c.in_ok-features.ensures.value c.in_ok-refuse_if.ensures c.in_ok-check_depth.ensures c.in_ok-check_stencil.ensures c.in_ok-check_sample_count.ensures _ c.in_err-check_clamp.ensures)

pub returns : goal.returns
returns g c =
    topology_answers c.args.device.now (g.A.Adapter.answers c.args.adapter.now) c.args.count c.args.topology c.args.ds.now
    c.in_ok-check_aspects.ensures _ c.in_ok-features.ensures.value c.in_ok-refuse_if.ensures c.in_ok-check_depth.ensures c.in_ok-check_stencil.ensures c.in_ok-check_sample_count.ensures c.in_ok-check_clamp.ensures _ c.check_topology.ensures
