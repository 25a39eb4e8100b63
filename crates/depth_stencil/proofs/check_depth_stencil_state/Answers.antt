use Rattle.std.proofs.Common.{Some}
use Rattle.depth_stencil.proofs.Lawful.{depth_stencil_judged}
use Rattle.depth_stencil.proofs.check_depth_stencil_state.Goals as goal

pub returns-in-Some : goal.returns-in-Some
returns-in-Some g c =
    rw c.in-Some.is
    (depth_stencil_judged c.args.device.now (g.A.Adapter.answers c.args.adapter.now) c.args.count c.args.topology (Some c.in-Some.ds) c.check_state.result c.check_state.ensures)
