use Rattle.std.proofs.Common.{rules}
use Rattle.vertex.specs.Claims.{claimed}
use Rattle.vertex.proofs.Loops.{claims_refused, claims_passed, marks_more}
use Rattle.vertex.proofs.locations.Locations.claim_attributes.Goals as goal

pub returns-in_err-claim_attribute-clause-verdict : goal.returns-in_err-claim_attribute-clause-verdict
returns-in_err-claim_attribute-clause-verdict c =
    let refused = claims_refused c.args.device.now (claimed c.loop-a.self.places) c.args.part.now c.loop-a.a-index _ c.loop-a-test.true _ c.loop-a.invariant.verdict _
    c.in_err-claim_attribute.ensures.verdict in
    search (rules, refused)

pub loop-a-preserved : goal.loop-a-preserved
loop-a-preserved c =
    let e = c.in_ok-claim_attribute.ensures in
    record {
      verdict =
          claims_passed c.args.device.now (claimed c.loop-a.self.places) c.args.part.now c.loop-a.a-index _ c.loop-a-test.true _ c.loop-a.invariant.verdict _
          e.after e.verdict;
      after =
          marks_more c.args.device.now (claimed c.loop-a.self.places) c.args.part.now c.loop-a.a-index _ c.loop-a-test.true _ c.loop-a.invariant.verdict _ _
          c.loop-a.invariant.after e.after;
    }
