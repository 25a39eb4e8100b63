use Rattle.faults.proofs.Verdicts.{in_order}
use Rattle.vertex.proofs.Slots.{all_low}
use Rattle.vertex.proofs.layout.Bounded.judge_part.Goals as goal

pub returns-in_err-last_stride-clause-verdict : goal.returns-in_err-last_stride-clause-verdict
returns-in_err-last_stride-clause-verdict c = grind in_order

pub claim_attributes-requires : goal.claim_attributes-requires
claim_attributes-requires c = all_low c.args.self.now.device.now _ _ _ _ c.in_ok-last_stride.ensures

pub returns-in_err-claim_attributes-clause-verdict : goal.returns-in_err-claim_attributes-clause-verdict
returns-in_err-claim_attributes-clause-verdict c = grind in_order

pub returns-clause-verdict : goal.returns-clause-verdict
returns-clause-verdict c = grind in_order
