use Rattle.std.proofs.Common.{◌≡◌, ◌*◌, ◌≤◌, drop}
use Rattle.attachments.proofs.Costs.{costs_answer}
use Rattle.attachments.proofs.bytes.total_cost.Given as goal

-- the attachments so far have a cost: the answer is that of the rest, beside their bytes
abbrev pub invariant-loop-i : goal.invariant-loop-i
invariant-loop-i l = (costs_answer 0 0 l.colors ≡ costs_answer l.i l.total (drop l.i l.colors)) × (l.total ≤ 20 * l.i)
