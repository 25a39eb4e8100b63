use Rattle.std.proofs.Common.{◌≡◌, drop}
use Rattle.vertex.proofs.Loops.{attributes_answer}
use Rattle.vertex.proofs.reach.Reach.check_attributes.Given as goal

-- the attributes so far pass, and their greatest end is kept: the answer is that of the rest
abbrev pub invariant-loop-a : goal.invariant-loop-a
invariant-loop-a l =
    attributes_answer l.self.device.now l.self.most 0 l.part ≡ attributes_answer l.self.device.now l.self.most l.last_stride (drop l.a-index l.part)
