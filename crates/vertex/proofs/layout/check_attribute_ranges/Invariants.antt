use Rattle.std.proofs.Common.{◌≡◌, length, drop}
use Rattle.vertex.proofs.Loops.{ranges_answer}
use Rattle.vertex.proofs.layout.check_attribute_ranges.Given as goal

-- the slots so far stay in the list: the answer is that of the rest
abbrev pub invariant-loop-i : goal.invariant-loop-i
invariant-loop-i l =
    ranges_answer (length l.vertex.attributes.now) 0 l.vertex.buffers.now
    ≡ ranges_answer (length l.vertex.attributes.now) l.i (drop l.i l.vertex.buffers.now)
