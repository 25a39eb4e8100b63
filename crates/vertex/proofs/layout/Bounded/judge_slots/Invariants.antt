use Rattle.std.proofs.Common.{◌≡◌, ◌-◌, ◌++◌, map, take, drop, replicate, None}
use Rattle.vertex.specs.Claims.{claimed}
use Rattle.vertex.specs.Order.{unused, step_of}
use Rattle.vertex.proofs.Loops.{slots_answer}
use Rattle.vertex.proofs.layout.Bounded.judge_slots.Given as goal

-- the slots so far pass, are claimed, and have their steps: the answer is that of the rest
abbrev pub invariant-loop-i : goal.invariant-loop-i
invariant-loop-i l =
    let attributes = l.self.vertex.attributes.now in
    let slots = l.self.vertex.buffers.now in
    record {
      verdict : slots_answer l.self.device.now attributes 0 unused slots ≡ slots_answer l.self.device.now attributes l.i (claimed l.locations.places) (drop l.i slots);
      kept : l.steps ≡ map (step_of attributes) (take l.i slots) ++ replicate (16 - l.i) None;
    }
