use Rattle.std.proofs.Common.{◌≡◌, drop}
use Rattle.vertex.specs.Claims.{claimed}
use Rattle.vertex.specs.Order.{mark_all}
use Rattle.vertex.proofs.Loops.{claims_answer}
use Rattle.vertex.proofs.locations.Locations.claim_attributes.Given as goal

-- the attributes so far pass and are claimed: the answer, and what is claimed in the end, are those of the rest
abbrev pub invariant-loop-a : goal.invariant-loop-a
invariant-loop-a l = record {
  verdict : claims_answer l.device (claimed l.initial.self.places) l.part ≡ claims_answer l.device (claimed l.self.places) (drop l.a-index l.part);
  after : mark_all (claimed l.initial.self.places) l.part ≡ mark_all (claimed l.self.places) (drop l.a-index l.part);
}
