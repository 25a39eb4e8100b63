use Rattle.vertex.proofs.Room.{not_refused, room_kept}
use Rattle.vertex.proofs.locations.Locations.claim_attribute.Goals as goal

pub unreachable-requires : goal.unreachable-requires
unreachable-requires c =
    not_refused c.args.self.now.places c.args.a.now.shader_location _ c.requires c.args.self.now.roomy c.in_default.ensures.effect

pub invariant_of-self : goal.invariant_of-self
invariant_of-self c =
    record { roomy = room_kept c.args.self.now.places c.args.a.now.shader_location _ _ c.insert.result c.requires c.args.self.now.roomy c.insert.ensures.effect }
