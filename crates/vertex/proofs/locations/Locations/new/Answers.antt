use Rattle.vertex.proofs.Room.{none_claimed, all_room}
use Rattle.vertex.proofs.locations.Locations.new.Goals as goal

pub invariant_of-result : goal.invariant_of-result
invariant_of-result c = record { roomy = all_room }

pub returns : goal.returns
returns c = none_claimed
