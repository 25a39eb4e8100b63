use Rattle.std.proofs.Common.{◌≡◌, Some, None, position, rules}
use Rattle.std.specs.Option.{option_or}
use Rattle.keyed.specs.Lookup.{hit, is_empty, value_of}
use Rattle.keyed.proofs.Places.{refused, stored}
use Rattle.keyed.proofs.Room.{room_stored, room_refused, effect_refused}
use Rattle.keyed.proofs.insert.Goals as goal

pub returns-in_err-at : goal.returns-in_err-at
returns-in_err-at g c =
    let places = c.args.places.now in
    let none : option_or (position (hit g.K.Key.same c.args.key) places) (position is_empty places) ≡ None = search rules in
    let full = refused g.K.Key.same places c.args.key none in
    record {
      effect = effect_refused g.K.Key.same c.args.value full c.from_residual.result c.from_residual.ensures.0;
      room = room_refused g.K.Key.same full c.from_residual.result c.from_residual.ensures.0;
    }

pub returns : goal.returns
returns g c =
    let places = c.args.places.now in
    let some : option_or (position (hit g.K.Key.same c.args.key) places) (position is_empty places) ≡ Some c.in_ok-at.at = search rules in
    let answer : c.map.result ≡ value_of c.index-places-at.result = search rules in
    let effect = stored g.K.Key.same g.met.K.Key.symmetric g.met.K.Key.transitive places c.in_ok-at.at c.args.key c.args.value c.index-places-at.result c.replace-earlier.new.self c.map.result some c.index-places-at.is c.replace-earlier.ensures.after answer in
    record { effect = effect; room = room_stored g.K.Key.same effect }
