use Rattle.std.proofs.Common.{◌≡◌, sym, ◌∙◌, ap, Bool, rules, tests}
use Rattle.std.specs.List.{find, flat_map}
use Rattle.std.specs.Option.{option_map, option_to_list}
use Rattle.std.proofs.lemmas.Iterator.{YieldsList-from_slice}
use Rattle.std.proofs.lemmas.Iterator.Adapters.{YieldsList-from_flatten, YieldsList-from_once, option_map_id}
use Rattle.std.proofs.lemmas.Iterator.Consumers.{YieldsList-from_copied, YieldsList-at}
use Rattle.std.proofs.lemmas.Iterator.Search.{find_from_yields_List}
use Rattle.keyed.specs.declared.Entry.{Entry}
use Rattle.keyed.proofs.Places.{lookup-find}
use Rattle.keyed.proofs.get.Goals as goal

pub returns : goal.returns
returns g c =
    let test : Entry g.row.K.Denot g.row.V.Denot → Bool = λ e. g.K.Key.same e.key c.args.key.now in
    let places = YieldsList-from_copied (YieldsList-at c.copied.ensures.source (YieldsList-from_slice c.args.places.now cc)) in
    let found : option_map (λ e. e) c.find.result ≡ find test (flat_map option_to_list c.args.places.now) =
    find_from_yields_List test _ _ c.find.result c.find.ensures.ran (YieldsList-from_flatten _ _ (λ e. e) option_to_list (λ x j h. YieldsList-from_once x h.0) (YieldsList-at c.flatten.ensures.source places) (cc) (cc) (cc)) (λ x b q k. search (rules, tests)) in
    let value : c.map.result ≡ option_map (λ e. e.value) c.find.result = search rules in
    value ∙ ap (option_map (λ e. e.value)) (sym (option_map_id c.find.result) ∙ found) ∙ sym (lookup-find g.K.Key.same c.args.places.now c.args.key.now)
