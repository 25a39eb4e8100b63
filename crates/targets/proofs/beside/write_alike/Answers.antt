use Rattle.std.proofs.Common.{rules, sym, ◌∙◌}
use Rattle.std.specs.Option.{is_some}
use Rattle.std.proofs.lemmas.Iterator.{YieldsList-from_slice}
use Rattle.std.proofs.lemmas.Iterator.Search.{all_from_yields_List, find_from_yields_List}
use Rattle.targets.specs.Order.{like_first}
use Rattle.targets.proofs.Pairs.{alike_without, alike_by_first}
use Rattle.targets.proofs.beside.write_alike.Goals as goal

pub returns-in_default : goal.returns-in_default
returns-in_default c =
    let found = find_from_yields_List is_some _ _ c.find.result c.find.ensures.ran (YieldsList-from_slice c.args.targets.now cc) (λ x b q k. search rules) in
    alike_without c.args.targets.now (sym (rw c.in_default.is at found))

pub returns : goal.returns
returns c =
    let found = find_from_yields_List is_some _ _ c.find.result c.find.ensures.ran (YieldsList-from_slice c.args.targets.now cc) (λ x b q k. search rules) in
    all_from_yields_List (like_first c.in-Some.first.now) _ _ _ c.all.ensures.ran (YieldsList-from_slice c.args.targets.now cc) (λ x b q k. search rules)
    ∙ alike_by_first c.in-Some.first.now c.args.targets.now (sym (rw c.in-Some.is at found))
