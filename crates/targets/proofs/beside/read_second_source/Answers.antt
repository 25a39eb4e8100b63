use Rattle.std.proofs.Common.{rules, ◌∙◌}
use Rattle.std.proofs.lemmas.Iterator.{YieldsList-from_slice}
use Rattle.std.proofs.lemmas.Iterator.Search.{any_from_yields_List}
use Rattle.targets.specs.Order.{reads_second_at}
use Rattle.targets.proofs.Pairs.{any_second}
use Rattle.targets.proofs.beside.read_second_source.Goals as goal

pub returns : goal.returns
returns c =
    any_from_yields_List reads_second_at _ _ _ c.any.ensures.ran (YieldsList-from_slice c.args.targets.now cc) (λ x b q k. search rules)
    ∙ any_second c.args.targets.now
