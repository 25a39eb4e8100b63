use Rattle.std.proofs.Common.{rules}
use Rattle.adapter.proofs.FirstRow.{answered, first_row_answers}
use Rattle.adapter.proofs.listed.ListedAdapterAdapter.get_texture_format_features.Goals as goal

pub returns : goal.returns
returns c =
    let rows = c.args.self.now.rows.now in
    let e = answered c.args.format rows c.first_row.result c.map_or.result c.first_row.ensures (search rules) in
    record { value = e; law = first_row_answers c.args.format rows _ e }
