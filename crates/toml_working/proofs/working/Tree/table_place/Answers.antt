use Rattle.toml_working.specs.Seeing.{read_by}
use Rattle.toml_working.proofs.TablesFound.{no_dotted_met}
use Rattle.toml_working.proofs.working.Tree.table_place.Goals as goal

pub returns-in-Some-clause-implied : goal.returns-in-Some-clause-implied
returns-in-Some-clause-implied c lines no_header no_dotted below =
    let p = c.args.at.now in
    let units = c.args.before.units.now in
    let slots = c.args.self.now.slots.items in
    absurd (no_dotted_met p (read_by units lines) slots c.near_table.result c.in-Some.place c.in-Some.is no_dotted (c.near_table.ensures.finds lines)
    (c.near_table.ensures.dotted lines no_header))
