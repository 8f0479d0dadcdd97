use Rattle.toml_edits.proofs.Telling.{if_told, inserted_name, inserted_index}
use Rattle.toml_edits.proofs.moves.insert.Goals as goal

pub returns-in-Name : goal.returns-in-Name
returns-in-Name c = if_told c.enter.result (inserted_name c.args.at.now c.in-Some.parent.now c.in-Some.last.now c.in-Name.field-0 c.args.tree.now c.enter.new.tree c.in-Some.ensures.cases.0 c.in-Name.is) c.enter.ensures

pub returns-in-Index : goal.returns-in-Index
returns-in-Index c = if_told c.enter-in-Index.result (inserted_index c.args.at.now c.in-Some.parent.now c.in-Some.last.now c.in-Index.index c.args.tree.now c.enter-in-Index.new.tree c.in-Some.ensures.cases.0 c.in-Index.is) c.enter-in-Index.ensures
