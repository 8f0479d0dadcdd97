use Rattle.toml_edits.proofs.Telling.{if_told, renamed_name, renamed_index}
use Rattle.toml_edits.proofs.moves.rename.Goals as goal

pub returns-in-Name : goal.returns-in-Name
returns-in-Name c = if_told c.enter.result (renamed_name c.args.at.now c.in-Some.parent.now c.in-Some.last.now c.in-Name.name c.as_str.result c.args.to c.args.tree.now c.enter.new.tree c.in-Some.ensures.cases.0 c.in-Name.is c.as_str.ensures) c.enter.ensures

pub returns-in-Index : goal.returns-in-Index
returns-in-Index c = if_told c.enter-in-Index.result (renamed_index c.args.at.now c.in-Some.parent.now c.in-Some.last.now c.in-Index.field-0 c.args.to.now c.args.tree.now c.enter-in-Index.new.tree c.in-Some.ensures.cases.0 c.in-Index.is) c.enter-in-Index.ensures
