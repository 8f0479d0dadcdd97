use Rattle.toml_edits.proofs.Telling.{if_told, made_told}
use Rattle.toml_edits.proofs.moves.above.Goals as goal

pub returns : goal.returns
returns c = if_told c.enter.result (made_told c.args.at.now c.in-Some.parent.now c.in-Some._last.now c.args.tree.now c.enter.new.tree c.in-Some.ensures.cases.0) c.enter.ensures
