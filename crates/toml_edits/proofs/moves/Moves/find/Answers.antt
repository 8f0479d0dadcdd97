use Rattle.toml_edits.proofs.WalkShown.{nowhere_is}
use Rattle.toml_edits.proofs.moves.Moves.find.Goals as goal

pub returns-in-Nowhere : goal.returns-in-Nowhere
returns-in-Nowhere c = λ cs tells few. nowhere_is cs c.args.at.now (c.in-Nowhere.ensures cs tells few)
