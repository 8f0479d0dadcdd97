use Rattle.std.proofs.Common.{Some, None}
use Rattle.toml_edits.proofs.Telling.{fresh_tells}
use Rattle.toml_edits.proofs.moves.Moves.none.Goals as goal

pub returns : goal.returns
returns c = fresh_tells (Some None) c.of.result c.of.ensures
