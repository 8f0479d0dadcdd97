use Rattle.toml_editor.proofs.laws.standing_removed.Goals as goal
use Rattle.toml_editor.proofs.written.RemovedEither.{remove_stands}
use Rattle.toml_editor.proofs.written.RootPairs.{root_pairs}

pub returns-clause-root : goal.returns-clause-root
returns-clause-root c = root_pairs

pub returns-clause-remove : goal.returns-clause-remove
returns-clause-remove c = remove_stands
