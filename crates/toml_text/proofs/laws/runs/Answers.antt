use Rattle.toml_text.proofs.Found.{run_piece, run_found}
use Rattle.toml_text.proofs.Runs.{run_most, run_stop}
use Rattle.toml_text.proofs.laws.runs.Goals as goal

pub returns-clause-piece : goal.returns-clause-piece
returns-clause-piece c = run_piece

pub returns-clause-found : goal.returns-clause-found
returns-clause-found c = run_found

pub returns-clause-longest : goal.returns-clause-longest
returns-clause-longest c = run_most

pub returns-clause-stops : goal.returns-clause-stops
returns-clause-stops c = run_stop
