use Rattle.toml_text.proofs.Found.{newlines_piece, newline_found}
use Rattle.toml_text.proofs.laws.newlines.Goals as goal

pub returns-clause-piece : goal.returns-clause-piece
returns-clause-piece c = newlines_piece

pub returns-clause-found : goal.returns-clause-found
returns-clause-found c = newline_found
