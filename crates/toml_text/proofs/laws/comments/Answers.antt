use Rattle.toml_text.proofs.Found.{comments_piece, comment_found}
use Rattle.toml_text.proofs.laws.comments.Goals as goal

pub returns-clause-piece : goal.returns-clause-piece
returns-clause-piece c = comments_piece

pub returns-clause-found : goal.returns-clause-found
returns-clause-found c = comment_found
