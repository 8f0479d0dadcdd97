use Rattle.toml_tree.proofs.Inner.{value_piece, value_byte, value_start, keyval_start, expr_starts}
use Rattle.toml_tree.proofs.laws.pieces.Goals as goal

pub returns-clause-text : goal.returns-clause-text
returns-clause-text c = value_piece

pub returns-clause-byte : goal.returns-clause-byte
returns-clause-byte c = value_byte

pub returns-clause-value_start : goal.returns-clause-value_start
returns-clause-value_start c = value_start

pub returns-clause-keyval_start : goal.returns-clause-keyval_start
returns-clause-keyval_start c = keyval_start

pub returns-clause-expr_start : goal.returns-clause-expr_start
returns-clause-expr_start c = expr_starts
