use Rattle.toml_tree.proofs.Moved.{moved_value_text, moved_keyval_text, moved_expr_text}
use Rattle.toml_tree.proofs.laws.moved_texts.Goals as goal

pub returns-clause-value : goal.returns-clause-value
returns-clause-value c = moved_value_text

pub returns-clause-keyval : goal.returns-clause-keyval
returns-clause-keyval c = moved_keyval_text

pub returns-clause-expr : goal.returns-clause-expr
returns-clause-expr c = moved_expr_text
