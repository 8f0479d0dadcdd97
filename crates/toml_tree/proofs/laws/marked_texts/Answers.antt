use Rattle.toml_tree.proofs.Marked.{mark_ends_at_char, text_is_spelled}
use Rattle.toml_tree.proofs.laws.marked_texts.Goals as goal

pub returns-clause-text : goal.returns-clause-text
returns-clause-text c = text_is_spelled

pub returns-clause-mark : goal.returns-clause-mark
returns-clause-mark c = mark_ends_at_char
