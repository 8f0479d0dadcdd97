use Rattle.toml_tree.proofs.Bared.{bare_value_text, bare_items_text, bare_pairs_text, bare_lines_text}
use Rattle.toml_tree.proofs.laws.bare_texts.Goals as goal

pub returns-clause-value : goal.returns-clause-value
returns-clause-value c = bare_value_text

pub returns-clause-items : goal.returns-clause-items
returns-clause-items c = bare_items_text

pub returns-clause-pairs : goal.returns-clause-pairs
returns-clause-pairs c = bare_pairs_text

pub returns-clause-lines : goal.returns-clause-lines
returns-clause-lines c = bare_lines_text
