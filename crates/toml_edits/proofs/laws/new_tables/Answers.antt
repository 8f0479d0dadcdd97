use Rattle.toml_edits.proofs.EmptyTables.{tables_stay, section_is_empty, element_is_empty}
use Rattle.toml_edits.proofs.laws.new_tables.Goals as goal

pub returns-clause-stay : goal.returns-clause-stay
returns-clause-stay c = tables_stay

pub returns-clause-section : goal.returns-clause-section
returns-clause-section c = section_is_empty

pub returns-clause-element : goal.returns-clause-element
returns-clause-element c = element_is_empty
