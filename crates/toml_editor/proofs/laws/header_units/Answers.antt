use Rattle.toml_editor.proofs.Proved.{element_units, section_units}
use Rattle.toml_editor.proofs.laws.header_units.Goals as goal

pub returns : goal.returns
returns c = record { section = section_units; element = element_units }
