-- Which fault of the editor a fault of a crate below becomes.
use Rattle.toml_names.specs.declared.fault.NameFault.{NameFault}
use Rattle.toml_names.specs.declared.fault.NameFault.TheVariants as names
use Rattle.toml_scalar.specs.declared.fault.SyntaxFault.{SyntaxFault}
use Rattle.toml_scalar.specs.declared.fault.SyntaxFault.TheVariants as faults
use Rattle.toml_editor.specs.declared.fault.EditorFault.{EditorFault}
use Rattle.toml_editor.specs.declared.fault.EditorFault.TheVariants.{Syntax, Names, NoMemory}

abbrev pub of_syntax : SyntaxFault → EditorFault
of_syntax faults.NoMemory = NoMemory
of_syntax fault = Syntax fault

abbrev pub of_names : NameFault → EditorFault
of_names names.NoMemory = NoMemory
of_names fault = Names fault
