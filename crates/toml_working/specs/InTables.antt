-- `insert` of a name in a table that is not the root, is no value and lies in none, whatever makes the table.
use Rattle.std.specs.Prelude.{List}
use Rattle.std.specs.declared.alloc.Global.{Global}
use Rattle.std.specs.declared.string.String.{String}
use Rattle.toml_names.specs.model.Addresses.{Address}
use Rattle.toml_layout.specs.Outlines.{ValueOutline}
use Rattle.toml_working.specs.declared.working.Tree.{Tree}
use Rattle.toml_working.specs.DottedTables.{TreePutsDotted}
use Rattle.toml_working.specs.ImpliedTables.{TreePutsAhead}
use Rattle.toml_working.specs.Sections.{TreePutsBelow}
use Rattle.toml_working.specs.Standing.{Read}

-- what it does where the table has a header, where dotted keys make it, and where longer headers imply it
pub record TreePutsIn (q at : Address) (steps : List (String Global)) (v : ValueOutline) (read : Read) (old now : Tree) : Type 0 where
  pub header : TreePutsBelow q at steps v read old now
  pub dotted : TreePutsDotted q at steps v read old now
  pub implied : TreePutsAhead q at steps v read old now
