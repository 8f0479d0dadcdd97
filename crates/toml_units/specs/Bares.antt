-- Units without places.
use Rattle.std.specs.Prelude.{◌≡◌, List, map}
use Rattle.toml_tree.specs.Bare.{bare, bare_lines}
use Rattle.toml_tree.specs.Tree.{Line}
use Rattle.toml_units.specs.Units.{TextUnit, units}

abbrev pub bare_unit : TextUnit → TextUnit
bare_unit u = record { kind = u.kind; piece = bare u.piece; address = u.address; base = u.base }

-- Law: the units of lines without places are those of the lines, without places.
abbrev pub UnitsOfBares : Type 0
UnitsOfBares = (lines : List Line) → units (bare_lines lines) ≡ map bare_unit (units lines)
