-- The lines of the document, as the code knows them.
use Rattle.std.specs.Prelude.{List, map}
use Rattle.toml_tree.specs.HandedOut.{line_ahead}
use Rattle.toml_tree.specs.Lines.{line}
use Rattle.toml_tree.specs.Tree.{Line}
use Rattle.toml_layout.specs.declared.known.KnownLine.{KnownLine}
use Rattle.toml_layout.specs.declared.known.KnownLine.TheVariants.{Held, Place}

-- the line, held or handed out again
abbrev pub known_line : KnownLine → Line
known_line (Held held) = line held.value
known_line (Place reader) = line_ahead reader

abbrev pub lines_known : List KnownLine → List Line
lines_known = map known_line
