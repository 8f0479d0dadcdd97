-- The tree of a parsed line, and what holds of the lines of each document.
use Rattle.std.specs.Prelude.{ℕ, List, map}
use Rattle.std.specs.declared.vec.Vec.{Vec}
use Rattle.std.specs.declared.alloc.Global.{Global}
use Rattle.toml_tree.specs.declared.line.Line.{Line}
use Rattle.toml_tree.specs.declared.piece.Piece.{Piece}
use Rattle.toml_tree.specs.Spells.{Spells}
use Rattle.toml_tree.specs.Tree as tree
use Rattle.toml_tree.specs.View.{piece, expr}

abbrev pub line : Line → tree.Line
line l = record { expr = expr l.expr; newline = piece l.newline }

-- the mark and the lines are the tree of some text
abbrev pub SpellSome : Piece → Vec Line Global → Type 0
SpellSome mark lines = (text : List ℕ) × Spells (record { mark = piece mark; lines = map line lines.items }) text
