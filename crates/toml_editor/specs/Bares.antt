-- Edits of trees, places aside.
use Rattle.std.specs.Prelude.{◌≡◌, ℕ, List}
use Rattle.toml_tree.specs.Bare.{bare_value, bare_lines}
use Rattle.toml_tree.specs.Tree.{Value, Line}
use Rattle.toml_names.specs.model.Addresses.{Address}
use Rattle.toml_working.specs.Inserting.{insert_lines}
use Rattle.toml_working.specs.Manners.{Manner}
use Rattle.toml_working.specs.Removing.{remove_lines}
use Rattle.toml_working.specs.Renaming.{rename_lines}
use Rattle.toml_working.specs.Setting.{set_lines}

-- Laws: where the pieces of a tree stand does not count. The edited tree, without its places, is what the edit makes of the tree
-- without its places.
abbrev pub SetBares : Type 0
SetBares = (p : Address) (new : Value) (lines : List Line)
    → bare_lines (set_lines p new lines) ≡ set_lines p (bare_value new) (bare_lines lines)

abbrev pub InsertBares : Type 0
InsertBares = (name : List ℕ) (v : Value) (manner : Manner) (lines : List Line)
    → bare_lines (insert_lines name v manner lines) ≡ insert_lines name (bare_value v) manner (bare_lines lines)

abbrev pub RemoveBares : Type 0
RemoveBares = (p : Address) (lines : List Line) → bare_lines (remove_lines p lines) ≡ remove_lines p (bare_lines lines)

abbrev pub RenameBares : Type 0
RenameBares = (p : Address) (to : List ℕ) (lines : List Line)
    → bare_lines (rename_lines p to lines) ≡ rename_lines p to (bare_lines lines)
