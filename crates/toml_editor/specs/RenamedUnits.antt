-- Law of the units after a `rename`.
use Rattle.std.specs.Prelude.{◌≡◌, ℕ, List, Option, option_and_then}
use Rattle.toml_tree.specs.Spells.{AreLines}
use Rattle.toml_tree.specs.Tree.{Line}
use Rattle.toml_names.specs.mentions.Mentions.{named}
use Rattle.toml_names.specs.mentions.Rules.{KeepsRules}
use Rattle.toml_names.specs.model.Addresses.{Address, child}
use Rattle.toml_names.specs.model.Places.{IsNamed}
use Rattle.toml_edits.specs.Carry.{carry}
use Rattle.toml_edits.specs.Edits.{Change, rename}
use Rattle.toml_units.specs.Units.{TextUnit, units}
use Rattle.toml_checker.specs.GoneAndChanged.{IsChanged}
use Rattle.toml_checker.specs.Protected.{standing}
use Rattle.toml_working.specs.Together.{GoTogether}
use Rattle.toml_working.specs.Renaming.{rename_lines}

-- The unit as the edit leaves it: its address is carried, its kind and its base stay, and its text stays unless the edit changes it,
-- whatever line it is of.
pub record IsCarried (c : Change) (u w : TextUnit) : Type 0 where
  pub kind : w.kind ≡ u.kind
  pub address : w.address ≡ option_and_then (carry c) u.address
  pub base : w.base ≡ u.base
  pub text : (line : Option TextUnit) → ¬ IsChanged u.kind c (standing u line) → w.piece.text ≡ u.piece.text

-- Law: where nothing is named at the new name, the units of the new lines are those of the old ones, each as the edit leaves it.
abbrev pub RenameUnits : Type 0
RenameUnits = (q : Address) (n to : List ℕ) (lines : List Line) → AreLines lines → ¬ IsNamed (named lines) (child q to) → KeepsRules (named lines)
    → GoTogether (IsCarried (rename (child q n) to)) (units lines) (units (rename_lines (child q n) to lines))
