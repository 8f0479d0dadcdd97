-- Laws of `remove` of a value of a line, over the lines before and after it.
use Rattle.std.specs.Prelude.{◌≡◌, true, false, List, ◌∷◌, ◌++◌, length}
use Rattle.toml_tree.specs.Profiles.{AreLinesOfProfile}
use Rattle.toml_tree.specs.Spells.{AreLines}
use Rattle.toml_tree.specs.Tree.{Value, Expr, BlankLine, KeyValLine, TableLine, ArrayTableLine, Line}
use Rattle.toml_tree.specs.declared.profile.Profile.{Profile}
use Rattle.toml_names.specs.mentions.Keys.{Key, key_names}
use Rattle.toml_names.specs.declared.mentions.mention.Role.TheVariants.{Dotted, Valued}
use Rattle.toml_names.specs.mentions.Mentions.{Named, fronts, named, section, table_at, value_named}
use Rattle.toml_names.specs.mentions.Rules.{KeepsRules}
use Rattle.toml_names.specs.model.Addresses.{Address, below}
use Rattle.toml_names.specs.model.Data.{Kinds, IsDataOf}
use Rattle.toml_names.specs.reader.Names.{AreGood}
use Rattle.toml_edits.specs.After.{IsAfter}
use Rattle.toml_edits.specs.Edits.{remove}
use Rattle.toml_editor.specs.Blocks.{IsPut, value_block, named_plain}
use Rattle.toml_working.specs.Removing.{empty_table, left_of_line, remove_lines}
use Rattle.toml_working.specs.RemoveStanding.{leaves_parent}
use Rattle.toml_layout.specs.Holders.{parent_of}
use Rattle.toml_working.specs.Standing.{standing}
use Rattle.toml_working.specs.Premises.{HasLine}

-- a line has the value there, and the table right above that stays without the line, or it does not
abbrev pub LeavesTable : List Line → Address → Type 0
LeavesTable lines p = HasLine lines p × (leaves_parent p (standing lines) ≡ true)

abbrev pub TakesTable : List Line → Address → Type 0
TakesTable lines p = HasLine lines p × (leaves_parent p (standing lines) ≡ false)

-- Laws. Where that table stays, the old lines name what the new ones do, the tables of a key that leads to the value, and the value;
abbrev pub RemoveNames : Type 0
RemoveNames = (p : Address) (lines : List Line) → LeavesTable lines p → KeepsRules (named lines)
    → (s : Address) × (key : Key) × (v : Value) × (p ≡ below s key)
    × IsPut (named_plain (remove_lines p lines)) (fronts 0 s key ++ value_block p v) (named_plain lines)

-- where it does not, the new lines name it as a value, an empty table, in place of the key that made it and of what it led to.
pub record IsEmptied (p : Address) (old new : List Named) : Type 0 where
  pub value : Value
  pub front : List Named
  pub back : List Named
  pub before : old ≡ front ++ ((table_at 0 Dotted (parent_of p) ∷ value_block p value) ++ back)
  pub after : new ≡ front ++ (value_named 0 Valued (parent_of p) empty_table ∷ back)

abbrev pub EmptyNames : Type 0
EmptyNames = (p : Address) (lines : List Line) → TakesTable lines p → KeepsRules (named lines)
    → IsEmptied p (named_plain lines) (named_plain (remove_lines p lines))

-- Law: the table rules and the bound on addresses are kept.
abbrev pub RemoveGood : Type 0
RemoveGood = (p : Address) (lines : List Line) → HasLine lines p → AreGood lines → AreGood (remove_lines p lines)

-- Law: the new lines have the data that the edit makes of those of the old.
abbrev pub RemoveData : Type 0
RemoveData = (profile : Profile) (p : Address) (lines : List Line) (old after : Kinds) → HasLine lines p → KeepsRules (named lines)
    → IsDataOf (named lines) old → IsDataOf (named (remove_lines p lines)) after → IsAfter profile (remove p) old after

-- Law: the lines are in the forms.
abbrev pub RemoveForms : Type 0
RemoveForms = (p : Address) (lines : List Line) → AreLines lines → AreLines (remove_lines p lines)

-- Law: they are of each profile of which the old ones are.
abbrev pub RemoveOfProfile : Type 0
RemoveOfProfile = (profile : Profile) (p : Address) (lines : List Line) → AreLinesOfProfile profile lines
    → AreLinesOfProfile profile (remove_lines p lines)

-- the line has a value, which stands at the address
abbrev pub HasValueAt : Address → List Named → Expr → Type 0
HasValueAt p earlier (BlankLine b) = ⊥
HasValueAt p earlier (KeyValLine ws pair tail) = below (section earlier) (key_names pair.assign.key) ≡ p
HasValueAt p earlier (TableLine ws header tail) = ⊥
HasValueAt p earlier (ArrayTableLine ws header tail) = ⊥

-- Law: the line goes, or comes to stand for the table right above; all others stay what they are.
abbrev pub RemoveKeepsLines : Type 0
RemoveKeepsLines = (p : Address) (lines : List Line) → HasLine lines p → KeepsRules (named lines)
    → (front : List Line) × (l : Line) × (back : List Line) × (lines ≡ front ++ l ∷ back) × HasValueAt p (named front) l.expr
    × (remove_lines p lines ≡ front ++ (left_of_line p (leaves_parent p (standing lines)) (length (section (named front))) l ++ back))
