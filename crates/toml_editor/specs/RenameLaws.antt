-- Laws of `rename`, over the lines before and after it.
use Rattle.std.specs.Prelude.{◌≡◌, ℕ, List, [], ◌∷◌, ◌++◌, map, length, if◌then◌else◌, Some, slice_get}
use Rattle.toml_tree.specs.Bare.{bare_line, bare_lines}
use Rattle.toml_tree.specs.Profiles.{AreLinesOfProfile}
use Rattle.toml_tree.specs.Spells.{IsExpr, AreLines, EachIs}
use Rattle.toml_tree.specs.Tree.{Expr, BlankLine, KeyValLine, TableLine, ArrayTableLine, Line}
use Rattle.toml_tree.specs.declared.profile.Profile.{Profile}
use Rattle.toml_names.specs.declared.model.address.Step.TheVariants.{Name}
use Rattle.toml_names.specs.mentions.Keys.{Key, key_names}
use Rattle.toml_names.specs.mentions.Mentions.{Named, named, section, entered}
use Rattle.toml_names.specs.mentions.Rules.{KeepsRules}
use Rattle.toml_names.specs.model.Addresses.{Address, IsAbove, same_step, child, below}
use Rattle.toml_names.specs.model.Data.{Kinds, IsDataOf}
use Rattle.toml_names.specs.model.Places.{IsNamed}
use Rattle.toml_names.specs.reader.Names.{AreGood}
use Rattle.toml_edits.specs.After.{IsAfter}
use Rattle.toml_edits.specs.Edits.{rename}
use Rattle.toml_working.specs.Renaming.{rename_lines}

-- where an address leads once the name n in the table at q is another
abbrev pub moved : Address → List ℕ → List ℕ → Address → Address
moved [] n to [] = []
moved [] n to (t ∷ a) = if same_step t (Name n) then Name to ∷ a else t ∷ a
moved (s ∷ q) n to [] = []
moved (s ∷ q) n to (t ∷ a) = if same_step t s then t ∷ moved q n to a else t ∷ a

abbrev pub moved_one : Address → List ℕ → List ℕ → Named → Named
moved_one q n to m = record { address = moved q n to m.address; role = m.role; kind = m.kind; line = m.line }

-- Law: where nothing is named at the new name, the new lines name what the old ones did, each thing at its new address.
abbrev pub RenameNames : Type 0
RenameNames = (q : Address) (n to : List ℕ) (lines : List Line) → ¬ IsNamed (named lines) (child q to) → KeepsRules (named lines)
    → named (rename_lines (child q n) to lines) ≡ map (moved_one q n to) (named lines)

-- Law: then the table rules and the bound on addresses are kept.
abbrev pub RenameGood : Type 0
RenameGood = (q : Address) (n to : List ℕ) (lines : List Line) → ¬ IsNamed (named lines) (child q to) → AreGood lines
    → AreGood (rename_lines (child q n) to lines)

-- Law: then the new lines have the data that the edit makes of those of the old.
abbrev pub RenameData : Type 0
RenameData = (profile : Profile) (q : Address) (n to : List ℕ) (lines : List Line) (old after : Kinds)
    → ¬ IsNamed (named lines) (child q to) → KeepsRules (named lines)
    → IsDataOf (named lines) old → IsDataOf (named (rename_lines (child q n) to lines)) after
    → IsAfter profile (rename (child q n) to) old after

-- Law: the lines are in the forms.
abbrev pub RenameForms : Type 0
RenameForms = (p : Address) (to : List ℕ) (lines : List Line) → AreLines lines → AreLines (rename_lines p to lines)

-- Law: they are of each profile of which the old ones are.
abbrev pub RenameOfProfile : Type 0
RenameOfProfile = (profile : Profile) (p : Address) (to : List ℕ) (lines : List Line) → AreLinesOfProfile profile lines
    → AreLinesOfProfile profile (rename_lines p to lines)

-- the addresses for which the parts of a key stand, the first of them in the table at the address
abbrev pub stood_for : (Address → Address) → Address → Key → List Address
stood_for enter at [] = []
stood_for enter at (n ∷ ns) = child at n ∷ stood_for enter (enter (child at n)) ns

-- no part of the key stands for the address
abbrev pub HasNoPart : Address → (Address → Address) → Address → Key → Type 0
HasNoPart p enter at key = EachIs (λ here. ¬ (here ≡ p)) (stood_for enter at key)

-- no part of a key in the line stands for the address: neither of the line's own key, nor of one in its value
abbrev pub IsBesideKeys : Address → List Named → Expr → Type 0
IsBesideKeys p earlier (BlankLine b) = Unit {0}
IsBesideKeys p earlier (KeyValLine ws pair tail) =
    let key = key_names pair.assign.key in
    HasNoPart p (λ here. here) (section earlier) key × ¬ IsAbove (below (section earlier) key) p
IsBesideKeys p earlier (TableLine ws header tail) = HasNoPart p (entered earlier) [] (key_names header.key)
IsBesideKeys p earlier (ArrayTableLine ws header tail) = HasNoPart p (entered earlier) [] (key_names header.key)

-- Law: such a line stays what it is and where it is, places aside.
abbrev pub RenameKeepsLine : Type 0
RenameKeepsLine = (p : Address) (to : List ℕ) (front back : List Line) (l : Line) → IsExpr l.expr → IsBesideKeys p (named front) l.expr
    → slice_get (bare_lines (rename_lines p to (front ++ l ∷ back))) (length front) ≡ Some (bare_line l)
