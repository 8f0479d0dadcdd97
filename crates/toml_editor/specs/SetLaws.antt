-- Laws of `set`, over the lines before and after it.
use Rattle.std.specs.Prelude.{◌≡◌, ℕ, List, [], ◌∷◌, ◌++◌, flat_map, ◌≤◌, ◌+◌, length, All, if◌then◌else◌, Some, slice_get}
use Rattle.toml_tree.specs.Bare.{bare_value, bare_line, bare_lines}
use Rattle.toml_tree.specs.Profiles.{IsValueIn, IsValueOfProfile, AreLinesOfProfile}
use Rattle.toml_tree.specs.Spells.{IsValue, IsExpr, AreLines}
use Rattle.toml_tree.specs.Tree.{Value, Expr, BlankLine, KeyValLine, TableLine, ArrayTableLine, Line}
use Rattle.toml_tree.specs.declared.profile.Profile.{Profile}
use Rattle.toml_names.specs.mentions.Clear.{AreValuesAt, IsClear}
use Rattle.toml_names.specs.mentions.Keys.{key_names}
use Rattle.toml_names.specs.mentions.Mentions.{Named, named, section, value_named, inside, value_facts}
use Rattle.toml_names.specs.mentions.Rules.{KeepsRules, IsShort, max_steps}
use Rattle.toml_names.specs.model.Addresses.{Address, IsAbove, same_address, is_above, below}
use Rattle.toml_names.specs.model.Data.{Kinds, IsDataOf}
use Rattle.toml_names.specs.reader.Names.{AreGood}
use Rattle.toml_edits.specs.After.{IsAfter}
use Rattle.toml_edits.specs.Edits.{set}
use Rattle.toml_edits.specs.ValueTexts.{IsGoodValue}
use Rattle.toml_working.specs.Setting.{set_within, set_value, set_lines}
use Rattle.toml_working.specs.Premises.{HasValue}

-- the thing at the address is the new value, with what is in it; what was below the address is not named
abbrev pub swapped_one : Address → Value → Named → List Named
swapped_one p new m =
    if same_address m.address p then value_named m.line m.role p new ∷ inside m.line p new
    else if is_above p m.address then []
    else m ∷ []

abbrev pub swapped : Address → Value → List Named → List Named
swapped p new = flat_map (swapped_one p new)

-- Law: the new lines name what the old ones did, the new value in the place of the old one.
abbrev pub SetNames : Type 0
SetNames = (p : Address) (new : Value) (lines : List Line) → ¬ (p ≡ []) → AreValuesAt p (named lines)
    → named (set_lines p new lines) ≡ swapped p new (named lines)

-- Laws: the table rules and the bound on addresses are kept, where the value keeps them at the address.
abbrev pub SetRules : Type 0
SetRules = (p : Address) (new : Value) (lines : List Line) → ¬ (p ≡ []) → HasValue lines p
    → KeepsRules (named lines) → KeepsRules (value_facts new) → KeepsRules (named (set_lines p new lines))

abbrev pub SetShort : Type 0
SetShort = (p : Address) (new : Value) (lines : List Line) → ¬ (p ≡ []) → HasValue lines p → AreGood lines
    → All (λ m. length p + length m.address ≤ max_steps) (value_facts new) → IsShort (named (set_lines p new lines))

-- Law: the new lines have the data that the edit makes of those of the old.
abbrev pub SetData : Type 0
SetData = (profile : Profile) (p : Address) (text : List ℕ) (new : Value) (lines : List Line) (v old after : Kinds)
    → ¬ (p ≡ []) → HasValue lines p → KeepsRules (named lines) → IsValueIn profile new text → IsGoodValue profile text v
    → IsDataOf (named lines) old → IsDataOf (named (set_lines p new lines)) after → IsAfter profile (set p text) old after

-- Law: the lines are in the forms, where no address has too many steps.
abbrev pub SetForms : Type 0
SetForms = (p : Address) (new : Value) (lines : List Line)
    → AreLines lines → IsValue new → IsShort (named (set_lines p new lines)) → AreLines (set_lines p new lines)

-- Law: they are of each profile of which the old ones and the value are.
abbrev pub SetOfProfile : Type 0
SetOfProfile = (profile : Profile) (p : Address) (new : Value) (lines : List Line)
    → AreLinesOfProfile profile lines → IsValueOfProfile profile new → AreLinesOfProfile profile (set_lines p new lines)

-- Laws: what stands in a value is left as it is, places aside, where the address does not lie in the value;
abbrev pub SetWithin : Type 0
SetWithin = (p : Address) (new : Value) (at : Address) (v : Value) → IsValue v → ¬ IsAbove at p
    → set_within p new at (bare_value v) ≡ bare_value v

-- the value is, where it does not stand at the address either.
abbrev pub SetElsewhere : Type 0
SetElsewhere = (p : Address) (new : Value) (at : Address) (v : Value) → IsValue v → IsClear at p
    → set_value p new at (bare_value v) ≡ bare_value v

-- a line's value, if it has one, stands neither at the address nor above it
abbrev pub IsBesideValue : Address → List Named → Expr → Type 0
IsBesideValue p earlier (BlankLine b) = Unit {0}
IsBesideValue p earlier (KeyValLine ws pair tail) = IsClear (below (section earlier) (key_names pair.assign.key)) p
IsBesideValue p earlier (TableLine ws header tail) = Unit {0}
IsBesideValue p earlier (ArrayTableLine ws header tail) = Unit {0}

-- Law: such a line stays what it is and where it is, places aside.
abbrev pub SetKeepsLine : Type 0
SetKeepsLine = (p : Address) (new : Value) (front back : List Line) (l : Line) → IsExpr l.expr → IsBesideValue p (named front) l.expr
    → slice_get (bare_lines (set_lines p new (front ++ l ∷ back))) (length front) ≡ Some (bare_line l)
