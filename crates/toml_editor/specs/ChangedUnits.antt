-- Law of the units after a `set`.
use Rattle.std.specs.Prelude.{◌≡◌, ◌⊎◌, ℕ, Bool, true, false, List, [], ◌∷◌, ◌++◌, Option, Some, IsSome}
use Rattle.toml_tree.specs.Spells.{joined, value_parts, IsValue, AreLines}
use Rattle.toml_tree.specs.Tree.{Value, Line}
use Rattle.toml_names.specs.mentions.Mentions.{named}
use Rattle.toml_names.specs.mentions.Rules.{KeepsRules}
use Rattle.toml_names.specs.model.Addresses.{Address, IsAbove}
use Rattle.toml_edits.specs.Edits.{Change, set}
use Rattle.toml_units.specs.declared.unit.UnitKind.{UnitKind}
use Rattle.toml_units.specs.declared.unit.UnitKind.TheVariants as kinds
use Rattle.toml_units.specs.Units.{TextUnit, inside, units}
use Rattle.toml_checker.specs.CarriedTo.{At}
use Rattle.toml_checker.specs.Comments.{is_comment}
use Rattle.toml_checker.specs.GoneAndChanged.{IsChanged}
use Rattle.toml_checker.specs.Protected.{standing}
use Rattle.toml_editor.specs.Held.{HoldAt}
use Rattle.toml_editor.specs.RenamedUnits.{IsCarried}
use Rattle.toml_working.specs.Setting.{set_lines}
use Rattle.toml_working.specs.Premises.{HasValue}

-- what may stand in a value
abbrev pub is_inner : UnitKind → Bool
is_inner kinds.Element = true
is_inner kinds.Pair = true
is_inner kinds.InnerComment = true
is_inner _ = false

-- the unit lies in the value at the address: below it, or it is a comment of the array or inline table there
abbrev pub LiesInValue : Address → TextUnit → Type 0
LiesInValue p u = (is_inner u.kind ≡ true) × At u.address (λ a. IsAbove p a ⊎ ((a ≡ p) × (u.kind ≡ kinds.InnerComment)))

-- that value is the unit's: of an element, a pair or a line
abbrev pub HoldsValue : Address → TextUnit → Type 0
HoldsValue p u = (u.address ≡ Some p) × (is_comment u.kind ≡ false)

-- the second text is the first with the new value's text in the place of that of an old one
abbrev pub IsExchanged : (Value → Type 0) → Value → List ℕ → List ℕ → Type 0
IsExchanged IsOld new a b =
    (old : Value) × (front back : List ℕ) × IsOld old
    × (a ≡ front ++ (joined (value_parts old) ++ back)) × (b ≡ front ++ (joined (value_parts new) ++ back))

-- the unit with another value; of lines those with a key have one
pub record HasNewValue (IsOld : Value → Type 0) (new : Value) (u w : TextUnit) : Type 0 where
  pub keyed : u.kind ≡ kinds.Line → IsSome u.base
  pub kind : w.kind ≡ u.kind
  pub address : w.address ≡ u.address
  pub base : w.base ≡ u.base
  pub text : IsExchanged IsOld new u.piece.text w.piece.text

-- a unit that the edit changes has the new value in the place of the old one, whatever line it is of
abbrev pub Exchanges : Change → (Value → Type 0) → Value → TextUnit → TextUnit → Type 0
Exchanges c IsOld new u w =
    (line : Option TextUnit) → IsChanged u.kind c (standing u line) → IsExchanged IsOld new u.piece.text w.piece.text

-- What stands for a unit after a `set`: nothing, if it lies in the old value; itself with the new value, and what is in that, if the value is its
-- own; else itself, where it was, as the edit leaves it: if the edit changes it, with the new value in the place of the old one.
abbrev pub IsSetTo : Address → List ℕ → (Value → Type 0) → Value → TextUnit → List TextUnit → Type 0
IsSetTo p text IsOld new u ws =
    (LiesInValue p u × (ws ≡ []))
    ⊎ (HoldsValue p u × (w : TextUnit) × HasNewValue IsOld new u w × (ws ≡ w ∷ inside p new))
    ⊎ (¬ LiesInValue p u × ¬ HoldsValue p u × (w : TextUnit) × IsCarried (set p text) u w × Exchanges (set p text) IsOld new u w
    × (w.address ≡ u.address) × (ws ≡ w ∷ []))

-- the second list is made of the first: a list for each, one behind the other
abbrev pub AreMadeOf : {A B : Type 0} → (A → List B → Type 0) → List A → List B → Type 0
AreMadeOf R [] ws = ws ≡ []
AreMadeOf R (u ∷ us) ws = (here rest : List _) × R u here × (ws ≡ here ++ rest) × AreMadeOf R us rest

-- Law: the units of the new lines are what stands for those of the old ones, in order; an old value is one that stands at the address.
abbrev pub SetUnits : Type 0
SetUnits = (p : Address) (text : List ℕ) (new : Value) (lines : List Line) → ¬ (p ≡ []) → AreLines lines → IsValue new → HasValue lines p → KeepsRules (named lines)
    → AreMadeOf (IsSetTo p text (HoldAt lines p) new) (units lines) (units (set_lines p new lines))
