-- Addresses that nothing stands in the way of.
use Rattle.std.specs.Prelude.{◌≡◌, ℕ, true, List, [], ◌∷◌, ◌++◌}
use Rattle.toml_tree.specs.Spells.{EachIs}
use Rattle.toml_tree.specs.Tree.{Expr, BlankLine, KeyValLine, TableLine, ArrayTableLine, Line}
use Rattle.toml_names.specs.declared.model.address.Step.{Step}
use Rattle.toml_names.specs.mentions.Joining.{is_lone}
use Rattle.toml_names.specs.model.Addresses.{Address, IsAbove}
use Rattle.toml_names.specs.mentions.Mentions.{Named, named, named_by, section_from}
use Rattle.toml_names.specs.model.Places.{IsNamed}
use Rattle.toml_names.specs.mentions.Rules.{KeepsRules}

-- the first address is neither the second nor above it
pub record IsClear (p at : Address) : Type 0 where
  pub apart : ¬ (p ≡ at)
  pub not_above : ¬ IsAbove p at

-- only values are named at the address
abbrev pub AreValuesAt : Address → List Named → Type 0
AreValuesAt p = EachIs (λ m. m.address ≡ p → is_lone m.role ≡ true)

-- the address is clear of all that is named
abbrev pub AreClear : Address → List Named → Type 0
AreClear p = EachIs (λ m. IsClear p m.address)

-- the line has no pair
abbrev pub HasNoPair : Expr → Type 0
HasNoPair (BlankLine b) = Unit {0}
HasNoPair (KeyValLine ws pair tail) = ⊥
HasNoPair (TableLine ws header tail) = Unit {0}
HasNoPair (ArrayTableLine ws header tail) = Unit {0}

-- Laws: an address that is clear of another one is not above what lies one step below that, so it is clear of this, unless it is this;
abbrev pub NotAboveNext : Type 0
NotAboveNext = (p at : Address) (s : Step) → IsClear p at → ¬ IsAbove p (at ++ s ∷ [])

-- one that is not the root is clear of the root;
abbrev pub ClearOfRoot : Type 0
ClearOfRoot = (p : Address) → ¬ (p ≡ []) → IsClear p []

-- and, where it is clear of all that is named and of a table, of the table of the last header, that one where there is none.
abbrev pub SectionIsClear : Type 0
SectionIsClear = (p : Address) (ms : List Named) (at : Address) → IsClear p at → AreClear p ms → IsClear p (section_from at ms)

-- Law: where only values are named at an address, it is clear of what headers name.
abbrev pub HeadersAreClear : Type 0
HeadersAreClear = (p : Address) (earlier : List Named) (line : ℕ) (e : Expr) → ¬ (p ≡ []) → HasNoPair e
    → AreValuesAt p (earlier ++ named_by earlier line e) → AreClear p (named_by earlier line e)

-- Law: under the rules, where an address is not named, nothing is named at it or below it.
abbrev pub NotNamedIsClear : Type 0
NotNamedIsClear = (lines : List Line) (p : Address) → KeepsRules (named lines) → ¬ IsNamed (named lines) p → AreClear p (named lines)
