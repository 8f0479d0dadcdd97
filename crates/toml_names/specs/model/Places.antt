-- Where the things of the data stand in the text, read off the mentions.
use Rattle.std.specs.Prelude.{◌≡◌, ◌⊎◌, ℕ, Bool, true, false, ◌&&◌, if◌then◌else◌, List, [], ◌∷◌, ◌++◌, All, Any, Option, Some, None}
use Rattle.toml_tree.specs.Tree.{Line}
use Rattle.toml_names.specs.declared.mentions.mention.Role.{Role}
use Rattle.toml_names.specs.declared.mentions.mention.Role.TheVariants.{Passed, Header, Dotted, Valued, Tables, Element, Bare}
use Rattle.toml_names.specs.declared.model.place.Place.{Place}
use Rattle.toml_names.specs.declared.model.place.Place.TheVariants as places
use Rattle.toml_names.specs.model.Addresses.{Address, IsAbove, same_address, is_above}
use Rattle.toml_names.specs.mentions.Mentions.{Named, named}
use Rattle.toml_names.specs.mentions.Rules.{KeepsRules}

-- something is named at the address
abbrev pub IsNamed : List Named → Address → Type 0
IsNamed ms at = Any (λ m. m.address ≡ at) ms

-- no line names the address in the role
abbrev pub IsNotIn : Role → Address → List Named → Type 0
IsNotIn role at ms = All (λ m. m.address ≡ at → ¬ (m.role ≡ role)) ms

-- the line is the first to name the address in the role
pub record IsFirstIn (role : Role) (ms : List Named) (at : Address) (line : ℕ) : Type 0 where
  pub before : List Named
  pub mention : Named
  pub behind : List Named
  pub is : ms ≡ before ++ mention ∷ behind
  pub address : mention.address ≡ at
  pub in_role : mention.role ≡ role
  pub of_line : mention.line ≡ line
  pub none_before : IsNotIn role at before

-- the address lies strictly below a value of the line
abbrev pub IsInside : List Named → Address → ℕ → Type 0
IsInside ms at line = Any (λ m. IsAbove m.address at × (m.role ≡ Valued) × (m.line ≡ line)) ms

-- the address lies strictly below no value
abbrev pub IsOutside : List Named → Address → Type 0
IsOutside ms at = All (λ m. IsAbove m.address at → ¬ (m.role ≡ Valued)) ms

-- no other line than longer headers names the address
pub record IsOnlyPassed (ms : List Named) (at : Address) : Type 0 where
  pub no_value : IsNotIn Valued at ms
  pub no_header : IsNotIn Header at ms
  pub no_element : IsNotIn Element at ms
  pub no_key : IsNotIn Dotted at ms
  pub no_tables : IsNotIn Tables at ms

-- Where a thing stands: the root; inside a value; or else a value, a table's own header or an element's, a table that dotted keys make by
-- the first of them, an array of tables by its first header, a table made only by longer headers by the first of them.
abbrev pub IsPlace : List Named → Address → Place → Type 0
IsPlace ms at places.Root = at ≡ []
IsPlace ms at (places.Inside line) = IsInside ms at line × IsNamed ms at
IsPlace ms at (places.KeyVal line) = IsOutside ms at × IsFirstIn Valued ms at line
IsPlace ms at (places.Header line) = IsOutside ms at × (IsFirstIn Header ms at line ⊎ IsFirstIn Element ms at line)
IsPlace ms at (places.Dotted line) = IsOutside ms at × IsFirstIn Dotted ms at line
IsPlace ms at (places.Tables line) = IsOutside ms at × IsFirstIn Tables ms at line
IsPlace ms at (places.Implicit line) = IsOutside ms at × IsFirstIn Passed ms at line × IsOnlyPassed ms at

abbrev pub same_role : Role → Role → Bool
same_role Passed Passed = true
same_role Header Header = true
same_role Dotted Dotted = true
same_role Valued Valued = true
same_role Tables Tables = true
same_role Element Element = true
same_role Bare Bare = true
same_role _ _ = false

-- the line of the first mention of the address in the role
abbrev pub first_line : List Named → Address → Role → Option ℕ
first_line [] at role = None
first_line (m ∷ ms) at role = if same_address m.address at && same_role m.role role then Some m.line else first_line ms at role

-- the line of the first value that stands strictly above the address
abbrev pub line_above : List Named → Address → Option ℕ
line_above [] at = None
line_above (m ∷ ms) at = if is_above m.address at && same_role m.role Valued then Some m.line else line_above ms at

-- inside the value of the line, if anything stands at the address
abbrev pub inside : List Named → Address → ℕ → Option Place
inside [] at line = None
inside (m ∷ ms) at line = if same_address m.address at then Some (places.Inside line) else inside ms at line

-- a place, or else another
abbrev pub or_else : Option ℕ → (ℕ → Place) → Option Place → Option Place
or_else None place other = other
or_else (Some line) place other = Some (place line)

-- The place of what stands in no value. A table with a header of its own is the header's, also where longer headers pass through it;
-- one that dotted keys enter is theirs.
abbrev pub outside : List Named → Address → Option Place
outside ms at =
    or_else (first_line ms at Valued) places.KeyVal
    (or_else (first_line ms at Header) places.Header
    (or_else (first_line ms at Element) places.Header
    (or_else (first_line ms at Dotted) places.Dotted
    (or_else (first_line ms at Tables) places.Tables
    (or_else (first_line ms at Passed) places.Implicit None)))))

abbrev pub in_value : Option ℕ → List Named → Address → Option Place
in_value None ms at = outside ms at
in_value (Some line) ms at = inside ms at line

abbrev pub place : List Named → Address → Option Place
place ms [] = Some places.Root
place ms (s ∷ at) = in_value (line_above ms (s ∷ at)) ms (s ∷ at)

-- Laws: the place that is found is one, and where none is found nothing is named.
abbrev pub PlacesAreFound : Type 0
PlacesAreFound = (ms : List Named) (at : Address) (p : Place) → place ms at ≡ Some p → IsPlace ms at p

abbrev pub NoPlace : Type 0
NoPlace = (lines : List Line) (at : Address) → place (named lines) at ≡ None → ¬ IsNamed (named lines) at

-- Law: under the rules each thing has one place, the one that is found.
abbrev pub PlaceIsFound : Type 0
PlaceIsFound = (lines : List Line) (at : Address) (p : Place) → KeepsRules (named lines) → IsPlace (named lines) at p → place (named lines) at ≡ Some p
