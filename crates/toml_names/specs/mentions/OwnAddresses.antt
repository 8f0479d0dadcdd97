-- What the lines of a document name by itself, and the address that each line has of its own.
use Rattle.std.specs.Prelude.{◌≡◌, ◌∷◌, ◌++◌, [], ℕ, Bool, true, false, List, length, Any, AllPairs, Some, IfSome, IsSome}
use Rattle.toml_tree.specs.Spells.{EachIs}
use Rattle.toml_tree.specs.Tree.{Expr, TableLine, ArrayTableLine, Line}
use Rattle.toml_names.specs.declared.mentions.mention.Role.{Role}
use Rattle.toml_names.specs.declared.mentions.mention.Role.TheVariants.{Header, Valued, Element, Bare}
use Rattle.toml_names.specs.model.Addresses.{Address}
use Rattle.toml_names.specs.model.Data.{Kinds, IsDataOf}
use Rattle.toml_names.specs.mentions.Mentions.{Named, named, named_by, section}
use Rattle.toml_names.specs.reader.Names.{is_own, line_address, own_address}
use Rattle.toml_names.specs.mentions.Rules.{KeepsRules}

-- The roles in which a thing is named by itself: by its header, as a value, as an element. In the others a key passes by, or an array of
-- tables goes on.
abbrev pub is_itself : Role → Bool
is_itself Header = true
is_itself Valued = true
is_itself Element = true
is_itself Bare = true
is_itself _ = false

-- Laws: what a line names stands in what the lines name, behind what those before it name.
abbrev pub LineIsNamed : Type 0
LineIsNamed = (before behind : List Line) (l : Line)
    → (rest : List Named) × (named (before ++ l ∷ behind) ≡ (named before ++ named_by (named before) (length before) l.expr) ++ rest)

-- Each thing that it names has its number.
abbrev pub NamedHasLine : Type 0
NamedHasLine = (earlier : List Named) (line : ℕ) (e : Expr) → EachIs (λ m. m.line ≡ line) (named_by earlier line e)

-- Under the rules no two things that are named by themselves are at one address,
abbrev pub ThemselvesDiffer : Type 0
ThemselvesDiffer = (lines : List Line) → KeepsRules (named lines)
    → AllPairs (λ e l. is_itself e.role ≡ true → is_itself l.role ≡ true → ¬ (e.address ≡ l.address)) (named lines)

-- so lines that have one address of their own are one line.
abbrev pub OwnAddressesDiffer : Type 0
OwnAddressesDiffer = (lines : List Line) (i j : ℕ) (at : Address) → KeepsRules (named lines)
    → line_address (named lines) i ≡ Some at → line_address (named lines) j ≡ Some at → i ≡ j

-- The address that a line has of its own is named by that line,
abbrev pub OwnAddressIsNamed : Type 0
OwnAddressIsNamed = (before behind : List Line) (l : Line)
    → IfSome (own_address (named before) l.expr) (λ at. Any (λ m. (m.address ≡ at) × (is_own m.role ≡ true) × (m.line ≡ length before)) (named (before ++ l ∷ behind)))

-- and something stands there in the data.
abbrev pub OwnAddressHasFact : Type 0
OwnAddressHasFact = (before behind : List Line) (l : Line) (kinds : Kinds) → IsDataOf (named (before ++ l ∷ behind)) kinds
    → IfSome (own_address (named before) l.expr) (λ at. IsSome (kinds at))

-- a header stands on it, of a table or of an array of tables
abbrev pub IsHeaderLine : Expr → Type 0
IsHeaderLine (TableLine ws header tail) = Unit {0}
IsHeaderLine (ArrayTableLine ws header tail) = Unit {0}
IsHeaderLine _ = ⊥

-- Behind a header it is that of the table, or the element, of the last header.
abbrev pub HeaderIsSection : Type 0
HeaderIsSection = (before : List Line) (l : Line) → IsHeaderLine l.expr
    → own_address (named before) l.expr ≡ Some (section (named (before ++ l ∷ [])))
