-- Where what a value names inside it stands, and what else stands there.
use Rattle.std.specs.Prelude.{◌≡◌, ◌∷◌, ◌++◌, ℕ, List, map}
use Rattle.toml_tree.specs.Spells.{EachIs}
use Rattle.toml_tree.specs.Tree.{Value, Line}
use Rattle.toml_names.specs.declared.mentions.mention.Role.{Role}
use Rattle.toml_names.specs.declared.mentions.mention.Role.TheVariants.{Valued}
use Rattle.toml_names.specs.model.Addresses.{Address, IsAbove}
use Rattle.toml_names.specs.mentions.Mentions.{Named, named, inside, value_named, value_facts}
use Rattle.toml_names.specs.mentions.Rules.{KeepsRules}

-- the same thing in a line, below another address
abbrev pub shifted : ℕ → Address → Named → Named
shifted line p m = record { address = p ++ m.address; role = m.role; kind = m.kind; line = line }

-- Laws: what a value names inside it lies strictly below its address,
abbrev pub InsideIsBelow : Type 0
InsideIsBelow = (line : ℕ) (v : Value) (at : Address) → EachIs (λ m. IsAbove at m.address) (inside line at v)

-- and moves along with it.
abbrev pub InsideMoves : Type 0
InsideMoves = (line old : ℕ) (v : Value) (p at : Address) → inside line (p ++ at) v ≡ map (shifted line p) (inside old at v)

-- Law: where a value alone keeps the rules, it does so at each address and in each role.
abbrev pub ValueKeepsRules : Type 0
ValueKeepsRules = (line : ℕ) (role : Role) (p : Address) (v : Value) → KeepsRules (value_facts v)
    → KeepsRules (value_named line role p v ∷ inside line p v)

-- Under the rules only the line of a value names anything strictly below it.
abbrev pub BelowIsOfItsLine : Type 0
BelowIsOfItsLine = (lines : List Line) → KeepsRules (named lines)
    → EachIs (λ v. v.role ≡ Valued → EachIs (λ m. IsAbove v.address m.address → m.line ≡ v.line) (named lines)) (named lines)
