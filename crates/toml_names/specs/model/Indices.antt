-- How great the indices are in what a text names.
use Rattle.std.specs.Prelude.{◌<◌, ℕ, List, length}
use Rattle.toml_tree.specs.Spells.{EachIs, Spells, SpellsValue}
use Rattle.toml_tree.specs.Tree.{Value, Doc}
use Rattle.toml_names.specs.declared.model.address.Step.{Step}
use Rattle.toml_names.specs.declared.model.address.Step.TheVariants.{Name, Index}
use Rattle.toml_names.specs.model.Addresses.{Address}
use Rattle.toml_names.specs.mentions.Mentions.{named, value_facts}

abbrev pub IsLowStep : ℕ → Step → Type 0
IsLowStep n (Name name) = Unit {0}
IsLowStep n (Index i) = i < n

-- each index in the address is below the number
abbrev pub IsLow : ℕ → Address → Type 0
IsLow n = EachIs (IsLowStep n)

-- Laws: each index in what the lines of a document name is below the length of its text,
abbrev pub IndicesAreLow : Type 0
IndicesAreLow = (d : Doc) (text : List ℕ) → Spells d text → EachIs (λ m. IsLow (length text) m.address) (named d.lines)

-- and each index in what a value alone names is below the length of the value's.
abbrev pub ValueIndicesAreLow : Type 0
ValueIndicesAreLow = (v : Value) (at : ℕ) (text : List ℕ) → SpellsValue v at text → EachIs (λ m. IsLow (length text) m.address) (value_facts v)
