-- What the table rules give: one kind at each address, values that stand alone, and nothing below nothing.
use Rattle.std.specs.Prelude.{◌≡◌, List}
use Rattle.toml_tree.specs.Tree.{Value, Line}
use Rattle.toml_names.specs.model.Addresses.{Address}
use Rattle.toml_names.specs.model.Data.{Kinds, IsDataOf, IsClosed, fact_at}
use Rattle.toml_names.specs.mentions.Joining.{HasOneKind, AreAlone}
use Rattle.toml_names.specs.mentions.Mentions.{Named, named, value_facts}
use Rattle.toml_names.specs.mentions.Rules.{KeepsRules}

-- Laws of what the lines of a document name,
abbrev pub LinesHaveOneKind : Type 0
LinesHaveOneKind = (lines : List Line) → KeepsRules (named lines) → HasOneKind (named lines)

abbrev pub LineValuesStandAlone : Type 0
LineValuesStandAlone = (lines : List Line) → KeepsRules (named lines) → AreAlone (named lines)

-- and of what a value alone names.
abbrev pub ValuesHaveOneKind : Type 0
ValuesHaveOneKind = (v : Value) → KeepsRules (value_facts v) → HasOneKind (value_facts v)

abbrev pub InnerValuesStandAlone : Type 0
InnerValuesStandAlone = (v : Value) → KeepsRules (value_facts v) → AreAlone (value_facts v)

-- Law: they have data, the kind of the first thing named at each address.
abbrev pub LinesHaveData : Type 0
LinesHaveData = (lines : List Line) → KeepsRules (named lines) → IsDataOf (named lines) (fact_at (named lines))

-- Law: only one map is the data of what is named.
abbrev pub OneData : Type 0
OneData = (ms : List Named) (k l : Kinds) → IsDataOf ms k → IsDataOf ms l → (at : Address) → k at ≡ l at

-- Laws: the data of lines under the rules, and those of a value, are closed.
abbrev pub LinesAreClosed : Type 0
LinesAreClosed = (lines : List Line) (kinds : Kinds) → KeepsRules (named lines) → IsDataOf (named lines) kinds → IsClosed kinds

abbrev pub ValuesAreClosed : Type 0
ValuesAreClosed = (v : Value) (kinds : Kinds) → KeepsRules (value_facts v) → IsDataOf (value_facts v) kinds → IsClosed kinds
