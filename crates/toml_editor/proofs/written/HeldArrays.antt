-- An array that stands in the value of a line, or is it, holds each element that is to stand in it, and what is named there.
use Rattle.std.proofs.Common.{◌≡◌, ℕ, true, List, [], ◌∷◌, refl}
use Rattle.std.specs.List.{list_any}
use Rattle.toml_tree.specs.Tree.{Value, Scalar, Array, Inline, Line}
use Rattle.toml_names.specs.declared.model.address.Step.TheVariants.{Index}
use Rattle.toml_names.specs.mentions.Mentions.{Kind, a_table, an_array, kind_of, named}
use Rattle.toml_names.specs.mentions.Rules.{KeepsRules}
use Rattle.toml_names.specs.model.Addresses.{Address, element}
use Rattle.toml_layout.specs.Holders.{has_holder}
use Rattle.toml_layout.specs.TreeOutlines.{value_outline}
use Rattle.toml_working.specs.Standing.{holds, standing}
use Rattle.toml_editor.specs.LastTexts.{HasContainerAt}
use Rattle.toml_editor.proofs.written.HeldTables.{kind_held}
use Rattle.toml_editor.proofs.written.Pairwise.{Has}
use Rattle.toml_editor.proofs.written.SectionLeads.{line_steps}

-- an array itself
array_whole : (i : ℕ) (v : Value) → kind_of v ≡ an_array → has_holder (value_outline v) (Index i ∷ []) ≡ true
array_whole i (Scalar kind text) is = cc
array_whole i (Array whole items) is = refl
array_whole i (Inline whole pairs) is = cc

pub array_held : (q : Address) (i : ℕ) (lines : List Line) → KeepsRules (named lines) → list_any (holds q) (standing lines) ≡ true
    → Has (λ m. (m.address ≡ q) × (m.kind ≡ an_array)) (named lines) → HasContainerAt lines (element q i)
array_held q i lines keeps held there =
    kind_held q (Index i) an_array (array_whole i) (λ is. (let x : ◌≡◌ {A = Kind} a_table an_array = is in cc)) lines keeps held there

-- What is named at an index stands in an array, which holds it.
pub index_held : (q : Address) (i : ℕ) (lines : List Line) → KeepsRules (named lines) → list_any (holds q) (standing lines) ≡ true
    → Has (λ m. m.address ≡ element q i) (named lines) → HasContainerAt lines (element q i)
index_held q i lines keeps held there = array_held q i lines keeps held (line_steps lines keeps q (Index i) there)
