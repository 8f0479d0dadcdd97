-- A value read alone: its own tree of names.
use Rattle.toml_names.proofs.Common.{◌≡◌, List, [], ◌∷◌, ◌++◌, Some, None, refl, sym, ap, subst, ◌∙◌, Value, Valued, Address, Kinds, IsDataOf, fact_at, Named, value_named, inside, value_facts, IsTreeOf, Enters, Clashes, Spot, addresses, address_at, address_under, nowhere, KeepsRules, IsShort, misfit}
use Rattle.toml_names.specs.reader.Values.{AreGoodFacts}
use Rattle.toml_names.proofs.lemmas.mentions.FirstNamed.{values_join}
use Rattle.toml_names.proofs.lemmas.tree.NodeAddresses.{address_at-under, AreShortFrom, short_nodes, short_from_nodes}
use Rattle.toml_names.proofs.lemmas.mentions.Offences.{no_misfit}
use Rattle.toml_names.proofs.lemmas.mentions.OfOneKind.{data_by_facts}

-- the root's address
pub root_at : (nodes : List Spot) (ms : List Named) → IsTreeOf nodes ms → address_at nodes 0 ≡ []
root_at nodes ms stands =
    address_at-under nodes 0 nowhere stands.tree.root (λ p s is. stands.tree.rising 0 nowhere p s stands.tree.root is)
    ∙ ap (address_under (addresses nodes)) (stands.tree.root_above nowhere)

module _ (v : Value) (old new : List Spot) (begins : IsTreeOf old (value_named 0 Valued [] v ∷ [])) where
  abbrev itself : List Named
  itself = value_named 0 Valued [] v ∷ []

  pub whole_stands : Enters old new (inside 0 (address_at old 0) v) → IsTreeOf new (value_facts v)
  whole_stands enters = subst (λ at. IsTreeOf new (itself ++ inside 0 at v)) (root_at old itself begins) (enters.stands itself begins)

  pub whole_good : IsTreeOf new (value_facts v) → AreShortFrom 0 new → AreGoodFacts (value_facts v)
  whole_good stands short = ((no_misfit (value_facts v)).0 stands.good, short_from_nodes new (value_facts v) stands short)

  pub whole_long : IsTreeOf new (value_facts v) → (AreShortFrom 0 new → ⊥) → KeepsRules (value_facts v) × (IsShort (value_facts v) → ⊥)
  whole_long stands long = ((no_misfit (value_facts v)).0 stands.good, λ short. long (short_nodes new (value_facts v) stands short))

  pub whole_clash : (at : Address) → Clashes old (inside 0 (address_at old 0) v) at → KeepsRules (value_facts v) → ⊥
  whole_clash at clash keeps =
      let some : misfit itself (inside 0 (address_at old 0) v) ≡ Some at = clash itself begins in
      let none : misfit [] (value_facts v) ≡ None = (no_misfit (value_facts v)).1 keeps in
      let here : misfit [] (value_facts v) ≡ Some at = ap (λ a. misfit itself (inside 0 a v)) (sym (root_at old itself begins)) ∙ some in
      cc

-- the data at the root
pub whole_data : (v : Value) (nodes : List Spot) (kinds : Kinds) → IsTreeOf nodes (value_facts v) → KeepsRules (value_facts v)
    → ((rest : Address) → kinds rest ≡ fact_at (value_facts v) (address_at nodes 0 ++ rest)) → IsDataOf (value_facts v) kinds
whole_data v nodes kinds stands keeps told =
    data_by_facts (value_facts v) (value_facts v) kinds refl (values_join v keeps) (λ rest. told rest ∙ ap (λ (a : Address). fact_at (value_facts v) (a ++ rest)) (root_at nodes (value_facts v) stands))
