-- The walk from the root along the steps of an address, and the place that it tells.
use Rattle.toml_names.proofs.Common.{◌≡◌, ◌==◌, ℕ, ◌+◌, ◌<◌, ◌≤◌, Bool, true, false, List, [], ◌∷◌, ◌++◌, length, take, drop, get_or, Option, Some, None, refl, sym, ap, ◌∙◌, slice_index_or, true≢false, rules, cond-true, cond-false, take_more, take_all, take-append-drop, drop_more, drop_all, Line, Step, Role, Valued, Place, Address, fact_at, Joined, mark_of, Named, named, IsTree, IsTreeOf, Spot, addresses, address_at, place_of, nowhere, same_role, first_line, line_above, in_value, place, first_of, value_line, value_there, value_along, IsWalked, own_place, arith}
use Rattle.toml_names.specs.declared.model.place.Place.TheVariants as places
use Rattle.toml_names.proofs.lemmas.mentions.AllLines.{lines_join}
use Rattle.toml_names.proofs.lemmas.mentions.FirstLines.{may_hold, AreHolding, holding_under_rules, none_in, first_line-none, first_none, inside-none, inside-some, outside-mark, skip}
use Rattle.toml_names.proofs.lemmas.mentions.Offences.{KeepsRules-nil, KeepsRules-from_misfit}
use Rattle.toml_names.proofs.lemmas.mentions.PlacesFound.{same_role-equal}
use Rattle.toml_names.proofs.lemmas.mentions.ValuesAbove.{front_value, value_above, begins_at_root}
use Rattle.toml_names.proofs.lemmas.tree.NodePlaces.{nothing_below, own_place as own_node, leads_to, root_address}

-- ---- the walk

-- so many steps were gone
pub record IsOnWay (nodes : List Spot) (steps : Address) (i here : ℕ) (value : Option ℕ) : Type 0 where
  pub there : place_of (take i steps) (addresses nodes) ≡ Some here
  pub values : first_of value (value_along nodes (take i steps) (drop i steps)) ≡ value_along nodes [] steps

pub way_begins : (nodes : List Spot) → IsTree nodes → (steps : Address) → IsOnWay nodes steps 0 0 None
way_begins nodes tree steps = search (rules, root_address, own_node)

first_assoc : (o p q : Option ℕ) → first_of (first_of o p) q ≡ first_of o (first_of p q)
first_assoc o p q = grind arith

module _ (nodes : List Spot) (tree : IsTree nodes) (steps : Address) (i here : ℕ) (value : Option ℕ) (way : IsOnWay nodes steps i here value) where
  pub way_within : here < length nodes
  way_within = (leads_to nodes tree (take i steps) here way.there).within

  pub way_address : address_at nodes here ≡ take i steps
  way_address = (leads_to nodes tree (take i steps) here way.there).address

  pub way_ends : length steps ≤ i → (place_of steps (addresses nodes) ≡ Some here) × (value ≡ value_along nodes [] steps)
  way_ends past = search (rules, take_all, first_none, drop_all)

  module _ (s : Step) (low : i < length steps) (is : s ≡ get_or steps i s) where
    taken : take (i + 1) steps ≡ take i steps ++ s ∷ []
    taken = take_more steps i s low ∙ ap (λ t. take i steps ++ t ∷ []) (sym is)

    left : drop i steps ≡ s ∷ drop (i + 1) steps
    left = drop_more steps i s low ∙ ap (λ t. t ∷ drop (i + 1) steps) (sym is)

    pub way_goes_on : (next : ℕ) (more : Option ℕ) → Some next ≡ place_of (address_at nodes here ++ s ∷ []) (addresses nodes)
        → more ≡ first_of value (value_line (slice_index_or nodes here nowhere)) → IsOnWay nodes steps (i + 1) next more
    way_goes_on next more place line = search (rules, taken, way_address, first_assoc, left)

    -- where no node is below, the steps lead nowhere
    pub way_is_lost : None ≡ place_of (address_at nodes here ++ s ∷ []) (addresses nodes) → place_of steps (addresses nodes) ≡ None
    way_is_lost none =
        let whole = sym (take-append-drop (i + 1) steps) ∙ ap (λ l. l ++ drop (i + 1) steps) taken in
        ap (λ a. place_of a (addresses nodes)) whole
        ∙ nothing_below (addresses nodes) tree.nested (drop (i + 1) steps) (take i steps ++ s ∷ []) (ap (λ a. place_of (a ++ s ∷ []) (addresses nodes)) (sym way_address) ∙ sym none)

-- ---- the place

-- what is told where the walk ended
abbrev pub told_place : List Spot → Option (ℕ × Option ℕ) → Option Place
told_place nodes None = None
told_place nodes (Some (here, Some line)) = Some (places.Inside line)
told_place nodes (Some (here, None)) = own_place (slice_index_or nodes here nowhere)

holds_value : (q : Role) → may_hold q Valued ≡ same_role q Valued
holds_value q = grind arith

module _ (nodes : List Spot) (ms : List Named) (stands : IsTreeOf nodes ms) (joined : Joined ms) where
  holding : AreHolding ms
  holding = holding_under_rules ms stands.good

  value_at_node : (at : Address) (o : Option ℕ) → place_of at (addresses nodes) ≡ o → value_there nodes o ≡ first_line ms at Valued
  value_at_node at None place = sym (first_line-none ms at Valued (stands.no_facts at place))
  value_at_node at (Some k) place = by (same_role (slice_index_or nodes k nowhere).role Valued) refl
    where
      by : (b : Bool) → same_role (slice_index_or nodes k nowhere).role Valued ≡ b → value_line (slice_index_or nodes k nowhere) ≡ first_line ms at Valued
      by true value =
          let leads = leads_to nodes stands.tree at k place in
          cond-true _ _ _ value
          ∙ sym (stands.lines k nowhere leads.within)
          ∙ ap (first_line ms (address_at nodes k)) (same_role-equal (slice_index_or nodes k nowhere).role Valued value)
          ∙ ap (λ a. first_line ms a Valued) leads.address
      by false other =
          let leads = leads_to nodes stands.tree at k place in
          cond-false _ _ _ other
          ∙ sym (none_in ms at (slice_index_or nodes k nowhere).role Valued holding (ap (mark_of ms) (sym leads.address) ∙ stands.marks k nowhere leads.within) (holds_value (slice_index_or nodes k nowhere).role ∙ other))

  along_is : (rest at : Address) → value_along nodes at rest ≡ front_value ms at rest
  along_is [] at = refl
  along_is (s ∷ rest) at = search (rules, value_at_node, along_is rest (at ++ s ∷ []))

  line_is : (at : Address) → line_above ms at ≡ value_along nodes [] at
  line_is at = value_above ms (begins_at_root nodes ms stands) joined at ∙ sym (along_is at [])

  place_none : (at : Address) (o : Option ℕ) → fact_at ms at ≡ None → in_value o ms at ≡ None
  place_none at o none = search (rules, skip, first_line-none, inside-none)

  pub place_is : (s : Step) (rest : Address) (r : Option (ℕ × Option ℕ)) → IsWalked nodes (s ∷ rest) r → told_place nodes r ≡ place ms (s ∷ rest)
  place_is s rest None lost = sym (place_none (s ∷ rest) (line_above ms (s ∷ rest)) (stands.no_facts (s ∷ rest) lost))
  place_is s rest (Some (here, Some line)) walked =
      let leads = leads_to nodes stands.tree (s ∷ rest) here walked.0 in
      sym (ap (λ o. in_value o ms (s ∷ rest)) (line_is (s ∷ rest) ∙ sym walked.1)
      ∙ inside-some ms (s ∷ rest) line (slice_index_or nodes here nowhere).kind (ap (fact_at ms) (sym leads.address) ∙ stands.kinds here nowhere leads.within))
  place_is s rest (Some (here, None)) walked =
      let leads = leads_to nodes stands.tree (s ∷ rest) here walked.0 in
      sym (ap (λ o. in_value o ms (s ∷ rest)) (line_is (s ∷ rest) ∙ sym walked.1)
      ∙ outside-mark ms (s ∷ rest) (slice_index_or nodes here nowhere).role (slice_index_or nodes here nowhere).line holding
      (ap (mark_of ms) (sym leads.address) ∙ stands.marks here nowhere leads.within)
      (ap (λ a. first_line ms a (slice_index_or nodes here nowhere).role) (sym leads.address) ∙ stands.lines here nowhere leads.within))

-- what lines name that a tree stands for joins
pub tree_joins : (nodes : List Spot) (lines : List Line) → IsTreeOf nodes (named lines) → Joined (named lines)
tree_joins nodes lines stands = lines_join lines (KeepsRules-from_misfit (named lines) [] KeepsRules-nil stands.good)

pub place_told : (nodes : List Spot) (at steps : Address) (r : Option (ℕ × Option ℕ)) → 0 < length at → steps ≡ at → IsWalked nodes steps r
    → (lines : List Line) → IsTreeOf nodes (named lines) → told_place nodes r ≡ place (named lines) at
place_told nodes at steps r some same walked lines stands = search (rules, place_is, tree_joins)

-- steps that were read, and were some
pub some_steps : (at steps : Address) (empty : Bool) → steps ≡ at → empty ≡ (length steps == 0) → empty ≡ false → 0 < length at
some_steps at steps empty same is none = search (rules, true≢false)
