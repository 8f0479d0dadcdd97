use Rattle.toml_names.proofs.Common.{◌≡◌, ◌↔◌, ◌+◌, ◌<◌, ◌≤◌, ℕ, List, [], Some, IsTrue, lookup, bytes_eq, length, sym, ap, subst, ◌∙◌, true≢false, none-some, arith, take_all, slice_get, slice_get-get_or, option_copied, EachIs, Spot, Name, Index}
use Rattle.toml_names.specs.model.AddressSets.{below}
use Rattle.toml_names.specs.tree.Shown.{IsShownIn}
use Rattle.toml_names.proofs.lemmas.model.Alike.{accepted, refused}
use Rattle.toml_names.proofs.lemmas.tree.Alike.{pairs_more, child_read, element_read}
use Rattle.toml_names.proofs.lemmas.tree.NodeData.{low_in, below_name, below_element, node_read}
use Rattle.toml_names.proofs.lemmas.tree.Shown.{IsNameShown, whole_shown, names_of_shown, elements_of_shown, shown_by_parts, hidden_name, leaf_shown, names_shown, shown_more, shown_all}
use Rattle.toml_names.proofs.tree.name_tree.NameTree.+shown.Goals as goal
use Rattle.toml_names.proofs.tree.name_tree.NameTree.+shown.Goals.{are_names_shown-in-Some-nth+else-not-is_name_shown, are_names_shown-in_default-nth}

pub are_elements_shown-is_element_shown-requires : goal.are_elements_shown-is_element_shown-requires
are_elements_shown-is_element_shown-requires t c =
    let nodes = c.args.self.now.nodes.items in
    let low = low_in c.args.self.now.nodes c.requires.within in
    let are = c.elements-elements.ensures ∙ ap (λ (s : Spot). s.elements) (node_read nodes c.args.id c.index.result.now low c.index.ensures) in
    let below = below_element nodes c.requires.tree c.args.id low c.elements-elements.result.now c.loop-index.index 0 are c.loop-index-test.true in
    (omega (arith, below, c.args.self.now.nodes.ok), (omega (arith, below, c.args.self.now.nodes.ok), c.requires.tree))

pub are_elements_shown-returns-then-not-is_element_shown : goal.are_elements_shown-returns-then-not-is_element_shown
are_elements_shown-returns-then-not-is_element_shown t c =
    let nodes = c.args.self.now.nodes.items in
    let node = node_read nodes c.args.id c.index.result.now (low_in c.args.self.now.nodes c.requires.within) c.index.ensures in
    let one = element_read nodes c.args.id c.index.result.now c.elements-elements.result.now c.loop-index.index node c.elements-elements.ensures c.loop-index-test.true in
    refused (λ shown.
    true≢false (sym (c.is_element_shown.ensures.1 (subst (λ o. IsShownIn nodes o (Index c.loop-index.index) (below c.args.set.now (Index c.loop-index.index))) one (shown c.loop-index.index c.loop-index.auto.index))) ∙ c.if-not-is_element_shown.true))

pub are_elements_shown-loop-index-preserved : goal.are_elements_shown-loop-index-preserved
are_elements_shown-loop-index-preserved t c =
    let nodes = c.args.self.now.nodes.items in
    let elements = c.elements-elements.result.now in
    let index = c.loop-index.index in
    let one = slice_get-get_or elements index 0 c.loop-index-test.true in
    shown_more nodes c.args.set.now elements c.args.from index c.loop-index.invariant
    (subst (λ o. IsShownIn nodes o (Index index) (below c.args.set.now (Index index))) (sym one) (c.is_element_shown.ensures.0 c.if-not-is_element_shown.false))

pub are_elements_shown-returns : goal.are_elements_shown-returns
are_elements_shown-returns t c =
    let nodes = c.args.self.now.nodes.items in
    let are = c.elements-elements.ensures ∙ ap (λ (s : Spot). s.elements) (node_read nodes c.args.id c.index.result.now (low_in c.args.self.now.nodes c.requires.within) c.index.ensures) in
    accepted (subst (λ (ks : List ℕ). (i : ℕ) → c.args.from ≤ i → IsShownIn nodes (slice_get ks i) (Index i) (below c.args.set.now (Index i))) are
    (shown_all nodes c.args.set.now c.elements-elements.result.now c.args.from c.loop-index.index c.loop-index-test.false c.loop-index.invariant))

pub are_names_shown-is_name_shown-requires : goal.are_names_shown-is_name_shown-requires
are_names_shown-is_name_shown-requires t c =
    let nodes = c.args.self.now.nodes.items in
    let low = low_in c.args.self.now.nodes c.requires.within in
    let are = c.in-Some.ensures.some ∙ ap (λ (s : Spot). s.children) (node_read nodes c.args.id c.index.result.now low c.index.ensures) in
    let below = below_name nodes c.requires.tree c.args.id low c.in-Some.names.now c.in-Some-nth.name.now c.in-Some-nth.below are c.in-Some-nth.ensures.found in
    (omega (arith, below, c.args.self.now.nodes.ok), (omega (arith, below, c.args.self.now.nodes.ok), c.requires.tree))

pub are_names_shown-returns-then-not-is_name_shown : goal.are_names_shown-returns-then-not-is_name_shown
are_names_shown-returns-then-not-is_name_shown t c =
    let nodes = c.args.self.now.nodes.items in
    let node = node_read nodes c.args.id c.index.result.now (low_in c.args.self.now.nodes c.requires.within) c.index.ensures in
    let name = c.in-Some-nth.name.now in
    let one = child_read nodes c.args.id c.index.result.now name (Some c.in-Some-nth.below) node (sym (ap (λ es. lookup (bytes_eq name) es) (sym c.in-Some.ensures.some) ∙ c.in-Some-nth.ensures.found)) in
    refused (λ shown.
    true≢false (sym (c.is_name_shown.ensures.1 (subst (λ o. IsShownIn nodes o (Name name) (below c.args.set.now (Name name))) one (shown name))) ∙ c.if-not-is_name_shown.true))

pub are_names_shown-loop-place-preserved : goal.are_names_shown-loop-place-preserved
are_names_shown-loop-place-preserved t c =
    let names = c.in-Some.names.now in
    let place = c.loop-place.place in
    let inside : place < length names = omega (arith, c.loop-place-test.true, c.len-place-end.ensures, c.loop-place.auto.place-end) in
    elim c.match-nth.branch [
      | are_names_shown-in-Some-nth+else-not-is_name_shown w ↦
          pairs_more (IsNameShown c.args.self.now.nodes.items c.args.set.now) names place (w.in-Some-nth.name.now, w.in-Some-nth.below) inside w.in-Some-nth.ensures.pair c.loop-place.invariant
          (w.is_name_shown.ensures.0 w.if-not-is_name_shown.false)
      | are_names_shown-in_default-nth w ↦ absurd (none-some _ (w.in_default-nth.ensures.pair ∙ slice_get-get_or names place ([], 0) inside))
    ]

pub are_names_shown-returns : goal.are_names_shown-returns
are_names_shown-returns t c =
    let nodes = c.args.self.now.nodes.items in
    let are = c.in-Some.ensures.some ∙ ap (λ (s : Spot). s.children) (node_read nodes c.args.id c.index.result.now (low_in c.args.self.now.nodes c.requires.within) c.index.ensures) in
    let past : length c.in-Some.names.now < c.loop-place.place + 1 = omega (arith, c.loop-place-test.false, c.len-place-end.ensures) in
    accepted (names_shown nodes c.args.id c.args.set.now c.in-Some.names.now are
    (subst (EachIs (IsNameShown nodes c.args.set.now)) (take_all c.loop-place.place c.in-Some.names.now (omega (arith, past))) c.loop-place.invariant))

pub is_element_shown-returns-in-None : goal.is_element_shown-returns-in-None
is_element_shown-returns-in-None t c =
    let nodes = c.args.self.now.nodes.items in
    let low = low_in c.args.self.now.nodes c.requires.within in
    let node = node_read nodes c.args.id c.index.result.now low c.index.ensures in
    let none = sym c.below_index.ensures ∙ ap option_copied c.in-None.is in
    let leaf = leaf_shown nodes c.requires.tree c.args.id low c.args.index (below c.args.set.now (Index c.args.index)) none in
    let told = subst (λ (s : Spot). IsTrue c.is_leaf.result ↔ ((s.children ≡ []) × (s.elements ≡ []))) node c.is_leaf.ensures in
    (λ h. leaf.0 (told.0 h), λ shown. told.1 (leaf.1 shown))

pub is_name_shown-returns-in-None : goal.is_name_shown-returns-in-None
is_name_shown-returns-in-None t c =
    let asked = c.requires.1.1 in
    let none = sym c.below_name.ensures ∙ ap option_copied c.in-None.is in
    refused (hidden_name c.args.self.now.nodes.items asked.1 c.args.id (low_in c.args.self.now.nodes asked.0) c.args.name.now (below c.args.set.now (Name c.args.name.now)) none)

pub is_shown-returns-then-is_whole : goal.is_shown-returns-then-is_whole
is_shown-returns-then-is_whole t c =
    accepted (whole_shown c.args.self.now.nodes.items c.requires.tree c.args.id (low_in c.args.self.now.nodes c.requires.within) c.args.set.now (sym c.is_whole.ensures ∙ c.if-is_whole.true))

pub is_shown-returns-then-not-are_names_shown : goal.is_shown-returns-then-not-are_names_shown
is_shown-returns-then-not-are_names_shown t c =
    let part = sym c.is_whole.ensures ∙ c.if-is_whole.false in
    refused (λ shown.
    true≢false (sym (c.are_names_shown.ensures.1 (names_of_shown c.args.self.now.nodes.items c.requires.tree c.args.id (low_in c.args.self.now.nodes c.requires.within) c.args.set.now part shown)) ∙ c.if-not-are_names_shown.true))

pub is_shown-returns : goal.is_shown-returns
is_shown-returns t c =
    let nodes = c.args.self.now.nodes.items in
    let low = low_in c.args.self.now.nodes c.requires.within in
    let part = sym c.is_whole.ensures ∙ c.if-is_whole.false in (
      λ h. shown_by_parts nodes c.requires.tree c.args.id low c.args.set.now part (c.are_names_shown.ensures.0 c.if-not-are_names_shown.false) (c.are_elements_shown.ensures.0 h),
      λ shown. c.are_elements_shown.ensures.1 (elements_of_shown nodes c.requires.tree c.args.id low c.args.set.now part shown 0),
    )
