use Rattle.toml_names.proofs.Common.{◌<◌, ◌+◌, [], length, slice_index_or, slice_get, sym, ap, subst, ◌∙◌, refl, true≢false, none-some, arith, take_all, slice_get-get_or, EachIs, Spot, nowhere, below_in, AreDistinct}
use Rattle.toml_names.proofs.lemmas.model.Alike.{accepted, refused}
use Rattle.toml_names.proofs.lemmas.tree.Alike.{IsAlike, same_some, same_kind, same_names, same_elements, same_below, same_count, same_length, names_alike, pairs_more, elements_alike, elements_more, same_nowhere, told_too, child_read, element_read}
use Rattle.toml_names.proofs.lemmas.tree.NodeData.{low_in, below_name, below_element, node_read}
use Rattle.toml_names.proofs.tree.name_tree.NameTree.+alike.Goals as goal
use Rattle.toml_names.proofs.tree.name_tree.NameTree.+alike.Goals.{same_names-in-Some-nth+in_ok-same_at+else-not-branch, same_names-in_default-nth}

-- what is asked comes behind what is known of the text, and the measure
pub same_at-same_below-requires : goal.same_at-same_below-requires
same_at-same_below-requires t c =
    let asked = c.requires.1.1 in
    let others = c.args.other.now.nodes.items in
    let node = node_read others c.args.other_id c.index.result.now (low_in c.args.other.now.nodes asked.1.1.0) c.index.ensures in
    let there = child_read others c.args.other_id c.index.result.now c.args.name.now c.child_from.result node c.child_from.ensures ∙ c.in-Some.is in
    let below = below_name others asked.1.1.1 c.args.other_id (low_in c.args.other.now.nodes asked.1.1.0) (slice_index_or others c.args.other_id nowhere).children c.args.name.now c.in-Some.there refl there in
    (omega arith, (asked.0, (asked.1.0, (omega (arith, below, c.args.other.now.nodes.ok), asked.1.1.1))))

pub same_at-returns-in-None : goal.same_at-returns-in-None
same_at-returns-in-None t c =
    let asked = c.requires.1.1 in
    let nodes = c.args.self.now.nodes.items in
    let others = c.args.other.now.nodes.items in
    let node = node_read others c.args.other_id c.index.result.now (low_in c.args.other.now.nodes asked.1.1.0) c.index.ensures in
    let none = child_read others c.args.other_id c.index.result.now c.args.name.now c.child_from.result node c.child_from.ensures ∙ c.in-None.is in
    refused (same_nowhere nodes asked.1.0 c.args.id (low_in c.args.self.now.nodes asked.0) others _ none)

pub same_below-returns-then-not-branch : goal.same_below-returns-then-not-branch
same_below-returns-then-not-branch t c =
    let nodes = c.args.self.now.nodes.items in
    let others = c.args.other.now.nodes.items in
    let low = low_in c.args.self.now.nodes c.requires.within in
    let other_low = low_in c.args.other.now.nodes c.requires.other_within in
    let node = c.kind-kind.ensures ∙ ap (λ (s : Spot). s.kind) (node_read nodes c.args.id c.index.result.now low c.index.ensures) in
    let other_node = c.kind-other_kind.ensures ∙ ap (λ (s : Spot). s.kind) (node_read others c.args.other_id c.index-2.result.now other_low c.index-2.ensures) in
    refused (λ same.
    true≢false (sym (c.in_ok-is_same_kind.ensures.1 (node ∙ same_kind nodes c.requires.tree c.args.id low others c.requires.other_tree c.args.other_id other_low same ∙ sym other_node)) ∙ c.if-not-branch.true))

pub same_below-returns-then-not-branch-2 : goal.same_below-returns-then-not-branch-2
same_below-returns-then-not-branch-2 t c =
    let nodes = c.args.self.now.nodes.items in
    let others = c.args.other.now.nodes.items in
    let low = low_in c.args.self.now.nodes c.requires.within in
    let other_low = low_in c.args.other.now.nodes c.requires.other_within in
    refused (λ same.
    true≢false (sym (c.in_ok-same_names.ensures.1 (same_names nodes c.requires.tree c.args.id low others c.requires.other_tree c.args.other_id other_low same)) ∙ c.if-not-branch-2.true))

pub same_below-returns : goal.same_below-returns
same_below-returns t c =
    let nodes = c.args.self.now.nodes.items in
    let others = c.args.other.now.nodes.items in
    let low = low_in c.args.self.now.nodes c.requires.within in
    let other_low = low_in c.args.other.now.nodes c.requires.other_within in
    let node = c.kind-kind.ensures ∙ ap (λ (s : Spot). s.kind) (node_read nodes c.args.id c.index.result.now low c.index.ensures) in
    let other_node = c.kind-other_kind.ensures ∙ ap (λ (s : Spot). s.kind) (node_read others c.args.other_id c.index-2.result.now other_low c.index-2.ensures) in
    told_too c.same_elements.result c.same_elements.ensures (
      λ elements. same_below nodes c.requires.tree c.args.id low others c.requires.other_tree c.args.other_id other_low
          (sym node ∙ c.in_ok-is_same_kind.ensures.0 c.if-not-branch.false ∙ other_node) (c.in_ok-same_names.ensures.0 c.if-not-branch-2.false) elements,
      λ same. same_elements nodes c.requires.tree c.args.id low others c.requires.other_tree c.args.other_id other_low same,
    )

pub same_elements-returns-then-elements-others : goal.same_elements-returns-then-elements-others
same_elements-returns-then-elements-others t c =
    let nodes = c.args.self.now.nodes.items in
    let others = c.args.other.now.nodes.items in
    let low = low_in c.args.self.now.nodes c.requires.within in
    let other_low = low_in c.args.other.now.nodes c.requires.other_within in
    let are = c.elements-elements.ensures ∙ ap (λ (s : Spot). s.elements) (node_read nodes c.args.id c.index.result.now low c.index.ensures) in
    let other_are = c.elements-others.ensures ∙ ap (λ (s : Spot). s.elements) (node_read others c.args.other_id c.index-2.result.now other_low c.index-2.ensures) in
    refused (λ same.
    c.if-elements-others.true (ap length are ∙ same_length nodes c.requires.tree c.args.id low others c.requires.other_tree c.args.other_id other_low same ∙ sym (ap length other_are)))

pub same_elements-same_below-requires : goal.same_elements-same_below-requires
same_elements-same_below-requires t c =
    let nodes = c.args.self.now.nodes.items in
    let others = c.args.other.now.nodes.items in
    let low = low_in c.args.self.now.nodes c.requires.within in
    let other_low = low_in c.args.other.now.nodes c.requires.other_within in
    let are = c.elements-elements.ensures ∙ ap (λ (s : Spot). s.elements) (node_read nodes c.args.id c.index.result.now low c.index.ensures) in
    let other_are = c.elements-others.ensures ∙ ap (λ (s : Spot). s.elements) (node_read others c.args.other_id c.index-2.result.now other_low c.index-2.ensures) in
    let below = below_element nodes c.requires.tree c.args.id low c.elements-elements.result.now c.loop-index.index 0 are c.loop-index-test.true in
    let other_below = below_element others c.requires.other_tree c.args.other_id other_low c.elements-others.result.now c.loop-index.index 0 other_are (omega (arith, c.if-elements-others.false, c.loop-index-test.true)) in
    (omega (arith, below, c.args.self.now.nodes.ok), (omega (arith, below, c.args.self.now.nodes.ok), (c.requires.tree, (omega (arith, other_below, c.args.other.now.nodes.ok), c.requires.other_tree))))

pub same_elements-returns-then-not-branch : goal.same_elements-returns-then-not-branch
same_elements-returns-then-not-branch t c =
    let nodes = c.args.self.now.nodes.items in
    let others = c.args.other.now.nodes.items in
    let node = node_read nodes c.args.id c.index.result.now (low_in c.args.self.now.nodes c.requires.within) c.index.ensures in
    let other_node = node_read others c.args.other_id c.index-2.result.now (low_in c.args.other.now.nodes c.requires.other_within) c.index-2.ensures in
    let one = element_read nodes c.args.id c.index.result.now c.elements-elements.result.now c.loop-index.index node c.elements-elements.ensures c.loop-index-test.true in
    let other = element_read others c.args.other_id c.index-2.result.now c.elements-others.result.now c.loop-index.index other_node c.elements-others.ensures (omega (arith, c.if-elements-others.false, c.loop-index-test.true)) in
    refused (λ same.
    true≢false (sym (c.in_ok-same_below.ensures.1 ((same_some nodes others _ _ _ _ one other).1 (same c.loop-index.index))) ∙ c.if-not-branch.true))

pub same_elements-loop-index-preserved : goal.same_elements-loop-index-preserved
same_elements-loop-index-preserved t c =
    let nodes = c.args.self.now.nodes.items in
    let others = c.args.other.now.nodes.items in
    let one = slice_get-get_or c.elements-elements.result.now c.loop-index.index 0 c.loop-index-test.true in
    let other = slice_get-get_or c.elements-others.result.now c.loop-index.index 0 (omega (arith, c.if-elements-others.false, c.loop-index-test.true)) in
    elements_more nodes others c.elements-elements.result.now c.elements-others.result.now c.loop-index.index c.loop-index.invariant
    ((same_some nodes others _ _ _ _ one other).0 (c.in_ok-same_below.ensures.0 c.if-not-branch.false))

pub same_elements-returns : goal.same_elements-returns
same_elements-returns t c =
    let nodes = c.args.self.now.nodes.items in
    let others = c.args.other.now.nodes.items in
    let are = c.elements-elements.ensures ∙ ap (λ (s : Spot). s.elements) (node_read nodes c.args.id c.index.result.now (low_in c.args.self.now.nodes c.requires.within) c.index.ensures) in
    let other_are = c.elements-others.ensures ∙ ap (λ (s : Spot). s.elements) (node_read others c.args.other_id c.index-2.result.now (low_in c.args.other.now.nodes c.requires.other_within) c.index-2.ensures) in
    let all = elements_alike nodes others c.elements-elements.result.now c.elements-others.result.now c.loop-index.index c.if-elements-others.false c.loop-index-test.false c.loop-index.invariant in
    accepted (λ i at. ap (λ l. below_in nodes (slice_get l i) at) (sym are) ∙ all i at ∙ ap (λ l. below_in others (slice_get l i) at) other_are)

pub same_names-returns-then-name_count : goal.same_names-returns-then-name_count
same_names-returns-then-name_count t c =
    let nodes = c.args.self.now.nodes.items in
    let others = c.args.other.now.nodes.items in
    let low = low_in c.args.self.now.nodes c.requires.within in
    let other_low = low_in c.args.other.now.nodes c.requires.other_within in
    let node = ap (λ (s : Spot). s.children) (node_read nodes c.args.id c.index.result.now low c.index.ensures) in
    let other_node = ap (λ (s : Spot). s.children) (node_read others c.args.other_id c.index-2.result.now other_low c.index-2.ensures) in
    refused (λ same.
    let count = same_count nodes c.requires.tree c.args.id low others c.requires.other_tree c.args.other_id other_low (subst AreDistinct node c.name_count.ensures.distinct) (subst AreDistinct other_node c.name_count-2.ensures.distinct) same in
    c.if-name_count.true (c.name_count.ensures.count ∙ ap length node ∙ count ∙ sym (ap length other_node) ∙ sym c.name_count-2.ensures.count))

pub same_names-same_at-requires : goal.same_names-same_at-requires
same_names-same_at-requires t c =
    let nodes = c.args.self.now.nodes.items in
    let low = low_in c.args.self.now.nodes c.requires.within in
    let are = c.in-Some.ensures.some ∙ ap (λ (s : Spot). s.children) (node_read nodes c.args.id c.index-3.result.now low c.index-3.ensures) in
    let below = below_name nodes c.requires.tree c.args.id low c.in-Some.names.now c.in-Some-nth.name.now c.in-Some-nth.below are c.in-Some-nth.ensures.found in
    (omega (arith, below, c.args.self.now.nodes.ok), (omega (arith, below, c.args.self.now.nodes.ok), (c.requires.tree, (c.requires.other_within, c.requires.other_tree))))

pub same_names-loop-place-preserved : goal.same_names-loop-place-preserved
same_names-loop-place-preserved t c =
    let nodes = c.args.self.now.nodes.items in
    let others = c.args.other.now.nodes.items in
    let names = c.in-Some.names.now in
    let place = c.loop-place.place in
    let inside : place < length names = omega (arith, c.loop-place-test.true, c.len-place-end.ensures, c.loop-place.auto.place-end) in
    elim c.match-nth.branch [
      | same_names-in-Some-nth+in_ok-same_at+else-not-branch w ↦
          pairs_more (IsAlike nodes others c.args.other_id) names place (w.in-Some-nth.name.now, w.in-Some-nth.below) inside w.in-Some-nth.ensures.pair c.loop-place.invariant
          (w.in_ok-same_at.ensures.0 w.if-not-branch.false)
      | same_names-in_default-nth w ↦ absurd (none-some _ (w.in_default-nth.ensures.pair ∙ slice_get-get_or names place ([], 0) inside))
    ]

pub same_names-returns : goal.same_names-returns
same_names-returns t c =
    let nodes = c.args.self.now.nodes.items in
    let others = c.args.other.now.nodes.items in
    let low = low_in c.args.self.now.nodes c.requires.within in
    let other_low = low_in c.args.other.now.nodes c.requires.other_within in
    let node = ap (λ (s : Spot). s.children) (node_read nodes c.args.id c.index.result.now low c.index.ensures) in
    let other_node = ap (λ (s : Spot). s.children) (node_read others c.args.other_id c.index-2.result.now other_low c.index-2.ensures) in
    let are = c.in-Some.ensures.some ∙ ap (λ (s : Spot). s.children) (node_read nodes c.args.id c.index-3.result.now low c.index-3.ensures) in
    let past : length c.in-Some.names.now < c.loop-place.place + 1 = omega (arith, c.loop-place-test.false, c.len-place-end.ensures) in
    accepted (names_alike nodes c.requires.tree c.args.id low others c.requires.other_tree c.args.other_id other_low (subst AreDistinct node c.name_count.ensures.distinct)
    (sym (ap length node) ∙ sym c.name_count.ensures.count ∙ c.if-name_count.false ∙ c.name_count-2.ensures.count ∙ ap length other_node)
    (subst (EachIs (IsAlike nodes others c.args.other_id)) (take_all c.loop-place.place c.in-Some.names.now (omega (arith, past)) ∙ are) c.loop-place.invariant))
