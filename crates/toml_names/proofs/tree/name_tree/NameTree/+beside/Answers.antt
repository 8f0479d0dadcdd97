use Rattle.toml_names.proofs.Common.{◌≡◌, ◌<◌, ◌+◌, ℕ, List, [], ◌∷◌, Some, length, sym, ap, subst, ◌∙◌, true≢false, none-some, arith, take_all, slice_get, slice_get-get_or, slice_get_read, option_copied, lookup, bytes_eq, EachIs, Spot, Name, Index, Address, kind_at, kind_in}
use Rattle.toml_names.specs.model.AddressSets.{below}
use Rattle.toml_names.specs.tree.HeldBeside.{IsHeld, ShowsBehind}
use Rattle.toml_names.proofs.lemmas.model.Alike.{accepted, refused}
use Rattle.toml_names.proofs.lemmas.tree.Alike.{pairs_more, told_too, child_read, element_read}
use Rattle.toml_names.proofs.lemmas.tree.HeldBeside.{IsHeldAt, kind_held, names_held, indices_held, held_by_parts, others_had, each_held, names_by_parts, lengths_held, behind_shown, held_more, held_all, names_all, member_held, no_member_held, by_items, held_item}
use Rattle.toml_names.proofs.lemmas.tree.NodeData.{low_in, below_name, below_element, node_read}
use Rattle.toml_names.proofs.tree.name_tree.NameTree.+beside.Goals as goal
use Rattle.toml_names.proofs.tree.name_tree.NameTree.+beside.Goals.{hold_names-in-Some-nth+in_ok-holds_name+else-not-branch, hold_names-in_default-nth}
use Rattle.toml_names.specs.tree.SameBelow.{step_in}

-- ---- elements

pub hold_elements-returns-then-elements-items : goal.hold_elements-returns-then-elements-items
hold_elements-returns-then-elements-items t c =
    let nodes = c.args.self.now.nodes.items in
    let low = low_in c.args.self.now.nodes c.requires.within in
    let are = c.elements-elements.ensures ∙ ap (λ (s : Spot). s.elements) (node_read nodes c.args.id c.index.result.now low c.index.ensures) in
    refused (λ held.
    c.if-elements-items.true (ap length are ∙ lengths_held nodes c.requires.tree c.args.id low c.args.other.now.nodes.items c.args.there c.args.set.now c.args.items.now held))

pub hold_elements-holds_element-requires : goal.hold_elements-holds_element-requires
hold_elements-holds_element-requires t c =
    let nodes = c.args.self.now.nodes.items in
    let low = low_in c.args.self.now.nodes c.requires.within in
    let are = c.elements-elements.ensures ∙ ap (λ (s : Spot). s.elements) (node_read nodes c.args.id c.index.result.now low c.index.ensures) in
    let below = below_element nodes c.requires.tree c.args.id low c.elements-elements.result.now c.loop-index.index 0 are c.loop-index-test.true in
    (omega (arith, below, c.args.self.now.nodes.ok), (omega (arith, below, c.args.self.now.nodes.ok), (c.requires.tree, (c.element_in-across.ensures.within, c.requires.other_tree))))

pub hold_elements-returns-then-not-branch : goal.hold_elements-returns-then-not-branch
hold_elements-returns-then-not-branch t c =
    let nodes = c.args.self.now.nodes.items in
    let node = node_read nodes c.args.id c.index.result.now (low_in c.args.self.now.nodes c.requires.within) c.index.ensures in
    let index = c.loop-index.index in
    let one = element_read nodes c.args.id c.index.result.now c.elements-elements.result.now index node c.elements-elements.ensures c.loop-index-test.true in
    let item = slice_get_read c.args.items.now _ index c.index-items-index.result c.if-elements-items.false c.loop-index-test.true c.index-items-index.is in
    let across = c.element_in-across.ensures.element in
    refused (λ held.
    true≢false (sym (c.in_ok-holds_element.ensures.1 ((held_item nodes c.args.other.now.nodes.items (below c.args.set.now (Index index)) index _ _ _ _ _ _ one (sym across) item).0 (held index))) ∙ c.if-not-branch.true))

pub hold_elements-loop-index-preserved : goal.hold_elements-loop-index-preserved
hold_elements-loop-index-preserved t c =
    let nodes = c.args.self.now.nodes.items in
    let elements = c.elements-elements.result.now in
    let index = c.loop-index.index in
    let one = slice_get-get_or elements index 0 c.loop-index-test.true in
    let item = slice_get_read c.args.items.now _ index c.index-items-index.result c.if-elements-items.false c.loop-index-test.true c.index-items-index.is in
    let across = c.element_in-across.ensures.element in
    held_more nodes elements c.args.other.now.nodes.items c.args.there c.args.set.now c.args.items.now index c.loop-index.invariant
    ((held_item nodes c.args.other.now.nodes.items (below c.args.set.now (Index index)) index _ _ _ _ _ _ one (sym across) item).1 (c.in_ok-holds_element.ensures.0 c.if-not-branch.false))

pub hold_elements-returns : goal.hold_elements-returns
hold_elements-returns t c =
    let nodes = c.args.self.now.nodes.items in
    let others = c.args.other.now.nodes.items in
    let set = c.args.set.now in
    let low = low_in c.args.self.now.nodes c.requires.within in
    let elements = c.elements-elements.result.now in
    let are = c.elements-elements.ensures ∙ ap (λ (s : Spot). s.elements) (node_read nodes c.args.id c.index.result.now low c.index.ensures) in (
      λ h. subst (λ (ks : List ℕ). (i : ℕ) → IsHeld nodes (slice_get ks i) others (step_in others c.args.there (Index i)) (Index i) (below set (Index i)) (kind_in (slice_get c.args.items.now i))) are
          (held_all nodes elements others c.args.there set c.args.items.now c.loop-index.index c.if-elements-items.false c.loop-index-test.false c.loop-index.invariant (c.shows_behind.ensures.0 h)),
      λ held. c.shows_behind.ensures.1 (subst (λ (ks : List ℕ). ShowsBehind others c.args.there (length ks) set) (sym are) (behind_shown nodes c.requires.tree c.args.id low others c.args.there set c.args.items.now held)),
    )

-- ---- names

pub hold_names-holds_name-requires : goal.hold_names-holds_name-requires
hold_names-holds_name-requires t c =
    let nodes = c.args.self.now.nodes.items in
    let low = low_in c.args.self.now.nodes c.requires.within in
    let are = c.in-Some.ensures.some ∙ ap (λ (s : Spot). s.children) (node_read nodes c.args.id c.index.result.now low c.index.ensures) in
    let below = below_name nodes c.requires.tree c.args.id low c.in-Some.names.now c.in-Some-nth.name.now c.in-Some-nth.below are c.in-Some-nth.ensures.found in
    (omega (arith, below, c.args.self.now.nodes.ok), (omega (arith, below, c.args.self.now.nodes.ok), (c.requires.tree, (c.requires.other_within, c.requires.other_tree))))

pub hold_names-returns-then-not-branch : goal.hold_names-returns-then-not-branch
hold_names-returns-then-not-branch t c =
    let nodes = c.args.self.now.nodes.items in
    let node = node_read nodes c.args.id c.index.result.now (low_in c.args.self.now.nodes c.requires.within) c.index.ensures in
    let name = c.in-Some-nth.name.now in
    let one = child_read nodes c.args.id c.index.result.now name (Some c.in-Some-nth.below) node (sym (ap (lookup (bytes_eq name)) (sym c.in-Some.ensures.some) ∙ c.in-Some-nth.ensures.found)) in
    refused (λ held.
    true≢false (sym (c.in_ok-holds_name.ensures.1 (held name c.in-Some-nth.below one)) ∙ c.if-not-branch.true))

pub hold_names-loop-place-preserved : goal.hold_names-loop-place-preserved
hold_names-loop-place-preserved t c =
    let names = c.in-Some.names.now in
    let place = c.loop-place.place in
    let inside : place < length names = omega (arith, c.loop-place-test.true, c.len-place-end.ensures, c.loop-place.auto.place-end) in
    elim c.match-nth.branch [
      | hold_names-in-Some-nth+in_ok-holds_name+else-not-branch w ↦
          pairs_more (IsHeldAt c.args.self.now.nodes.items c.args.other.now.nodes.items c.args.there c.args.set.now c.args.datum.now) names place (w.in-Some-nth.name.now, w.in-Some-nth.below) inside w.in-Some-nth.ensures.pair c.loop-place.invariant
          (w.in_ok-holds_name.ensures.0 w.if-not-branch.false)
      | hold_names-in_default-nth w ↦ absurd (none-some _ (w.in_default-nth.ensures.pair ∙ slice_get-get_or names place ([], 0) inside))
    ]

pub hold_names-returns : goal.hold_names-returns
hold_names-returns t c =
    let nodes = c.args.self.now.nodes.items in
    let others = c.args.other.now.nodes.items in
    let are = c.in-Some.ensures.some ∙ ap (λ (s : Spot). s.children) (node_read nodes c.args.id c.index.result.now (low_in c.args.self.now.nodes c.requires.within) c.index.ensures) in
    let past : length c.in-Some.names.now < c.loop-place.place + 1 = omega (arith, c.loop-place-test.false, c.len-place-end.ensures) in
    accepted (names_all nodes c.args.id others c.args.there c.args.set.now c.args.datum.now c.in-Some.names.now are
    (subst (EachIs (IsHeldAt nodes others c.args.there c.args.set.now c.args.datum.now)) (take_all c.loop-place.place c.in-Some.names.now (omega (arith, past))) c.loop-place.invariant))

pub holds_name-returns-in-Some-member : goal.holds_name-returns-in-Some-member
holds_name-returns-in-Some-member t c =
    let asked = c.requires.1.1 in
    let has = sym c.below_name.ensures ∙ ap option_copied c.in-Some.is in
    let same : (at : Address) → kind_at c.in-Some-member.member.now at ≡ kind_at c.args.datum.now (Name c.args.name.now ∷ at) =
    λ at. sym (ap (λ o. kind_in (option_copied o) at) c.in-Some-member.is) ∙ c.member.ensures at in
    told_too c.holds_beside.result c.holds_beside.ensures
    (member_held c.args.self.now.nodes.items asked.1.0 c.args.id (low_in c.args.self.now.nodes asked.0) c.args.other.now.nodes.items c.args.there c.args.set.now c.args.datum.now c.args.name.now c.in-Some.part.now c.in-Some-member.member.now c.child_in.result has c.child_in.ensures.child same)

pub holds_name-returns-in-None : goal.holds_name-returns-in-None
holds_name-returns-in-None t c =
    let asked = c.requires.1.1 in
    let has = sym c.below_name.ensures ∙ ap option_copied c.in-Some.is in
    let none = sym (c.member.ensures []) ∙ ap (λ o. kind_in (option_copied o) []) c.in-None.is in
    refused (no_member_held c.args.self.now.nodes.items asked.1.0 c.args.id (low_in c.args.self.now.nodes asked.0) c.args.other.now.nodes.items c.args.there c.args.set.now c.args.datum.now c.args.name.now c.in-Some.part.now has none)

-- ---- the node

pub holds_beside-returns-then-not-branch : goal.holds_beside-returns-then-not-branch
holds_beside-returns-then-not-branch t c =
    refused (λ holds.
    true≢false (sym (c.in_ok-is_of_kind.ensures.1 (kind_held c.args.self.now.nodes.items c.requires.tree c.args.id (low_in c.args.self.now.nodes c.requires.within) c.args.other.now.nodes.items c.requires.other_tree c.args.there c.requires.other_within c.args.set.now c.args.datum.now holds)) ∙ c.if-not-branch.true))

pub holds_beside-returns-then-not-has_names_of : goal.holds_beside-returns-then-not-has_names_of
holds_beside-returns-then-not-has_names_of t c =
    let nodes = c.args.self.now.nodes.items in
    let others = c.args.other.now.nodes.items in
    let low = low_in c.args.self.now.nodes c.requires.within in
    let part = sym c.is_whole.ensures ∙ c.if-is_whole.false in
    refused (λ holds.
    let names = names_held nodes c.requires.tree c.args.id low others c.requires.other_tree c.args.there c.requires.other_within c.args.set.now c.args.datum.now part holds in
    true≢false (sym (c.has_names_of.ensures.1 (others_had nodes c.requires.tree c.args.id low others c.requires.other_tree c.args.there c.requires.other_within c.args.set.now c.args.datum.now names)) ∙ c.if-not-has_names_of.true))

pub holds_beside-returns-then-not-branch-2 : goal.holds_beside-returns-then-not-branch-2
holds_beside-returns-then-not-branch-2 t c =
    let nodes = c.args.self.now.nodes.items in
    let others = c.args.other.now.nodes.items in
    let low = low_in c.args.self.now.nodes c.requires.within in
    let part = sym c.is_whole.ensures ∙ c.if-is_whole.false in
    refused (λ holds.
    let names = names_held nodes c.requires.tree c.args.id low others c.requires.other_tree c.args.there c.requires.other_within c.args.set.now c.args.datum.now part holds in
    true≢false (sym (c.in_ok-hold_names.ensures.1 (each_held nodes c.requires.tree c.args.id low others c.requires.other_tree c.args.there c.requires.other_within c.args.set.now c.args.datum.now names)) ∙ c.if-not-branch-2.true))

pub holds_beside-returns : goal.holds_beside-returns
holds_beside-returns t c =
    let nodes = c.args.self.now.nodes.items in
    let others = c.args.other.now.nodes.items in
    let low = low_in c.args.self.now.nodes c.requires.within in
    let o = c.args.there in
    let set = c.args.set.now in
    let d = c.args.datum.now in
    let part = sym c.is_whole.ensures ∙ c.if-is_whole.false in
    let items = by_items nodes c.requires.tree c.args.id low others c.requires.other_tree o c.requires.other_within set d c.items.result.now c.items.ensures in
    told_too c.hold_elements.result c.hold_elements.ensures (
      λ elements.
          let names = names_by_parts nodes c.requires.tree c.args.id low others c.requires.other_tree o c.requires.other_within set d (c.has_members.ensures.0 c.if-not-has_members.false) (c.has_names_of.ensures.0 c.if-not-has_names_of.false) (c.in_ok-hold_names.ensures.0 c.if-not-branch-2.false) in
          held_by_parts nodes c.requires.tree c.args.id low others c.requires.other_tree o c.requires.other_within set d part (c.in_ok-is_of_kind.ensures.0 c.if-not-branch.false) names (items.0 elements),
      λ holds. items.1 (indices_held nodes c.requires.tree c.args.id low others c.requires.other_tree o c.requires.other_within set d part holds),
    )
