use Rattle.toml_names.proofs.Common.{rules, ◌≡◌, ◌+◌, List, ℕ, Some, length, string_bytes, string_cmp, get, get_by_text, deref_pair, All-turn, IfOk-weaker, option_copied, length_push, Datum, value_or_empty, scalar_of, a_scalar, refl, cond, bytes_eq, sym, ap, subst, ◌∙◌, arith, slice_get, slice_get-get_or, slice_index_or, nowhere, Spot, Index}
use Rattle.toml_names.specs.model.AddressSets.{below}
use Rattle.toml_names.specs.tree.Near.{IsNearIn}
use Rattle.toml_names.specs.tree.SameBelow.{child_of}
use Rattle.toml_names.proofs.lemmas.tree.Alike.{child_read}
use Rattle.toml_names.proofs.lemmas.tree.NodeData.{low_in, below_name, below_element, node_read, kind_read}
use Rattle.toml_names.proofs.lemmas.tree.NearData.{near_whole, near_scalar, near_lone, AreNear, near_table, near_array, near_push, elements_near, near_none, near_more, near_skip, near_all, not_some, part_of}
use Rattle.toml_names.proofs.tree.name_tree.NameTree.+near.Goals as goal

pub array_near-element_near-requires : goal.array_near-element_near-requires
array_near-element_near-requires t c =
    let nodes = c.args.self.now.nodes.items in
    let low = low_in c.args.self.now.nodes c.requires.within in
    let are = c.elements-elements.ensures ∙ ap (λ (s : Spot). s.elements) (node_read nodes c.args.id c.index.result.now low c.index.ensures) in
    let below = below_element nodes c.requires.sound.stands.tree c.args.id low c.elements-elements.result.now c.loop-index.index 0 are c.loop-index-test.true in
    (omega (arith, below, c.args.self.now.nodes.ok), (omega (arith, below, c.args.self.now.nodes.ok), c.requires.sound))

pub array_near-loop-index-preserved : goal.array_near-loop-index-preserved
array_near-loop-index-preserved t c =
    let nodes = c.args.self.now.nodes.items in
    let elements = c.elements-elements.result.now in
    let index = c.loop-index.index in
    let d = c.in_ok-element_near.field-0 in
    let one = slice_get-get_or elements index 0 c.loop-index-test.true in
    subst (λ (ds : List Datum). (length ds ≡ index + 1) × AreNear nodes c.args.set.now elements ds) (sym c.in_ok-push.ensures.items) (
      length_push c.loop-index.items.items d ∙ ap (λ n. n + 1) c.loop-index.invariant.0,
      near_push nodes c.args.set.now elements c.loop-index.items.items index d c.loop-index.invariant.0
          (subst (λ o. IsNearIn nodes (Index index) (below c.args.set.now (Index index)) o (Some d)) (sym one) c.in_ok-element_near.ensures) c.loop-index.invariant.1,
    )

pub array_near-returns : goal.array_near-returns
array_near-returns t c =
    let nodes = c.args.self.now.nodes.items in
    let set = c.args.set.now in
    let low = low_in c.args.self.now.nodes c.requires.within in
    let are = c.elements-elements.ensures ∙ ap (λ (s : Spot). s.elements) (node_read nodes c.args.id c.index.result.now low c.index.ensures) in
    let long : length c.elements-elements.result.now ≡ length c.loop-index.items.items = omega (arith, c.loop-index-test.false, c.loop-index.auto.index-end, c.loop-index.invariant.0) in
    near_array nodes c.requires.sound c.args.id low set c.loop-index.items c.requires.part c.requires.array
    (subst (λ (ks : List ℕ). (i : ℕ) → IsNearIn nodes (Index i) (below set (Index i)) (slice_get ks i) (slice_get c.loop-index.items.items i)) are
    (elements_near nodes set c.elements-elements.result.now c.loop-index.items.items long c.loop-index.invariant.1))

pub datum_near-returns-then-is_whole : goal.datum_near-returns-then-is_whole
datum_near-returns-then-is_whole t c =
    IfOk-weaker c.datum.result _ _
    (λ d is. near_whole c.args.self.now.nodes.items c.requires.sound c.args.id (low_in c.args.self.now.nodes c.requires.within) c.args.set.now d (sym c.is_whole.ensures ∙ c.if-is_whole.true) is) c.datum.ensures

pub datum_near-returns-in-Scalar : goal.datum_near-returns-in-Scalar
datum_near-returns-in-Scalar t c =
    let nodes = c.args.self.now.nodes.items in
    let low = low_in c.args.self.now.nodes c.requires.within in
    let v = value_or_empty (scalar_of c.in-Scalar.kind c.in-Scalar.token.now) in
    let kind = kind_read nodes c.args.id c.index.result.now (a_scalar v) low c.index.ensures c.in-Scalar.ensures in
    IfOk-weaker c.scalar_datum.result _ _ (λ d only. near_scalar nodes c.requires.sound c.args.id low c.args.set.now v d kind only) c.scalar_datum.ensures

pub element_near-returns-in-None : goal.element_near-returns-in-None
element_near-returns-in-None t c =
    let nodes = c.args.self.now.nodes.items in
    let none = sym c.below_index.ensures ∙ ap option_copied c.in-None.is in
    IfOk-weaker c.lone.result _ _ (λ d only.
    subst (λ o. IsNearIn nodes (Index c.args.index) o (Some c.args.id) (Some d)) (sym none) (near_lone nodes c.requires.sound c.args.id (low_in c.args.self.now.nodes c.requires.within) c.args.index d only)) c.lone.ensures

pub table_near-loop-name-init : goal.table_near-loop-name-init
table_near-loop-name-init t c =
    let names = c.names-name-items.result.now in
    let all : c.into_iter-name-iterator.result ≡ names.entries = search rules in
    near_none c.args.self.now.nodes.items c.args.id c.args.set.now c.into_iter-name-iterator.result c.new-members.result (λ n. ap (part_of n) all ∙ c.names-name-items.ensures n) c.new-members.ensures.empty

pub table_near-datum_near-requires : goal.table_near-datum_near-requires
table_near-datum_near-requires t c =
    let nodes = c.args.self.now.nodes.items in
    let low = low_in c.args.self.now.nodes c.requires.within in
    let node = node_read nodes c.args.id c.index.result.now low c.index.ensures in
    let there = child_read nodes c.args.id c.index.result.now c.as_str.result.now c.child.result node c.child.ensures ∙ c.in-Some-child.is in
    let below = below_name nodes c.requires.sound.stands.tree c.args.id low (slice_index_or nodes c.args.id nowhere).children c.as_str.result.now c.in-Some-child.below refl there in
    (omega (arith, below, c.args.self.now.nodes.ok), (omega (arith, below, c.args.self.now.nodes.ok), c.requires.sound))

pub table_near-loop-name-preserved-in-Continue-branch-2 : goal.table_near-loop-name-preserved-in-Continue-branch-2
table_near-loop-name-preserved-in-Continue-branch-2 t c =
    let nodes = c.args.self.now.nodes.items in
    let low = low_in c.args.self.now.nodes c.requires.within in
    let node = node_read nodes c.args.id c.index.result.now low c.index.ensures in
    let child = ap (child_of nodes c.args.id) (sym c.as_str.ensures.value) ∙ child_read nodes c.args.id c.index.result.now c.as_str.result.now c.child.result node c.child.ensures ∙ c.in-Some-child.is in
    let gives = c.into_iter-name-iterator.ensures.into_iter_gives in
    let there : get string_cmp c.names-name-items.result.now c.in-Some.name.now ≡ Some c.in-Some.part.now =
    All-turn deref_pair (λ e. get string_cmp c.names-name-items.result.now e.0 ≡ Some e.1) _ _ _ _ _ _ _ gives.6 gives.0 c.loop-name.yielded_by c.in-Some.is c.next.ensures.steps in
    near_more nodes c.args.id c.args.set.now c.loop-name.name-iterator c.next.new.self (c.in-Some.name.now, c.in-Some.part.now) c.loop-name.members c.in-Some.ensures.steps
    (sym (c.names-name-items.ensures (string_bytes c.in-Some.name.now)) ∙ there) c.loop-name.invariant
    c.add_member.new.members c.in-Some-child.below c.in_ok-member.member child c.in_ok-member.ensures
    (λ n. c.in_ok-add_member.ensures n ∙ ap (λ k. cond (bytes_eq k n) (Some c.in_ok-member.member) (get_by_text c.loop-name.members n)) c.as_str-in-Some-child.ensures.value)

pub table_near-loop-name-preserved : goal.table_near-loop-name-preserved
table_near-loop-name-preserved t c =
    let nodes = c.args.self.now.nodes.items in
    let low = low_in c.args.self.now.nodes c.requires.within in
    let node = node_read nodes c.args.id c.index.result.now low c.index.ensures in
    let none = not_some c.child.result c.in_default.not-Some in
    let child = ap (child_of nodes c.args.id) (sym c.as_str.ensures.value) ∙ child_read nodes c.args.id c.index.result.now c.as_str.result.now c.child.result node c.child.ensures ∙ none in
    let gives = c.into_iter-name-iterator.ensures.into_iter_gives in
    let there : get string_cmp c.names-name-items.result.now c.in-Some.name.now ≡ Some c.in-Some.part.now =
    All-turn deref_pair (λ e. get string_cmp c.names-name-items.result.now e.0 ≡ Some e.1) _ _ _ _ _ _ _ gives.6 gives.0 c.loop-name.yielded_by c.in-Some.is c.next.ensures.steps in
    near_skip nodes c.args.id c.args.set.now c.loop-name.name-iterator c.next.new.self (c.in-Some.name.now, c.in-Some.part.now) c.loop-name.members c.in-Some.ensures.steps
    (sym (c.names-name-items.ensures (string_bytes c.in-Some.name.now)) ∙ there) c.loop-name.invariant child

pub table_near-returns : goal.table_near-returns
table_near-returns t c =
    near_table c.args.self.now.nodes.items c.requires.sound c.args.id (low_in c.args.self.now.nodes c.requires.within) c.args.set.now c.loop-name.members c.requires.part c.requires.table
    (near_all c.args.self.now.nodes.items c.args.id c.args.set.now _ c.loop-name.members c.in-None.ensures.steps.0 c.loop-name.invariant)
