use Rattle.toml_names.proofs.Common.{◌≡◌, ◌<◌, ◌+◌, ◌==◌, ℕ, [], List, length, is_some, Some, IsSome, string_bytes, string_cmp, slice_index_or, sym, ap, subst, ◌∙◌, refl, true≢false, arith, All-turn, slice_get-get_or, slice_get_read, get, lookup, deref_pair, slice_get, bytes_eq, scalar_of, Holds, a_table, an_array, a_scalar, value_or_empty, Spot, nowhere, rules}
use Rattle.toml_names.proofs.lemmas.model.Alike.{accepted, refused, each_none}
use Rattle.toml_names.proofs.lemmas.tree.Held.{IsHeldIn, held_part, items_held, array_count, members_held, scalar_told, scalar_held, scalar_bare, table_bare, table_parts, table_count, found_too, no_length, none_counted, not_there, array_bare, array_parts, array_held, no_table, no_array, no_scalar}
use Rattle.toml_names.proofs.lemmas.tree.NodeData.{low_in, below_name, below_element, node_read, kind_read}
use Rattle.toml_names.proofs.tree.name_tree.NameTree.+holds.Goals as goal

pub holds-returns-then-is_leaf : goal.holds-returns-then-is_leaf
holds-returns-then-is_leaf t c =
    let nodes = c.args.self.now.nodes.items in
    let v = value_or_empty (scalar_of c.in-Scalar-Scalar.kind c.in-Scalar-Scalar.token.now) in
    let node = node_read nodes c.args.id c.index-in-Scalar-Scalar.result.now (low_in c.args.self.now.nodes c.requires.within) c.index-in-Scalar-Scalar.ensures in
    let bare = subst (λ (s : Spot). (s.children ≡ []) × (s.elements ≡ [])) node (c.is_leaf.ensures.0 c.if-is_leaf.true) in
    let kind = kind_read nodes c.args.id c.index.result.now (a_scalar v) (low_in c.args.self.now.nodes c.requires.within) c.index.ensures c.in-Scalar-Scalar.ensures nowhere in
    rw c.in-Scalar-Scalar.is-1
    (scalar_told nodes c.args.id c.is_value.result v c.in-Scalar-Scalar.scalar c.is_value.ensures
    (scalar_held nodes c.requires.tree c.args.id (low_in c.args.self.now.nodes c.requires.within) (slice_index_or nodes c.args.id nowhere) refl v c.in-Scalar-Scalar.scalar kind bare))

pub holds-returns-else-is_leaf : goal.holds-returns-else-is_leaf
holds-returns-else-is_leaf t c =
    let nodes = c.args.self.now.nodes.items in
    let node = node_read nodes c.args.id c.index-in-Scalar-Scalar.result.now (low_in c.args.self.now.nodes c.requires.within) c.index-in-Scalar-Scalar.ensures in
    refused (λ holds.
    let bare = scalar_bare nodes c.requires.tree c.args.id (low_in c.args.self.now.nodes c.requires.within) (slice_index_or nodes c.args.id nowhere) refl c.in-Scalar-Scalar.scalar (subst (Holds nodes c.args.id) c.in-Scalar-Scalar.is-1 holds) in
    true≢false (sym (c.is_leaf.ensures.1 (subst (λ (s : Spot). (s.children ≡ []) × (s.elements ≡ [])) (sym node) bare)) ∙ c.if-is_leaf.false))

pub holds-returns-in_default : goal.holds-returns-in_default
holds-returns-in_default t c =
    let nodes = c.args.self.now.nodes.items in
    let kind = kind_read nodes c.args.id c.index.result.now a_table (low_in c.args.self.now.nodes c.requires.within) c.index.ensures c.in_default.ensures nowhere in
    refused (no_table nodes c.requires.tree c.args.id (low_in c.args.self.now.nodes c.requires.within) (slice_index_or nodes c.args.id nowhere) refl c.args.datum.now kind c.in_default.not-Table-1)

pub holds-returns-in_default-2 : goal.holds-returns-in_default-2
holds-returns-in_default-2 t c =
    let nodes = c.args.self.now.nodes.items in
    let kind = kind_read nodes c.args.id c.index.result.now an_array (low_in c.args.self.now.nodes c.requires.within) c.index.ensures c.in_default.ensures nowhere in
    refused (no_array nodes c.requires.tree c.args.id (low_in c.args.self.now.nodes c.requires.within) (slice_index_or nodes c.args.id nowhere) refl c.args.datum.now kind c.in_default.not-Array-1)

pub holds-returns-in_default-3 : goal.holds-returns-in_default-3
holds-returns-in_default-3 t c =
    let nodes = c.args.self.now.nodes.items in
    let v = value_or_empty (scalar_of c.in_default.field-0-0 c.in_default.field-1-0.now) in
    let kind = kind_read nodes c.args.id c.index.result.now (a_scalar v) (low_in c.args.self.now.nodes c.requires.within) c.index.ensures c.in_default.ensures nowhere in
    refused (no_scalar nodes c.requires.tree c.args.id (low_in c.args.self.now.nodes c.requires.within) (slice_index_or nodes c.args.id nowhere) refl c.args.datum.now v kind c.in_default.not-Scalar-1)

pub holds_items-returns-then-name_count-ne0 : goal.holds_items-returns-then-name_count-ne0
holds_items-returns-then-name_count-ne0 t c =
    let nodes = c.args.self.now.nodes.items in
    let node = node_read nodes c.args.id c.index-2.result.now (low_in c.args.self.now.nodes c.requires.within) c.index-2.ensures in
    refused (λ holds.
    let none = array_bare nodes c.requires.tree c.args.id (low_in c.args.self.now.nodes c.requires.within) (slice_index_or nodes c.args.id nowhere) refl c.args.items.now holds in
    c.if-name_count-ne0.true (c.name_count.ensures.count ∙ ap (λ (s : Spot). length s.children) node ∙ ap length none))

pub holds_items-returns-then-elements-len : goal.holds_items-returns-then-elements-len
holds_items-returns-then-elements-len t c =
    let nodes = c.args.self.now.nodes.items in
    let elements = c.elements-elements.ensures ∙ ap (λ (s : Spot). s.elements) (node_read nodes c.args.id c.index.result.now (low_in c.args.self.now.nodes c.requires.within) c.index.ensures) in
    refused (λ holds.
    let count = array_count nodes c.requires.tree c.args.id (low_in c.args.self.now.nodes c.requires.within) c.args.items.now holds in
    c.if-elements-len.true (omega (arith, ap length elements, count, c.len.ensures, c.args.items.now.ok)))

pub holds_items-holds-requires : goal.holds_items-holds-requires
holds_items-holds-requires t c = search (rules, node_read, low_in, below_element)

pub holds_items-returns-then-not-branch : goal.holds_items-returns-then-not-branch
holds_items-returns-then-not-branch t c =
    let nodes = c.args.self.now.nodes.items in
    let elements = c.elements-elements.ensures ∙ ap (λ (s : Spot). s.elements) (node_read nodes c.args.id c.index.result.now (low_in c.args.self.now.nodes c.requires.within) c.index.ensures) in
    let inside : c.loop-index.index < length c.elements-elements.result.now = omega (arith, c.loop-index-test.true, c.if-elements-len.false, c.len.ensures, c.deref-item-items.ensures.len) in
    let one = slice_get-get_or c.elements-elements.result.now c.loop-index.index 0 inside in
    let item = ap (λ l. slice_get l c.loop-index.index) (sym c.deref-item-items.ensures.value) ∙ slice_get_read c.deref-item-items.result.now _ c.loop-index.index c.item-item.result refl c.loop-index-test.true c.item-item.is in
    refused (λ holds.
    let part = array_parts nodes c.requires.tree c.args.id (low_in c.args.self.now.nodes c.requires.within) (slice_index_or nodes c.args.id nowhere) refl c.args.items.now holds c.loop-index.index in
    true≢false (sym (c.in_ok-holds.ensures.1 ((held_part nodes _ _ _ _ (ap (λ l. slice_get l c.loop-index.index) (sym elements) ∙ one) item).1 part)) ∙ c.if-not-branch.true))

pub holds_items-loop-index-preserved : goal.holds_items-loop-index-preserved
holds_items-loop-index-preserved t c = search (rules, slice_get-get_or, slice_get_read, held_part)

pub holds_items-returns : goal.holds_items-returns
holds_items-returns t c =
    let nodes = c.args.self.now.nodes.items in
    let elements = c.elements-elements.ensures ∙ ap (λ (s : Spot). s.elements) (node_read nodes c.args.id c.index.result.now (low_in c.args.self.now.nodes c.requires.within) c.index.ensures) in
    let long : length c.elements-elements.result.now ≡ length c.args.items.now.items = omega (arith, c.if-elements-len.false, c.len.ensures, c.args.items.now.ok) in
    let past : length c.args.items.now.items < c.loop-index.index + 1 = omega (arith, c.loop-index-test.false, c.deref-item-items.ensures.len) in
    let bare = ap (λ (s : Spot). s.children) (node_read nodes c.args.id c.index-2.result.now (low_in c.args.self.now.nodes c.requires.within) c.index-2.ensures) in
    accepted (array_held nodes c.requires.tree c.args.id (low_in c.args.self.now.nodes c.requires.within) (slice_index_or nodes c.args.id nowhere) refl c.args.items.now (c.requires.array nowhere) (sym bare ∙ no_length c.index-2.result.now.children (sym c.name_count.ensures.count ∙ c.if-name_count-ne0.false))
    (subst (λ es. (i : ℕ) → IsHeldIn nodes (slice_get es i) (slice_get c.args.items.now.items i)) elements
    (items_held nodes c.elements-elements.result.now c.args.items.now.items c.loop-index.index long (omega (arith, past)) c.loop-index.invariant)))

pub holds_members-returns-then-not-is_empty : goal.holds_members-returns-then-not-is_empty
holds_members-returns-then-not-is_empty t c =
    let nodes = c.args.self.now.nodes.items in
    let elements = c.elements.ensures ∙ ap (λ (s : Spot). s.elements) (node_read nodes c.args.id c.index.result.now (low_in c.args.self.now.nodes c.requires.within) c.index.ensures) in
    refused (λ holds.
    let none = table_bare nodes c.requires.tree c.args.id (low_in c.args.self.now.nodes c.requires.within) (slice_index_or nodes c.args.id nowhere) refl c.args.members.now holds in
    true≢false (sym (c.is_empty.ensures ∙ ap (λ (es : List ℕ). length es == 0) (elements ∙ none)) ∙ c.if-not-is_empty.true))

pub holds_members-returns-then-name_count-len : goal.holds_members-returns-then-name_count-len
holds_members-returns-then-name_count-len t c = search (rules, node_read, low_in, refused, table_count)

pub holds_members-returns-in_default : goal.holds_members-returns-in_default
holds_members-returns-in_default t c =
    let nodes = c.args.self.now.nodes.items in
    let node = node_read nodes c.args.id c.index-in-loop-name.result.now (low_in c.args.self.now.nodes c.requires.within) c.index-in-loop-name.ensures in
    let gives = c.into_iter-name-iterator.ensures.into_iter_gives in
    let one : get string_cmp c.args.members.now c.in-Some.name.now ≡ Some c.in-Some.member.now =
    All-turn deref_pair (λ e. get string_cmp c.args.members.now e.0 ≡ Some e.1) _ _ _ _ _ _ _ gives.6 gives.0 c.loop-name.yielded_by c.in-Some.is c.next.ensures.steps in
    let name = string_bytes c.in-Some.name.now in
    let children = (slice_index_or nodes c.args.id nowhere).children in
    let there : lookup (bytes_eq name) children ≡ c.child.result =
    ap (λ n. lookup (bytes_eq n) children) (sym c.as_str.ensures.value) ∙ ap (λ (s : Spot). lookup (bytes_eq c.as_str.result.now) s.children) (sym node) ∙ sym c.child.ensures in
    refused (λ holds.
    let some = found_too nodes c.requires.tree c.args.id (low_in c.args.self.now.nodes c.requires.within) (slice_index_or nodes c.args.id nowhere) refl c.args.members.now holds name (ap is_some one) in
    not_there c.child.result c.in_default.not-Some (subst IsSome there some))

pub holds_members-holds-requires : goal.holds_members-holds-requires
holds_members-holds-requires t c =
    let nodes = c.args.self.now.nodes.items in
    let node = node_read nodes c.args.id c.index-in-loop-name.result.now (low_in c.args.self.now.nodes c.requires.within) c.index-in-loop-name.ensures in
    let name = string_bytes c.in-Some.name.now in
    let children = (slice_index_or nodes c.args.id nowhere).children in
    let there : lookup (bytes_eq name) children ≡ c.child.result =
    ap (λ n. lookup (bytes_eq n) children) (sym c.as_str.ensures.value) ∙ ap (λ (s : Spot). lookup (bytes_eq c.as_str.result.now) s.children) (sym node) ∙ sym c.child.ensures in
    let below = below_name nodes c.requires.tree c.args.id (low_in c.args.self.now.nodes c.requires.within) children name c.in-Some-child.below refl (there ∙ c.in-Some-child.is) in
    (omega (arith, below, c.args.self.now.nodes.ok), (omega (arith, below, c.args.self.now.nodes.ok), c.requires.tree))

pub holds_members-returns-then-not-branch : goal.holds_members-returns-then-not-branch
holds_members-returns-then-not-branch t c =
    let nodes = c.args.self.now.nodes.items in
    let node = node_read nodes c.args.id c.index-in-loop-name.result.now (low_in c.args.self.now.nodes c.requires.within) c.index-in-loop-name.ensures in
    let gives = c.into_iter-name-iterator.ensures.into_iter_gives in
    let one : get string_cmp c.args.members.now c.in-Some.name.now ≡ Some c.in-Some.member.now =
    All-turn deref_pair (λ e. get string_cmp c.args.members.now e.0 ≡ Some e.1) _ _ _ _ _ _ _ gives.6 gives.0 c.loop-name.yielded_by c.in-Some.is c.next.ensures.steps in
    let name = string_bytes c.in-Some.name.now in
    let children = (slice_index_or nodes c.args.id nowhere).children in
    let there : lookup (bytes_eq name) children ≡ c.child.result =
    ap (λ n. lookup (bytes_eq n) children) (sym c.as_str.ensures.value) ∙ ap (λ (s : Spot). lookup (bytes_eq c.as_str.result.now) s.children) (sym node) ∙ sym c.child.ensures in
    refused (λ holds.
    let part = table_parts nodes c.requires.tree c.args.id (low_in c.args.self.now.nodes c.requires.within) (slice_index_or nodes c.args.id nowhere) refl c.args.members.now holds name in
    true≢false (sym (c.in_ok-holds.ensures.1 ((held_part nodes _ _ _ _ (there ∙ c.in-Some-child.is) one).1 part)) ∙ c.if-not-branch.true))

pub holds_members-returns : goal.holds_members-returns
holds_members-returns t c = search (rules, node_read, low_in, no_length, none_counted, accepted, members_held, each_none)
