use Rattle.toml_names.proofs.Common.{drop_all, none-some, slice_get-get_or, ◌+◌, drop, ◌<◌, ℕ, List, [], slice_get, length, sym, ap, ◌∙◌, subst, arith, a_table, an_array, Spot, rules}
use Rattle.toml_names.proofs.lemmas.tree.NodeData.{low_in, PartIs, ItemsAre, Fills, items_more, items_whole, pair_next, fills_none, fills_more, fills_all, table_is_datum, array_is_datum, below_name, below_element, node_read, kind_read, scalars_datum}
use Rattle.toml_names.proofs.tree.name_tree.NameTree.+datum.Goals as goal
use Rattle.toml_names.proofs.tree.name_tree.NameTree.+datum.Goals.{table_datum-in-Some-nth+in_ok-member+in_ok-add_member, table_datum-in_default-nth}

pub array_datum-loop-below-init : goal.array_datum-loop-below-init
array_datum-loop-below-init t c = subst (ItemsAre c.args.self.now.nodes.items []) (sym c.in_ok-items.ensures.items) tt

pub array_datum-datum-requires : goal.array_datum-datum-requires
array_datum-datum-requires t c = search (rules, node_read, low_in, below_element)

pub array_datum-loop-below-preserved : goal.array_datum-loop-below-preserved
array_datum-loop-below-preserved t c =
    subst (ItemsAre c.args.self.now.nodes.items _) (sym c.in_ok-push.ensures.items)
    (items_more c.args.self.now.nodes.items c.elements-elements.result.now c.loop-below.items.items c.loop-below.below-index 0 c.in_ok-datum.field-0 c.loop-below-test.true c.loop-below.invariant c.in_ok-datum.ensures)

pub array_datum-returns : goal.array_datum-returns
array_datum-returns t c =
    let nodes = c.args.self.now.nodes.items in
    let elements = c.elements-elements.ensures ∙ ap (λ (s : Spot). s.elements) (node_read nodes c.args.id c.index.result.now (low_in c.args.self.now.nodes c.requires.within) c.index.ensures) in
    array_is_datum nodes c.args.id (low_in c.args.self.now.nodes c.requires.within) c.loop-below.items c.requires.tree c.requires.array
    (subst (λ (l : List ℕ). (i : ℕ) → PartIs nodes (slice_get l i) (slice_get c.loop-below.items.items i)) elements
    (items_whole nodes c.elements-elements.result.now c.loop-below.items.items c.loop-below.below-index c.loop-below-test.false c.loop-below.invariant))

pub datum-table_datum-requires : goal.datum-table_datum-requires
datum-table_datum-requires t c =
    let nodes = c.args.self.now.nodes.items in
    (omega arith, (c.requires.within, (c.requires.tree, kind_read nodes c.args.id c.index.result.now a_table (low_in c.args.self.now.nodes c.requires.within) c.index.ensures c.in-Table.ensures)))

pub datum-array_datum-requires : goal.datum-array_datum-requires
datum-array_datum-requires t c =
    let nodes = c.args.self.now.nodes.items in
    (omega arith, (c.requires.within, (c.requires.tree, kind_read nodes c.args.id c.index.result.now an_array (low_in c.args.self.now.nodes c.requires.within) c.index.ensures c.in-Array.ensures)))

pub datum-returns-in-Scalar : goal.datum-returns-in-Scalar
datum-returns-in-Scalar t c = search (rules, scalars_datum, low_in, kind_read)

pub table_datum-datum-requires : goal.table_datum-datum-requires
table_datum-datum-requires t c =
    let nodes = c.args.self.now.nodes.items in
    let are = c.in-Some.ensures.some ∙ ap (λ (s : Spot). s.children) (node_read nodes c.args.id c.index.result.now (low_in c.args.self.now.nodes c.requires.within) c.index.ensures) in
    let below = below_name nodes c.requires.tree c.args.id (low_in c.args.self.now.nodes c.requires.within) c.in-Some.names.now c.in-Some-nth.name.now c.in-Some-nth.below are c.in-Some-nth.ensures.found in
    (omega (arith, below, c.args.self.now.nodes.ok), (omega (arith, below, c.args.self.now.nodes.ok), c.requires.tree))

pub table_datum-loop-place-preserved : goal.table_datum-loop-place-preserved
table_datum-loop-place-preserved t c =
    let nodes = c.args.self.now.nodes.items in
    let names = c.in-Some.names.now in
    let place = c.loop-place.place in
    let low : place < length names = omega (arith, c.loop-place-test.true, c.len-place-end.ensures, c.loop-place.auto.place-end) in
    elim c.match-nth.branch [
      | table_datum-in-Some-nth+in_ok-member+in_ok-add_member w ↦
          subst (Fills nodes names (drop (place + 1) names)) (sym w.members-is)
          (fills_more nodes names (drop place names) (drop (place + 1) names) (w.in-Some-nth.name.now, w.in-Some-nth.below) w.in_ok-member.member c.loop-place.members w.add_member.new.members
          (pair_next names place (w.in-Some-nth.name.now, w.in-Some-nth.below) w.in-Some-nth.ensures.pair) w.in-Some-nth.ensures.found w.in_ok-member.ensures c.loop-place.invariant w.in_ok-add_member.ensures)
      | table_datum-in_default-nth w ↦ absurd (none-some _ (w.in_default-nth.ensures.pair ∙ slice_get-get_or names place ([], 0) low))
    ]

pub table_datum-returns : goal.table_datum-returns
table_datum-returns t c = search (rules, node_read, low_in, drop_all, table_is_datum, fills_all)

pub table_datum-returns-in_default : goal.table_datum-returns-in_default
table_datum-returns-in_default t c = search (rules, node_read, low_in, table_is_datum, fills_all, fills_none)
