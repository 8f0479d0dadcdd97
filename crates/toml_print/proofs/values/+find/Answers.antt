use Rattle.std.proofs.Common.{◌<◌, ◌+◌, [], length, map, drop, sym, ap, subst, ◌∙◌, arith}
use Rattle.std.proofs.lemmas.Result.{IfOk-weaker}
use Rattle.std.specs.Prelude.{IfOk}
use Rattle.toml_tree.specs.Tree as tree
use Rattle.toml_tree.specs.View.{element, keyval, key, member}
use Rattle.toml_tree.specs.declared.tree.Value.TheViews.{out-Array, out-InlineTable}
use Rattle.toml_tree.proofs.Proved.{keyval_is}
use Rattle.toml_names.specs.mentions.Keys.{key_names}
use Rattle.toml_names.specs.model.Addresses.{Address, below}
use Rattle.toml_print.specs.Searching.{Finds, FindsInItems, FindsInPair}
use Rattle.toml_print.proofs.Found.{finds_in_pair, finds_no_pair, finds_in_pairs, later_next, is_none}
use Rattle.toml_print.proofs.Searched.{array_searched, inline_searched, item_searched, no_item_searched, next_pair, not_root, pair_seen, part_of_all, some_steps}
use Rattle.toml_print.proofs.values.+find.Goals as goal

pub find_in-returns-in-Array : goal.find_in-returns-in-Array
find_in-returns-in-Array t c =
    let items_are = c.deref-in-Array.ensures.value ∙ ap (λ a. (out-Array a).items.items) c.deref.ensures in
    let steps = some_steps c.args.steps.now c.split_first.result (c.in-Some.first, c.in-Some.rest) c.split_first.ensures.cases c.in-Some.is in
    array_searched c.in-Array.array c.args.value.now c.deref-in-Array.result.now c.args.steps.now c.find_in_items.result c.in-Array.is items_are (not_root c.args.steps.now c.in-Some.first.now c.in-Some.rest.now steps)
    (subst (λ (at : Address). IfOk c.find_in_items.result (FindsInItems (map element c.deref-in-Array.result.now) at)) (sym steps) c.find_in_items.ensures)

pub find_in-returns-in-Inline : goal.find_in-returns-in-Inline
find_in-returns-in-Inline t c =
    let pairs_are = c.deref-in-Inline-2.ensures.value ∙ ap (λ t. (out-InlineTable t).pairs.items) c.deref-in-Inline.ensures in
    let steps = some_steps c.args.steps.now c.split_first.result (c.in-Some.first, c.in-Some.rest) c.split_first.ensures.cases c.in-Some.is in
    inline_searched c.in-Inline.table c.args.value.now c.deref-in-Inline-2.result.now c.args.steps.now c.find_in_pairs.result c.in-Inline.is pairs_are (not_root c.args.steps.now c.in-Some.first.now c.in-Some.rest.now steps) c.find_in_pairs.ensures

pub find_in_items-returns-in-Some : goal.find_in_items-returns-in-Some
find_in_items-returns-in-Some t c =
    item_searched c.args.items.now c.args.first.now c.item_at.result c.args.rest.now c.item_at.ensures c.in-Some.item c.find_in.result c.in-Some.is c.find_in.ensures

pub find_in_items-returns-in-None : goal.find_in_items-returns-in-None
find_in_items-returns-in-None t c = no_item_searched c.args.items.now c.args.first.now c.item_at.result c.args.rest.now c.item_at.ensures c.in-None.is

pub find_in_pair-returns-in-Some : goal.find_in_pair-returns-in-Some
find_in_pair-returns-in-Some t c =
    let pair = keyval c.args.pair.now in
    let key_is = c.steps.ensures ∙ c.in_ok-key.ensures ∙ ap (λ at. below at (key_names (key c.args.pair.now.assign.key))) c.root.ensures
    ∙ ap (λ (k : tree.KeyVal). below [] (key_names k.assign.key)) (sym (keyval_is c.args.pair.now)) in
    IfOk-weaker c.find_in.result _ _
    (λ found h. finds_in_pair pair c.steps.result.now c.in-Some.rest.now c.args.steps.now found key_is c.in-Some.ensures (subst (λ (k : tree.KeyVal). Finds k.value c.in-Some.rest.now found) (sym (keyval_is c.args.pair.now)) h))
    c.find_in.ensures

pub find_in_pair-returns : goal.find_in_pair-returns
find_in_pair-returns t c =
    let pair = keyval c.args.pair.now in
    let key_is = c.steps.ensures ∙ c.in_ok-key.ensures ∙ ap (λ at. below at (key_names (key c.args.pair.now.assign.key))) c.root.ensures
    ∙ ap (λ (k : tree.KeyVal). below [] (key_names k.assign.key)) (sym (keyval_is c.args.pair.now)) in
    finds_no_pair pair c.steps.result.now c.args.steps.now key_is c.in-None.ensures

pub find_in_pairs-returns-then-is_some : goal.find_in_pairs-returns-then-is_some
find_in_pairs-returns-then-is_some t c =
    let low : c.loop-pair.pair-index < length c.args.pairs.now = omega (arith, c.loop-pair-test.true, c.loop-pair.auto.pair-index-end) in
    let next = next_pair c.args.pairs.now c.loop-pair.pair-index c.pair-item.result _ low c.pair-item.is in
    finds_in_pairs c.args.steps.now (map member c.args.pairs.now) (map member (drop c.loop-pair.pair-index c.args.pairs.now)) (member c.pair-item.result) (map member (drop (c.loop-pair.pair-index + 1) c.args.pairs.now))
    c.in_ok-found.found (part_of_all c.args.steps.now c.args.pairs.now c.loop-pair.pair-index) next (sym c.is_some.ensures ∙ c.if-is_some.true) (pair_seen c.pair-item.result c.args.steps.now c.in_ok-found.found c.in_ok-found.ensures)

pub find_in_pairs-loop-pair-preserved : goal.find_in_pairs-loop-pair-preserved
find_in_pairs-loop-pair-preserved t c =
    let low : c.loop-pair.pair-index < length c.args.pairs.now = omega (arith, c.loop-pair-test.true, c.loop-pair.auto.pair-index-end) in
    let next = next_pair c.args.pairs.now c.loop-pair.pair-index c.pair-item.result _ low c.pair-item.is in
    let none = is_none c.in_ok-found.found (sym c.is_some.ensures ∙ c.if-is_some.false) in
    later_next c.args.steps.now (map member c.args.pairs.now) (map member (drop c.loop-pair.pair-index c.args.pairs.now)) (member c.pair-item.result) (map member (drop (c.loop-pair.pair-index + 1) c.args.pairs.now))
    c.loop-pair.invariant next (subst (FindsInPair (member c.pair-item.result).pair c.args.steps.now) none (pair_seen c.pair-item.result c.args.steps.now c.in_ok-found.found c.in_ok-found.ensures))
