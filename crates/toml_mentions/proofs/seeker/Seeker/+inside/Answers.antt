use Rattle.std.proofs.Common.{◌≡◌, ◌≢◌, ◌≤◌, ◌+◌, false, arith, length, take, ℕ, Some, None, map, get_or, refl, sym, ap, ◌∙◌, subst, [], ◌∷◌, ne_eqb}
use Rattle.std.proofs.lemmas.List.{length-map, take_all}
use Rattle.std.proofs.lemmas.Result.{on_ok_weaker}
use Rattle.std.specs.List.{flat_map}
use Rattle.toml_tree.specs.declared.tree.Value.TheViews.{out-Array, out-InlineTable}
use Rattle.toml_tree.specs.View.{array_items, element as item_element, key, keyval, member, value}
use Rattle.toml_names.specs.declared.model.address.Step.TheVariants.{Index}
use Rattle.toml_names.specs.model.Addresses.{element, same_step}
use Rattle.toml_names.proofs.Proved.{same_step-self}
use Rattle.toml_mentions.specs.Sought.{IsKeySeen, Sees, element_parts, inside_parts, key_end, sights, way_to}
use Rattle.toml_mentions.proofs.Insides.{all_elements_off, array_parts, element_seen, no_element, items_are, keyval_off, keyval_seen, member_seen, of_member, table_pairs_are}
use Rattle.toml_mentions.proofs.Sights.{sees_none}
use Rattle.toml_mentions.proofs.Ways.{step_end, step_off, step_on}
use Rattle.toml_mentions.proofs.seeker.Seeker.+inside.Goals as goal

pub items-returns-then-depth-self : goal.items-returns-then-depth-self
items-returns-then-depth-self t c = λ at end h.
    let s = c.args.self.now in
    let target = s.target.now in
    let es = map item_element c.args.items.now in
    let none = ap (sights target) (items_are at es end) ∙ all_elements_off target at (λ j. step_end target at (Index j) c.args.depth h (omega arith)) 0 es in
    subst (Sees s s) (sym none) (sees_none s)

pub items-returns-in_default : goal.items-returns-in_default
items-returns-in_default t c = λ at end h.
    let s = c.args.self.now in
    let target = s.target.now in
    let es = map item_element c.args.items.now in
    let x = c.index-self-depth.result in
    let none = ap (sights target) (items_are at es end)
    ∙ all_elements_off target at (λ j. step_off target at (Index j) c.args.depth h x (omega arith) c.index-self-depth.is (ap (same_step (Index j)) (c.index-self-depth.is ∙ c.in_default.is))) 0 es in
    subst (Sees s s) (sym none) (sees_none s)

pub items-returns-then-number-items : goal.items-returns-then-number-items
items-returns-then-number-items t c = λ at end h.
    let s = c.args.self.now in
    let target = s.target.now in
    let es = map item_element c.args.items.now in
    let k = c.in-Index.index in
    let x = c.index-self-depth.result in
    let others : (j : ℕ) → ¬ (j ≡ k) → None ≡ way_to target (element at j) =
    λ j other. step_off target at (Index j) c.args.depth h x (omega arith) c.index-self-depth.is (ap (same_step (Index j)) (c.index-self-depth.is ∙ c.in-Index.is) ∙ ne_eqb j k other) in
    let past : length es ≤ k = omega (arith, length-map c.args.items.now item_element, c.if-number-items.true) in
    let none = ap (sights target) (items_are at es end) ∙ no_element target at k others es past in
    subst (Sees s s) (sym none) (sees_none s)

pub items-returns : goal.items-returns
items-returns t c = λ at end h.
    let s = c.args.self.now in
    let target = s.target.now in
    let k = c.in-Index.index in
    let x = c.index-self-depth.result in
    let x_is = c.index-self-depth.is ∙ c.in-Index.is in
    let others : (j : ℕ) → ¬ (j ≡ k) → None ≡ way_to target (element at j) =
    λ j other. step_off target at (Index j) c.args.depth h x (omega arith) c.index-self-depth.is (ap (same_step (Index j)) x_is ∙ ne_eqb j k other) in
    let here : Some (c.args.depth + 1) ≡ way_to target (element at k) =
    step_on target at (Index k) c.args.depth h x (omega arith) c.index-self-depth.is (ap (same_step (Index k)) x_is ∙ same_step-self (Index k)) in
    let first = c.see_element.ensures in
    on_ok_weaker c.value.result
    (element_seen s c.see_element.new.self c.value.new.self at c.args.items.now end k c.index-items-number.result others c.if-number-items.false c.index-items-number.is first)
    (c.value.ensures (element at k) (here ∙ ap (λ o. way_to o.now (element at k)) (sym first.target)))

pub keyval-returns-in-Some : goal.keyval-returns-in-Some
keyval-returns-in-Some t c = λ at h.
    let k = c.args.pair.now in
    let q = key k.assign.key in
    let seen = c.in_ok-depth.ensures at h in
    let there = sym c.in-Some.is ∙ (seen.is ∙ ap (λ o. way_to o.now (key_end at q.first q.rest)) (sym seen.sees.target)) in
    on_ok_weaker c.value.result (keyval_seen c.args.self.now c.key.new.self c.value.new.self at k c.in_ok-depth.field-0 seen) (c.value.ensures (key_end at q.first q.rest) there)

pub keyval-returns-in-None : goal.keyval-returns-in-None
keyval-returns-in-None t c = λ at h.
    let k = c.args.pair.now in
    keyval_off c.args.self.now c.key.new.self at k (subst (IsKeySeen c.args.self.now c.key.new.self at (key k.assign.key)) c.in-None.is (c.in_ok-depth.ensures at h))

pub value-loop-pair-preserved : goal.value-loop-pair-preserved
value-loop-pair-preserved t c = λ at h.
    let before = c.loop-pair.invariant at h in
    member_seen c.args.self.now c.loop-pair.self c.keyval.new.self at c.deref-pair-items.result.now c.loop-pair.pair-index c.pair-item.result c.loop-pair-test.true c.pair-item.is before
    (c.in_ok-keyval-in-Inline.ensures at (h ∙ ap (λ o. way_to o.now at) (sym before.target)))

pub value-returns-in-Array : goal.value-returns-in-Array
value-returns-in-Array t c = λ at h.
    let b = c.in-Array.array in
    let items_are = c.deref-in-Array.ensures.value ∙ ap (λ a. (out-Array a).items.items) c.deref.ensures in
    let parts = array_parts at b c.args.node.now c.deref-in-Array.result.now c.in-Array.is items_are in
    on_ok_weaker c.items.result (subst (λ l. Sees c.args.self.now c.items.new.self (sights c.args.self.now.target.now l)) (sym parts)) (c.items.ensures at (out-Array b.value).end h)

pub value-returns-after-loop-pair : goal.value-returns-after-loop-pair
value-returns-after-loop-pair t c = λ at h.
    let pairs = c.deref-pair-items.result.now in
    let pairs_are = c.deref-pair-items.ensures.value ∙ ap (λ t. (out-InlineTable t).pairs.items) c.deref-in-Inline.ensures in
    let parts = table_pairs_are at c.in-Inline.table c.args.node.now pairs c.in-Inline.is pairs_are in
    let past : length (map member pairs) ≤ c.loop-pair.pair-index = omega (arith, length-map pairs member, c.loop-pair-test.false) in
    let whole : take c.loop-pair.pair-index (map member pairs) ≡ map member pairs = take_all c.loop-pair.pair-index (map member pairs) past in
    subst (λ l. Sees c.args.self.now c.loop-pair.self (sights c.args.self.now.target.now l)) (ap (flat_map (of_member at)) whole ∙ sym parts) (c.loop-pair.invariant at h)
