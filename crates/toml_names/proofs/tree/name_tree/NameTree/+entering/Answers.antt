use Rattle.toml_names.proofs.Common.{◌≡◌, ℕ, true, ◌+◌, ◌∷◌, sym, ap, subst, map, length, arith, drop_all, err_from_is_err_and, piece, key, value, keyval, KeyVal, keyval_is, part_name, key_names, value_key_parts, keyval_key_parts, below, CanEnterKey, fronts, value_named, inside, pair_named, Valued, Clashes, EntersTo, address_at, kind, rules}
use Rattle.toml_tree.specs.View.{element}
use Rattle.toml_names.proofs.lemmas.tree.EnterSteps.{Clashes-front, KeepsElements-same, KeepsElements-then}
use Rattle.toml_names.proofs.lemmas.mentions.Inside.{elements_of, members_of, parts_of_elements, parts_of_members}
use Rattle.toml_names.proofs.lemmas.tree.ItemsEntered.{no_elements, entered-all}
use Rattle.toml_names.proofs.lemmas.tree.PairEntered.{pair-parts, own-clash, within-clash, EntersTo-pair}
use Rattle.toml_names.proofs.lemmas.tree.Steps.{GoesOn-same, GoesOn-then, GoesOnTo-begin, GoesOnTo-more, GoesOnTo-within, GoesOn-within, surely, refuses}
use Rattle.toml_names.proofs.lemmas.tree.ValueEntered.{parts-next_element, parts-next_pair, array-begin, array-parts, table-begin, table-parts, element-clash, element-more, pair-clash, pair-more}
use Rattle.toml_names.proofs.tree.name_tree.NameTree.+entering.Goals as goal

pub enter_inside-loop-item-init : goal.enter_inside-loop-item-init
enter_inside-loop-item-init t c = search (rules, array-begin, no_elements, GoesOnTo-begin, parts_of_elements, array-parts)

pub enter_inside-returns-in_err-enter_inside-in-Array : goal.enter_inside-returns-in_err-enter_inside-in-Array
enter_inside-returns-in_err-enter_inside-in-Array t c =
    let parts = parts-next_element c.deref-item-items.result.now c.loop-item.item-index c.item-item.result c.loop-item-test.true c.item-item.is in
    let before = c.loop-item.invariant.goes_on in
    refuses (GoesOn-then before.goes_on c.grow_item.ensures.goes_on before.done (omega arith)) c.in_err-enter_inside-in-Array.ensures
    (err_from_is_err_and c.from_residual-in_err-enter_inside-in-Array.result c.from_residual-in_err-enter_inside-in-Array.ensures.1) (let all = before.is in omega (arith, parts, all))
    (element-clash c.args.self.now.nodes.items c.loop-item.self.nodes.items c.grow_item.new.self.nodes.items c.args.id c.loop-item.item-index c.in_ok-element-in-Array.element c.args.line
    c.args.v.now c.deref-item-items.result.now c.item-item.result (kind c.kind_of-what.result) c.requires.there.within c.requires.lone c.loop-item-test.true c.item-item.is c.kind_of-what.ensures
    c.in_ok-element-in-Array.ensures.grown c.loop-item.invariant.entered c.loop-item.invariant.has)

pub enter_inside-loop-item-preserved : goal.enter_inside-loop-item-preserved
enter_inside-loop-item-preserved t c =
    let parts = parts-next_element c.deref-item-items.result.now c.loop-item.item-index c.item-item.result c.loop-item-test.true c.item-item.is in
    let more = element-more c.args.self.now.nodes.items c.loop-item.self.nodes.items c.grow_item.new.self.nodes.items c.args.id c.loop-item.item-index c.in_ok-element-in-Array.element c.args.line
    c.args.v.now c.deref-item-items.result.now c.item-item.result (kind c.kind_of-what.result) c.requires.there.within c.requires.lone c.loop-item-test.true c.item-item.is c.kind_of-what.ensures
    c.in_ok-element-in-Array.ensures.grown c.loop-item.invariant.entered c.loop-item.invariant.has
    c.enter_inside.new.self.nodes.items c.in_ok-enter_inside-in-Array.ensures.made in
    record {
      entered = more.0;
      has = more.1;
      goes_on = GoesOnTo-more c.loop-item.invariant.goes_on parts (GoesOn-then c.grow_item.ensures.goes_on c.enter_inside.ensures.goes_on (value_key_parts (value c.item-item.result.value)) (omega arith));
    }

pub enter_inside-returns-after-loop-item : goal.enter_inside-returns-after-loop-item
enter_inside-returns-after-loop-item t c =
    let at = address_at c.args.self.now.nodes.items c.args.id in
    let i = c.loop-item.item-index in
    record {
      made = record {
        enters = entered-all c.args.self.now.nodes.items c.loop-item.self.nodes.items _ _ c.loop-item.invariant.entered
            (ap (λ l. elements_of c.args.line at i (map element l)) (drop_all i c.deref-item-items.result.now c.loop-item-test.false));
        elements = c.loop-item.invariant.has.others;
      };
      clash = tt;
      goes_on = GoesOnTo-within c.loop-item.invariant.goes_on;
    }

pub enter_inside-loop-pair-init : goal.enter_inside-loop-pair-init
enter_inside-loop-pair-init t c = search (rules, table-begin, KeepsElements-same, GoesOnTo-begin, parts_of_members, table-parts)

pub enter_inside-returns-in_err-enter_pair-in-Inline : goal.enter_inside-returns-in_err-enter_pair-in-Inline
enter_inside-returns-in_err-enter_pair-in-Inline t c =
    let parts = parts-next_pair c.deref-pair-items.result.now c.loop-pair.pair-index c.pair-item.result c.loop-pair-test.true c.pair-item.is in
    let before = c.loop-pair.invariant.goes_on in
    refuses before.goes_on c.in_err-enter_pair-in-Inline.ensures
    (err_from_is_err_and c.from_residual-in_err-enter_pair-in-Inline.result c.from_residual-in_err-enter_pair-in-Inline.ensures.1) (let all = before.is in omega (arith, parts, all))
    (pair-clash c.args.self.now.nodes.items c.loop-pair.self.nodes.items c.args.id c.loop-pair.pair-index c.args.line c.args.v.now c.deref-pair-items.result.now c.pair-item.result
    c.requires.there.within c.loop-pair-test.true c.pair-item.is c.loop-pair.invariant.entered)

pub enter_inside-loop-pair-preserved : goal.enter_inside-loop-pair-preserved
enter_inside-loop-pair-preserved t c =
    let start = c.args.self.now.nodes.items in
    let now = c.loop-pair.self.nodes.items in
    let next = c.enter_pair.new.self.nodes.items in
    let entered = c.loop-pair.invariant.entered in
    let parts = parts-next_pair c.deref-pair-items.result.now c.loop-pair.pair-index c.pair-item.result c.loop-pair-test.true c.pair-item.is in
    let from = address_at now c.args.id in
    let pair = keyval c.pair-item.result.keyval in
    let made : (id : ℕ) × EntersTo now next (pair_named c.args.line from pair.assign pair.value) (below from (key_names pair.assign.key)) id = surely _ _ _ c.in_ok-enter_pair-in-Inline.ensures.made in
    record {
      entered = pair-more start now c.args.id c.loop-pair.pair-index c.args.line c.args.v.now c.deref-pair-items.result.now c.pair-item.result
          c.requires.there.within c.loop-pair-test.true c.pair-item.is entered next made.1.enters;
      kept = KeepsElements-then start now next entered.enters.kept.longer c.loop-pair.invariant.kept made.1.elements;
      goes_on = GoesOnTo-more c.loop-pair.invariant.goes_on parts c.enter_pair.ensures.goes_on;
    }

pub enter_inside-returns-after-loop-pair : goal.enter_inside-returns-after-loop-pair
enter_inside-returns-after-loop-pair t c = search (rules, entered-all, members_of, drop_all, GoesOnTo-within)

pub enter_pair-returns-in_err-here : goal.enter_pair-returns-in_err-here
enter_pair-returns-in_err-here t c =
    let start = c.args.self.now.nodes.items in
    let names = key_names (key c.args.pair.now.assign.key) in
    let at = address_at start c.args.at in
    let v = value c.args.pair.now.value in
    refuses (GoesOn-same c.args.self.now) c.in_err-here.ensures (err_from_is_err_and c.from_residual.result c.from_residual.ensures.1) (omega (arith, pair-parts c.args.pair.now)) (λ a clash.
    subst (λ (k : KeyVal). Clashes start (pair_named c.args.line at k.assign k.value) a) (sym (keyval_is c.args.pair.now))
    (Clashes-front (fronts c.args.line at names) (value_named c.args.line Valued (below at names) v ∷ inside c.args.line (below at names) v) a clash))

pub enter_pair-returns-in_err-id-in-Some : goal.enter_pair-returns-in_err-id-in-Some
enter_pair-returns-in_err-id-in-Some t c =
    let start = c.args.self.now.nodes.items in
    let names = key_names (key c.args.pair.now.assign.key) in
    let at = address_at start c.args.at in
    let parts = pair-parts c.args.pair.now in
    refuses c.enter_fronts.ensures.goes_on c.in_err-id-in-Some.ensures.enters (err_from_is_err_and c.from_residual-in_err-id-in-Some.result c.from_residual-in_err-id-in-Some.ensures.1) (omega (arith, parts)) (λ a clash.
    subst (λ (k : KeyVal). Clashes start (pair_named c.args.line at k.assign k.value) a) (sym (keyval_is c.args.pair.now))
    (own-clash start c.enter_fronts.new.self.nodes.items c.enter_valued.new.self.nodes.items c.in-Some.here c.args.line (part_name (piece c.in-Some.part))
    (kind c.kind_of.result) (value c.args.pair.now.value) at names (rw c.in-Some.is at c.in_ok-here.ensures.made) c.kind_of.ensures a clash))

pub enter_pair-returns-in_err-enter_inside-in-Some : goal.enter_pair-returns-in_err-enter_inside-in-Some
enter_pair-returns-in_err-enter_inside-in-Some t c =
    let start = c.args.self.now.nodes.items in
    let names = key_names (key c.args.pair.now.assign.key) in
    let at = address_at start c.args.at in
    refuses (GoesOn-then c.enter_fronts.ensures.goes_on c.enter_valued.ensures.enters.goes_on (length c.args.pair.now.assign.key.rest.items + 1) (omega arith)) c.in_err-enter_inside-in-Some.ensures
    (err_from_is_err_and c.from_residual-in_err-enter_inside-in-Some.result c.from_residual-in_err-enter_inside-in-Some.ensures.1) (omega (arith, pair-parts c.args.pair.now)) (λ a clash.
    subst (λ (k : KeyVal). Clashes start (pair_named c.args.line at k.assign k.value) a) (sym (keyval_is c.args.pair.now))
    (within-clash start c.enter_fronts.new.self.nodes.items c.enter_valued.new.self.nodes.items c.in-Some.here c.args.line (part_name (piece c.in-Some.part))
    (kind c.kind_of.result) (value c.args.pair.now.value) at names (rw c.in-Some.is at c.in_ok-here.ensures.made) c.kind_of.ensures
    c.in_ok-id-in-Some.id c.in_ok-id-in-Some.ensures.enters.made a clash))

pub enter_pair-returns-in_ok-enter_inside-in-Some : goal.enter_pair-returns-in_ok-enter_inside-in-Some
enter_pair-returns-in_ok-enter_inside-in-Some t c =
    let start = c.args.self.now.nodes.items in
    let last = c.enter_inside.new.self.nodes.items in
    let names = key_names (key c.args.pair.now.assign.key) in
    let at = address_at start c.args.at in
    let own = GoesOn-then c.enter_fronts.ensures.goes_on c.enter_valued.ensures.enters.goes_on (length c.args.pair.now.assign.key.rest.items + 1) (omega arith) in
    record {
      made = subst (λ (k : KeyVal). EntersTo start last (pair_named c.args.line at k.assign k.value) (below at (key_names k.assign.key)) c.in_ok-id-in-Some.id) (sym (keyval_is c.args.pair.now))
          (EntersTo-pair start c.enter_fronts.new.self.nodes.items c.enter_valued.new.self.nodes.items c.in-Some.here c.args.line (part_name (piece c.in-Some.part))
          (kind c.kind_of.result) (value c.args.pair.now.value) at names (rw c.in-Some.is at c.in_ok-here.ensures.made) c.kind_of.ensures
          c.in_ok-id-in-Some.id c.in_ok-id-in-Some.ensures.enters.made last c.in_ok-id-in-Some.ensures.lone.0 c.in_ok-enter_inside-in-Some.ensures.made);
      clash = tt;
      goes_on = GoesOn-then own c.enter_inside.ensures.goes_on (keyval_key_parts (keyval c.args.pair.now).assign (keyval c.args.pair.now).value) (omega (arith, pair-parts c.args.pair.now));
    }

pub enter_pair-returns-in-None : goal.enter_pair-returns-in-None
enter_pair-returns-in-None t c =
    record {
      made = subst (λ (k : KeyVal). (c.args.known ≡ true) × CanEnterKey c.args.self.now.nodes.items c.args.line (address_at c.args.self.now.nodes.items c.args.at) (key_names k.assign.key)) (sym (keyval_is c.args.pair.now))
          (rw c.in-None.is at c.in_ok-here.ensures.made);
      clash = tt;
      goes_on = GoesOn-within c.enter_fronts.ensures.goes_on (keyval_key_parts (keyval c.args.pair.now).assign (keyval c.args.pair.now).value) (omega (arith, pair-parts c.args.pair.now));
    }
