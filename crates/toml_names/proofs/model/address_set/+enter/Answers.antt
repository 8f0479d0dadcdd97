use Rattle.toml_names.proofs.Common.{rules, ◌≡◌, Some, None, [], cond, bytes_eq, ◌==◌, ap, ◌∙◌, sym, btree_map_updates_text, Name, Index}
use Rattle.std.proofs.lemmas.Result.{on_ok_weaker}
use Rattle.toml_names.specs.declared.model.address_set.AddressSet.{the_lemmas}
use Rattle.toml_names.proofs.lemmas.model.AddressSets.{fresh_less, name_added, element_added, names_still, elements_still, name_entered, whole_less, no_last, some_last, whole_still}
use Rattle.toml_names.proofs.lemmas.model.ReachedMore.{element_put_in, fresh_reaches, name_put, name_reached}
use Rattle.toml_names.proofs.model.address_set.+enter.Goals as goal

pub enter_name-returns-in-Some-clause-hides : goal.enter_name-returns-in-Some-clause-hides
enter_name-returns-in-Some-clause-hides t c =
    on_ok_weaker c.enter.result (λ less all. name_added c.args.names.now (c.get_mut.follows.lender c.enter.new.set) c.args.name.now (Some c.in-Some.below.now) c.enter.new.set _ (sym c.in-Some.ensures.value)
    (λ m. btree_map_updates_text c.args.name.now c.args.names.now (c.get_mut.follows.lender c.enter.new.set) (Some c.enter.new.set) ((c.get_mut.follows.holds c.enter.new.set).3 (search rules)) m)
    (less all)) c.enter.ensures.hides

pub enter_name-returns-in-Some-clause-reaches : goal.enter_name-returns-in-Some-clause-reaches
enter_name-returns-in-Some-clause-reaches t c =
    on_ok_weaker c.enter.result (λ more. name_put c.args.names.now (c.get_mut.follows.lender c.enter.new.set) c.args.name.now (Some c.in-Some.below.now) c.enter.new.set c.args.whole _ (sym c.in-Some.ensures.value)
    (λ m. btree_map_updates_text c.args.name.now c.args.names.now (c.get_mut.follows.lender c.enter.new.set) (Some c.enter.new.set) ((c.get_mut.follows.holds c.enter.new.set).3 (search rules)) m)
    more) c.enter.ensures.reaches

pub enter_name-returns-clause-hides : goal.enter_name-returns-clause-hides
enter_name-returns-clause-hides t c =
    let same : c.get_mut.follows.lender-at-none.entries ≡ c.args.names.now.entries = search rules in
    λ all. name_added c.args.names.now c.put_name.new.names c.args.name.now None c.enter-2.new.set _ (search rules)
    (λ m. c.in_ok-put_name.ensures m ∙ ap (cond (bytes_eq c.args.name.now m) (Some c.enter-2.new.set)) (names_still c.args.names.now c.get_mut.follows.lender-at-none same m))
    (fresh_less c.enter-2.new.set c.new-below.result (Name c.args.name.now) _ c.new-below.ensures.hides (c.in_ok-enter.ensures.hides all))

pub enter_name-returns-clause-reaches : goal.enter_name-returns-clause-reaches
enter_name-returns-clause-reaches t c =
    let same : c.get_mut.follows.lender-at-none.entries ≡ c.args.names.now.entries = search rules in
    name_put c.args.names.now c.put_name.new.names c.args.name.now None c.enter-2.new.set c.args.whole _ (search rules)
    (λ m. c.in_ok-put_name.ensures m ∙ ap (cond (bytes_eq c.args.name.now m) (Some c.enter-2.new.set)) (names_still c.args.names.now c.get_mut.follows.lender-at-none same m))
    (fresh_reaches c.new-below.result c.enter-2.new.set c.args.whole _ c.new-below.ensures.reaches c.in_ok-enter.ensures.reaches)

pub enter_element-returns-clause-hides : goal.enter_element-returns-clause-hides
enter_element-returns-clause-hides t c =
    let same : c.get_mut.follows.lender-at-none.entries ≡ c.args.elements.now.entries = search rules in
    λ all. element_added c.args.elements.now c.put_element.new.elements c.args.index None c.enter-2.new.set _ (search rules)
    (λ j. c.in_ok-put_element.ensures j ∙ ap (cond (c.args.index == j) (Some c.enter-2.new.set)) (elements_still c.args.elements.now c.get_mut.follows.lender-at-none same j))
    (fresh_less c.enter-2.new.set c.new-below.result (Index c.args.index) _ c.new-below.ensures.hides (c.in_ok-enter.ensures.hides all))

pub enter_element-returns-clause-reaches : goal.enter_element-returns-clause-reaches
enter_element-returns-clause-reaches t c =
    let same : c.get_mut.follows.lender-at-none.entries ≡ c.args.elements.now.entries = search rules in
    element_put_in c.args.elements.now c.put_element.new.elements c.args.index None c.enter-2.new.set c.args.whole _ (search rules)
    (λ j. c.in_ok-put_element.ensures j ∙ ap (cond (c.args.index == j) (Some c.enter-2.new.set)) (elements_still c.args.elements.now c.get_mut.follows.lender-at-none same j))
    (fresh_reaches c.new-below.result c.enter-2.new.set c.args.whole _ c.new-below.ensures.reaches c.in_ok-enter.ensures.reaches)

pub enter_last-returns-in-Some-clause-hides : goal.enter_last-returns-in-Some-clause-hides
enter_last-returns-in-Some-clause-hides t c =
    on_ok_weaker c.enter_name.result (λ adds all. name_entered c.args.set.now c.enter_name.new.names c.in-Some.name.now [] _ (adds all) (some_last _ _ c.in-Some.is)) c.enter_name.ensures.hides

pub enter_last-returns-in-Some-clause-reaches : goal.enter_last-returns-in-Some-clause-reaches
enter_last-returns-in-Some-clause-reaches t c =
    on_ok_weaker c.enter_name.result (λ adds. name_reached c.args.set.now c.enter_name.new.names c.in-Some.name.now c.args.whole [] _ adds (some_last _ _ c.in-Some.is)) c.enter_name.ensures.reaches

pub enter-returns-then-set-clause-hides : goal.enter-returns-then-set-clause-hides
enter-returns-then-set-clause-hides t c = λ all. whole_still c.args.set.now _ c.if-set.true

pub enter_last-returns-then-whole-clause-hides : goal.enter_last-returns-then-whole-clause-hides
enter_last-returns-then-whole-clause-hides t c = λ all. whole_less c.args.set.now _ _ (search (rules, the_lemmas)) (no_last _ c.in-None.is)
