use Rattle.std.proofs.Common.{rules, Some, refl, sym}
use Rattle.std.proofs.lemmas.Map.Text.{btree_map_updates_text}
use Rattle.toml_edits.proofs.Entering.{element_entered, element_put, opened_entered}
use Rattle.toml_edits.proofs.Telling.{if_told}
use Rattle.toml_edits.proofs.moves.+enter.Goals as goal

pub enter_name-returns-in-Some : goal.enter_name-returns-in-Some
enter_name-returns-in-Some t c =
    if_told c.enter.result (λ entered. opened_entered c.args.act c.args.rest.now c.args.name.now c.args.names.now c.open_name.new.names (c.get_mut.follows.lender c.enter.new.tree) c.in-Some.tree.now c.enter.new.tree c.in_ok-open_name.ensures
    (sym c.in-Some.ensures.value)
    (λ m. btree_map_updates_text c.args.name.now c.open_name.new.names (c.get_mut.follows.lender c.enter.new.tree) (Some c.enter.new.tree) ((c.get_mut.follows.holds c.enter.new.tree).3 (search rules)) m)
    entered) c.enter.ensures

pub enter_element-returns-in-Some : goal.enter_element-returns-in-Some
enter_element-returns-in-Some t c =
    if_told c.enter.result (λ entered. element_entered c.args.act c.args.rest.now c.args.to c.args.elements.now c.open_element.new.elements (c.get_mut.follows.lender c.enter.new.tree) c.in-Some.tree.now c.enter.new.tree c.in_ok-open_element.ensures
    (sym c.in-Some.ensures.value)
    (λ g. element_put c.open_element.new.elements c.open_element.new.elements (c.get_mut.follows.lender c.enter.new.tree) c.args.to c.enter.new.tree refl (λ j. ((c.get_mut.follows.holds c.enter.new.tree).3 (search rules)).0 j) g)
    entered) c.enter.ensures
