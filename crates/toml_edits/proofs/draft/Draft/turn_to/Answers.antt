use Rattle.std.proofs.Common.{◌∙◌, ap, subst, sym}
use Rattle.std.proofs.lemmas.Result.{on_ok_weaker}
use Rattle.toml_edits.specs.Drafts.{IsReadyAt}
use Rattle.toml_edits.specs.Edits.{change, place}
use Rattle.toml_edits.proofs.OpenDrafts.{place_there, ready_closed, ready_turned}
use Rattle.toml_edits.proofs.draft.Draft.turn_to.Goals as goal

pub returns-in-Some-clause-ready : goal.returns-in-Some-clause-ready
returns-in-Some-clause-ready c =
    let e = c.in-Some.element in
    let of_it = c.in-Some.ensures in
    on_ok_weaker c.turn_to_element.result
    (λ turned. subst (IsReadyAt c.turn_to_element.new.self) (sym (ap place of_it.0 ∙ place_there e.at.now e.value)) (ready_turned c.turn_to_element.new.self e.array.now e.at.now e.index of_it.1 turned))
    c.turn_to_element.ensures.turned

pub returns-in-None-clause-ready : goal.returns-in-None-clause-ready
returns-in-None-clause-ready c =
    on_ok_weaker c.close.result (ready_closed c.close.new.self (place (change c.args.edit.now))) c.close.ensures.closed
