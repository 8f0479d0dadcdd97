use Rattle.std.proofs.Common.{[], ◌∷◌, ◌++◌, length, ap, sym, ◌∙◌}
use Rattle.std.proofs.lemmas.Result.{on_ok_weaker}
use Rattle.toml_names.specs.model.AddressSets.{is_hidden}
use Rattle.toml_edits.proofs.NearAddresses.{array_opened, member_opened, root_opened}
use Rattle.toml_edits.proofs.near.add_shifted.Goals as goal

pub returns-in-Some-Index-default : goal.returns-in-Some-Index-default
returns-in-Some-Index-default c =
    let w = c.in-Some-Index-default in
    let is = sym c.steps.ensures ∙ w.ensures.cases.0 ∙ ap (λ s. w.parent.now ++ s ∷ []) w.field-0-0-is in
    on_ok_weaker c.add.result (array_opened c.args.at.now w.parent.now c.cut.result.now w.field-0-0-0 (is_hidden c.args.set.now) (is_hidden c.add.new.self) is c.cut.ensures) c.add.ensures.hides

pub returns-in-Some-Name-default : goal.returns-in-Some-Name-default
returns-in-Some-Name-default c =
    let w = c.in-Some-Name-default in
    let is = sym c.steps.ensures ∙ w.ensures.cases.0 ∙ ap (λ s. w.field-0-1.now ++ s ∷ []) w.field-0-0-is in
    on_ok_weaker c.add_place.result (member_opened c.args.at.now w.field-0-1.now w.field-0-0-0 (is_hidden c.args.set.now) (is_hidden c.add_place.new.set) is) c.add_place.ensures

pub returns-in-None : goal.returns-in-None
returns-in-None c =
    on_ok_weaker c.add_place-in-None.result (root_opened c.args.at.now (is_hidden c.args.set.now) (is_hidden c.add_place-in-None.new.set) (ap length (sym c.steps.ensures) ∙ c.in-None.ensures.cases)) c.add_place-in-None.ensures
