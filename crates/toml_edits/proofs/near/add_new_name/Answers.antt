use Rattle.std.proofs.Common.{[], ◌∷◌, ◌++◌, ap, sym, ◌∙◌}
use Rattle.std.proofs.lemmas.Result.{on_ok_weaker}
use Rattle.toml_names.specs.model.AddressSets.{is_hidden}
use Rattle.toml_edits.proofs.NearAddresses.{name_opened}
use Rattle.toml_edits.proofs.near.add_new_name.Goals as goal

pub returns-in-Some-Name-default : goal.returns-in-Some-Name-default
returns-in-Some-Name-default c =
    let w = c.in-Some-Name-default in
    let is = sym c.steps.ensures ∙ w.ensures.cases.0 ∙ ap (λ s. w.parent.now ++ s ∷ []) w.field-0-0-is in
    on_ok_weaker c.add_child.result (name_opened c.args.at.now w.parent.now w.field-0-0-0 c.args.to.now (is_hidden c.args.set.now) (is_hidden c.add_child.new.set) is) c.add_child.ensures
