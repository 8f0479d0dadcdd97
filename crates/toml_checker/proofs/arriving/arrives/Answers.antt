use Rattle.std.proofs.Common.{refl, sym, ◌∙◌}
use Rattle.toml_edits.specs.Lists.{carried}
use Rattle.toml_checker.specs.EditLists.{changes}
use Rattle.toml_checker.proofs.CarriedSoFar.{arrived}
use Rattle.toml_checker.proofs.arriving.arrives.Goals as goal

pub returns-then-stays : goal.returns-then-stays
returns-then-stays c =
    let list = c.args.list.now in
    let from = c.args.from.now in
    arrived (carried (changes list) from) (carried (changes list) from) from c.args.to.now c.is_same.result refl (c.stays.ensures c.if-stays.true list from c.requires) c.is_same.ensures

pub returns-in-Some : goal.returns-in-Some
returns-in-Some c =
    let list = c.args.list.now in
    let from = c.args.from.now in
    arrived (carried (changes list) from) (carried (changes list) from) c.in-Some.at c.args.to.now c.is_same-in-Some.result refl (sym c.in_ok-at.ensures ∙ c.in-Some.is) c.is_same-in-Some.ensures
