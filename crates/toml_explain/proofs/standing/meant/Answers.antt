use Rattle.std.proofs.Common.{◌≡◌, Some, sym, ap, ◌∙◌, subst, List, ℕ, Bor}
use Rattle.std.proofs.lemmas.Option.{slice_get-get_or}
use Rattle.std.specs.Prelude.{IfSome, slice_get}
use Rattle.toml_explain.specs.Standing.{IsMeant, IsNearest}
use Rattle.toml_explain.proofs.Fronts.{is_meant, some_holds}
use Rattle.toml_explain.proofs.standing.meant.Goals as goal

pub returns-in-Some : goal.returns-in-Some
returns-in-Some c =
    let steps = c.args.steps.now in
    let members = c.in_ok-members.members.items in
    let l = c.in-Some-Name.ensures.lookup in
    let there : slice_get steps c.args.front.depth ≡ Some c.in-Some-Name.field-0.now = slice_get-get_or steps c.args.front.depth c.in-Some-Name.field-0.now l.3.0 ∙ ap Some (sym l.1) in
    let found : IsNearest members c.as_str.result.now c.in-Some.near = subst (λ m. IsNearest m c.as_str.result.now c.in-Some.near) c.deref.ensures.value (some_holds _ _ _ c.in-Some.is c.in_ok-near.ensures) in
    let near : IsNearest members c.in-Some-Name.name c.in-Some.near = subst (λ (n : List ℕ). IsNearest members n c.in-Some.near) c.as_str.ensures found in
    is_meant c.args.names.now c.args.front steps members c.in_ok-members.ensures c.in-Some-Name.name (there ∙ ap Some c.in-Some-Name.field-0-is) c.in-Some.near near c.in_ok-spelled-in-Some.field-0 c.in_ok-spelled-in-Some.ensures
