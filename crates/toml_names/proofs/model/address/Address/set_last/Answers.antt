use Rattle.toml_names.proofs.Common.{◌≡◌, ◌-◌, [], ◌∷◌, ◌++◌, length, length-append, slice_set, ap, ap₂, ◌∙◌, arith}
use Rattle.std.proofs.lemmas.Result.{on_ok_weaker}
use Rattle.toml_names.proofs.lemmas.model.Equal.{last_set}
use Rattle.toml_names.proofs.model.address.Address.set_last.Goals as goal

pub returns : goal.returns
returns c = λ q s is.
    let items = c.self.view_is ∙ is in
    let place : c.len-last.result - 1 ≡ length q = omega (arith, c.len-last.ensures, ap length items, length-append q (s ∷ [])) in
    on_ok_weaker c.set_to_name.result
    (λ named. ap₂ (λ xs i. slice_set xs i c.set_to_name.new.self) items place ∙ last_set q s c.set_to_name.new.self ∙ ap (λ t. q ++ t ∷ []) named)
    c.set_to_name.ensures
