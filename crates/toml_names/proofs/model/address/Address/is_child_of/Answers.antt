use Rattle.toml_names.proofs.Common.{length, sym, ap, ◌∙◌, arith}
use Rattle.toml_names.proofs.lemmas.model.Equal.{one_below}
use Rattle.toml_names.proofs.lemmas.mentions.PlacesFound.{above_is_above}
use Rattle.toml_names.proofs.model.address.Address.is_child_of.Goals as goal

pub returns-then-fronts-len : goal.returns-then-fronts-len
returns-then-fronts-len c = λ h.
    let own = ap length c.self.view_is in
    let above = ap length c.other.view_is in
    one_below c.args.other.now c.args.self.now ((above_is_above c.args.other.now c.args.self.now).0 (sym c.is_above.ensures ∙ h))
    (omega (arith, own, above, c.len.ensures, c.len-2.ensures, c.saturating_sub-fronts.ensures, c.if-fronts-len.true))
