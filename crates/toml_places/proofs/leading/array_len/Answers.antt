use Rattle.std.proofs.Common.{◌∙◌, sym, ap, subst, length, Some}
use Rattle.toml_places.specs.Leading.{IsArrayOf}
use Rattle.toml_places.specs.Parts.{kinds_in}
use Rattle.toml_places.proofs.Parts.{array_length}
use Rattle.toml_places.proofs.leading.array_len.Goals as goal

pub returns : goal.returns
returns c =
    let parts = c.args.names.now in
    let here = c.in_ok-shape.ensures ∙ ap Some (c.is_array.ensures.0 c.if-not-is_array.false) in
    subst (λ o. IsArrayOf (kinds_in parts o) (length c.items.result.now)) (sym c.in-Some.is) (array_length parts c.in-Some.id c.items.result.now c.items.ensures here)
