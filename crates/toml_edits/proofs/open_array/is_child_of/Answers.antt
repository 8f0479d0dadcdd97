use Rattle.std.proofs.Common.{◌∙◌, [], ap, arith, length, sym}
use Rattle.toml_names.proofs.Proved.{above_is_above}
use Rattle.toml_edits.proofs.OpenDrafts.{one_below}
use Rattle.toml_edits.proofs.open_array.is_child_of.Goals as goal

pub returns-then-fronts-steps : goal.returns-then-fronts-steps
returns-then-fronts-steps c =
    let own = ap length c.steps.ensures in
    let other = ap length c.steps-2.ensures in
    let above = above_is_above c.args.above.now c.args.at.now in (
      λ h. one_below c.args.above.now c.args.at.now (above.0 (sym c.is_above.ensures ∙ h)) (omega (arith, own, other, c.saturating_sub-fronts.ensures, c.if-fronts-steps.true)),
      λ w. c.is_above.ensures ∙ above.1 (w.0, [], w.1),
    )
