use Rattle.std.proofs.Common.{◌∙◌, ap, sym}
use Rattle.std.proofs.lemmas.Result.{IfOk-weaker}
use Rattle.toml_layout.specs.KnownLines.{lines_known}
use Rattle.toml_working.specs.Seeing.{Found}
use Rattle.toml_working.specs.Standing.{lies_below}
use Rattle.toml_working.proofs.Removed.{below_leaves}
use Rattle.toml_working.proofs.taking.left_of.Goals as goal

pub returns-then-is_below-clause-left : goal.returns-then-is_below-clause-left
returns-then-is_below-clause-left c =
    let below = ap (λ (f : Found). lies_below c.args.at.now f.address) (sym c.seen.ensures) ∙ sym c.is_below.ensures ∙ c.if-is_below.true in
    IfOk-weaker c.removed.result _ _ (λ left leaves.
    below_leaves c.args.texts (lines_known c.args.known.now) c.args.at.now c.args.parent.now.address c.args.parent.now.stays c.removed.new.parent.stays
    c.args.line left below leaves) c.removed.ensures.left
