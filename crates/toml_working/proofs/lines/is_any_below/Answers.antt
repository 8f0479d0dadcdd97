use Rattle.std.proofs.Common.{◌∙◌, ◌||◌, ap, ap₂, sym}
use Rattle.std.proofs.lemmas.List.Folds.{list_any_at, list_any_more}
use Rattle.toml_working.specs.declared.lines.Line.{Line}
use Rattle.toml_working.specs.Seeing.{Found}
use Rattle.toml_working.specs.Standing.{lies_below}
use Rattle.toml_working.proofs.lines.is_any_below.Goals as goal

pub returns-then-is_below : goal.returns-then-is_below
returns-then-is_below c =
    let below = λ (l : Line). lies_below c.args.at.now l.address in
    let here = ap below (sym c.line-item.is) ∙ ap (λ (f : Found). lies_below c.args.at.now f.address) (sym c.seen.ensures) ∙ sym c.is_below.ensures ∙ c.if-is_below.true in
    sym (list_any_at below c.args.lines.now c.loop-line.line-index c.line-item.result c.loop-line-test.true here)

pub loop-line-preserved : goal.loop-line-preserved
loop-line-preserved c =
    let below = λ (l : Line). lies_below c.args.at.now l.address in
    let here = ap below (sym c.line-item.is) ∙ ap (λ (f : Found). lies_below c.args.at.now f.address) (sym c.seen.ensures) ∙ sym c.is_below.ensures ∙ c.if-is_below.false in
    list_any_more below c.args.lines.now c.loop-line.line-index c.line-item.result c.loop-line-test.true ∙ ap₂ (λ a b. a || b) c.loop-line.invariant here
