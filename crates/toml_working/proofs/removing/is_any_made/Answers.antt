use Rattle.std.proofs.Common.{◌∙◌, ◌||◌, ap, ap₂, sym}
use Rattle.std.proofs.lemmas.List.Folds.{list_any_at, list_any_more}
use Rattle.toml_working.specs.declared.lines.Line.{Line}
use Rattle.toml_working.specs.RemoveStanding.{makes_apart}
use Rattle.toml_working.specs.Seeing.{Found}
use Rattle.toml_working.proofs.removing.is_any_made.Goals as goal

pub returns-then-makes_beside : goal.returns-then-makes_beside
returns-then-makes_beside c =
    let q = c.args.address.now in
    let p = c.args.other.now in
    let makes = λ (l : Line). makes_apart q p l.base l.address in
    let here = ap makes (sym c.line-item.is) ∙ ap (λ (f : Found). makes_apart q p f.base f.address) (sym c.seen.ensures) ∙ sym c.makes_beside.ensures ∙ c.if-makes_beside.true in
    sym (list_any_at makes c.args.lines.now c.loop-line.line-index c.line-item.result c.loop-line-test.true here)

pub loop-line-preserved : goal.loop-line-preserved
loop-line-preserved c =
    let q = c.args.address.now in
    let p = c.args.other.now in
    let makes = λ (l : Line). makes_apart q p l.base l.address in
    let here = ap makes (sym c.line-item.is) ∙ ap (λ (f : Found). makes_apart q p f.base f.address) (sym c.seen.ensures) ∙ sym c.makes_beside.ensures ∙ c.if-makes_beside.false in
    list_any_more makes c.args.lines.now c.loop-line.line-index c.line-item.result c.loop-line-test.true ∙ ap₂ (λ a b. a || b) c.loop-line.invariant here
