use Rattle.std.proofs.Common.{◌∙◌, ap, refl, drop}
use Rattle.std.proofs.lemmas.Result.{IfOk-weaker}
use Rattle.toml_layout.specs.KnownLines.{lines_known}
use Rattle.toml_working.specs.Seeing.{Found, steps_to}
use Rattle.toml_working.proofs.Changed.{line_changed}
use Rattle.toml_working.proofs.lines.Line.change.Goals as goal

pub returns : goal.returns
returns c =
    let p = c.args.at.now in
    let left = c.below.ensures ∙ ap (λ n. drop n p) (c.steps-used.ensures ∙ ap (λ (f : Found). steps_to f.address) c.seen.ensures) in
    IfOk-weaker c.change.result _ _ (λ done changed.
    line_changed c.args.texts (lines_known c.args.known.now) p c.below.result.now c.args.change c.args.self.now c.open.new.self _ done
    c.in_ok-open.ensures.address c.in_ok-open.ensures.base c.in_ok-open.ensures.opened refl refl left changed) c.change.ensures
