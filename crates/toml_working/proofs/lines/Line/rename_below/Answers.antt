use Rattle.std.proofs.Common.{◌∙◌, ap, sym}
use Rattle.std.proofs.lemmas.Result.{IfOk-weaker}
use Rattle.toml_layout.specs.KnownLines.{lines_known}
use Rattle.toml_working.specs.Seeing.{Found}
use Rattle.toml_working.specs.Standing.{lies_below}
use Rattle.toml_working.proofs.Renamed.{below_renamed}
use Rattle.toml_working.proofs.lines.Line.rename_below.Goals as goal

pub returns-then-is_below : goal.returns-then-is_below
returns-then-is_below c =
    let r = c.args.renaming in
    let here = ap (λ (f : Found). lies_below r.at.now f.address) (sym c.seen.ensures) ∙ sym c.is_below.ensures ∙ c.if-is_below.true in
    IfOk-weaker c.rename.result _ _ (λ done becomes.
    below_renamed r.at.now r.name.now r.spelled.now c.args.texts (lines_known c.args.known.now) c.args.self.now c.rename.new.self here
    becomes) c.rename.ensures
