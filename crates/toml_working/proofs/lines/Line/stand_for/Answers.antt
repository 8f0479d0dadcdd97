use Rattle.std.proofs.Common.{◌∙◌, ap, subst}
use Rattle.toml_layout.specs.Emptying.{line_emptied}
use Rattle.toml_layout.specs.KnownLines.{lines_known}
use Rattle.toml_working.specs.Becoming.{BodyBecomes}
use Rattle.toml_working.specs.RemoveStanding.{parts_to}
use Rattle.toml_working.specs.Seeing.{Found}
use Rattle.toml_working.proofs.lines.Line.stand_for.Goals as goal

pub returns-clause-body : goal.returns-clause-body
returns-clause-body c =
    let parts = c.parts_to-parts.ensures ∙ ap (λ (f : Found). parts_to c.args.parent.now f.base) c.seen.ensures in
    subst (λ n. BodyBecomes c.args.texts (lines_known c.args.known.now) (line_emptied n) c.args.self.now.body c.cut.new.self.body) parts c.in_ok-cut.ensures.body
