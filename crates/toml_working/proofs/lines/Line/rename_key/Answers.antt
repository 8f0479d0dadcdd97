use Rattle.std.proofs.Common.{◌∙◌, ap, sym, subst, Option, ℕ}
use Rattle.std.specs.Prelude.{OnOk}
use Rattle.toml_layout.specs.KnownLines.{lines_known}
use Rattle.toml_working.specs.Becoming.{BodyBecomes}
use Rattle.toml_layout.specs.RenamedPairs.{line_part_with}
use Rattle.toml_working.specs.RenameStanding.{part_number}
use Rattle.toml_working.specs.Seeing.{Found}
use Rattle.toml_working.proofs.lines.Line.rename_key.Goals as goal

pub returns-in-Some-clause-body : goal.returns-in-Some-clause-body
returns-in-Some-clause-body c =
    let number = sym c.in-Some.is ∙ c.part_of.ensures ∙ ap (λ (f : Found). part_number c.args.at.now f.base) c.seen.ensures in
    subst (λ (o : Option ℕ). OnOk c.set_part.result (BodyBecomes c.args.texts (lines_known c.args.known.now) (line_part_with o c.args.spelled.now) c.args.self.now.body c.set_part.new.self.body))
    number c.set_part.ensures.body
