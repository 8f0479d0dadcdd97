use Rattle.std.proofs.Common.{map}
use Rattle.toml_edits.specs.Edits.{change}
use Rattle.toml_checker.proofs.FindingLaws.{after_unmet}
use Rattle.toml_checker.proofs.Refused.{no_text}
use Rattle.toml_checker.proofs.finding.find_walked.Goals as goal

pub returns-in_default-clause-answer : goal.returns-in_default-clause-answer
returns-in_default-clause-answer c =
    after_unmet c.args.profile c.args.before.now c.args.after.now (map change c.args.edits.now) c.requires.document
    (no_text c.args.profile c.args.after.now c.in_default.field-0 c.in_default.ensures)

pub returns-clause-answer : goal.returns-clause-answer
returns-clause-answer c = c.find_from.ensures.answer

pub returns-clause-headline : goal.returns-clause-headline
returns-clause-headline c = c.find_from.ensures.headline
