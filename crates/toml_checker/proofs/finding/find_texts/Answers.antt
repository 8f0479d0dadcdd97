use Rattle.std.proofs.Common.{[], map, subst}
use Rattle.toml_text.specs.Limit.{IsText}
use Rattle.toml_edits.specs.Edits.{change}
use Rattle.toml_units.specs.Cursors.{Walks}
use Rattle.toml_checker.specs.Judging.{IsRefusal}
use Rattle.toml_checker.proofs.FindingLaws.{before_unmet, refusal_unmet}
use Rattle.toml_checker.proofs.Refused.{no_text}
use Rattle.toml_checker.proofs.finding.find_texts.Goals as goal

pub returns-in_default-clause-answer : goal.returns-in_default-clause-answer
returns-in_default-clause-answer c = before_unmet c.args.profile c.args.before.now c.args.after.now (map change c.args.edits.now) (no_text c.args.profile c.args.before.now c.in_default.field-0 c.in_default.ensures)

pub returns-in_default-new-clause-answer : goal.returns-in_default-new-clause-answer
returns-in_default-new-clause-answer c =
    refusal_unmet c.args.profile c.args.before.now c.args.after.now (map change c.args.edits.now) c.in_ok-refuse.field-0 (no_text c.args.profile c.args.after.now c.in_default-new.field-0 c.in_default-new.ensures)
    (subst (λ t. IsRefusal c.args.profile t c.in_ok-refuse.field-0) c.in-Ok.ensures.0 c.in_ok-refuse.ensures)

pub find_from-requires-clause-walks : goal.find_from-requires-clause-walks
find_from-requires-clause-walks c = subst (λ t. Walks c.args.profile t c.in_ok-cursor.cursor []) c.in-Ok.ensures.0 c.in_ok-cursor.ensures

pub find_from-requires-clause-fits : goal.find_from-requires-clause-fits
find_from-requires-clause-fits c = subst IsText c.in-Ok.ensures.0 c.in-Ok.source.is_text

pub returns-clause-answer : goal.returns-clause-answer
returns-clause-answer c = c.find_from.ensures.answer

pub returns-clause-headline : goal.returns-clause-headline
returns-clause-headline c = c.find_from.ensures.headline
