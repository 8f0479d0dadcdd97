use Rattle.std.proofs.Common.{[], ℕ, List, map, subst}
use Rattle.std.specs.Prelude.{IfOk}
use Rattle.toml_text.specs.Limit.{IsText}
use Rattle.toml_units.specs.Cursors.{Walks}
use Rattle.toml_edits.specs.Edits.{Change, change}
use Rattle.toml_checker.specs.Judging.{IsRefusal}
use Rattle.toml_checker.specs.Demands.{IsVerdict}
use Rattle.toml_checker.specs.Headline.{YesMeans}
use Rattle.toml_checker.proofs.Asked.{none_below}
use Rattle.toml_checker.proofs.Refused.{no_text, refusal_told}
use Rattle.toml_checker.proofs.judging.check_texts.Goals as goal

pub returns-in_default-clause-verdict : goal.returns-in_default-clause-verdict
returns-in_default-clause-verdict c = (
  no_text c.args.profile c.args.before.now c.in_default.field-0 c.in_default.ensures,
  none_below c.args.profile c.args.before.now c.args.after.now (map change c.args.edits.now) c.args.certificate.now.pairs.items,
)

pub returns-in_default-new-clause-verdict : goal.returns-in_default-new-clause-verdict
returns-in_default-new-clause-verdict c =
    refusal_told c.args.profile c.args.before.now c.args.after.now (map change c.args.edits.now) c.args.certificate.now.pairs.items c.in_ok-refuse.field-0
    (subst (λ t. IsRefusal c.args.profile t c.in_ok-refuse.field-0) c.in-Ok.ensures.0 c.in_ok-refuse.ensures) (no_text c.args.profile c.args.after.now c.in_default-new.field-0 c.in_default-new.ensures)

pub judge_from-requires-clause-walks : goal.judge_from-requires-clause-walks
judge_from-requires-clause-walks c = subst (λ t. Walks c.args.profile t c.in_ok-cursor.cursor []) c.in-Ok.ensures.0 c.in_ok-cursor.ensures

pub judge_from-requires-clause-fits : goal.judge_from-requires-clause-fits
judge_from-requires-clause-fits c = subst IsText c.in-Ok.ensures.0 c.in-Ok.source.is_text

pub returns-clause-verdict : goal.returns-clause-verdict
returns-clause-verdict c =
    let cs : List Change = map change c.args.edits.now in
    subst (λ (ps : List (ℕ × ℕ)). IfOk c.judge_from.result (IsVerdict c.args.profile c.args.before.now cs c.args.after.now ps)) c.deref.ensures.value c.judge_from.ensures.verdict

pub returns-clause-headline : goal.returns-clause-headline
returns-clause-headline c =
    let cs : List Change = map change c.args.edits.now in
    subst (λ (ps : List (ℕ × ℕ)). IfOk c.judge_from.result (YesMeans c.args.profile c.args.before.now cs c.args.after.now ps)) c.deref.ensures.value c.judge_from.ensures.headline
