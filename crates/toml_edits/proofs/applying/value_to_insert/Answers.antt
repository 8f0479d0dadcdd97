use Rattle.std.proofs.Common.{inr, None, Some, refl, sym, subst, true≢false}
use mathlib.Core.Path.{fun_ext}
use Rattle.toml_names.specs.model.Data.{Kinds, kind_at}
use Rattle.toml_edits.specs.Judged.{IsStepFault}
use Rattle.toml_edits.specs.Readings.{IsReading}
use Rattle.toml_edits.proofs.FirstRows.{insert_bad, insert_nowhere, insert_step, insert_room}
use Rattle.toml_edits.proofs.Found.{none_of}
use Rattle.toml_edits.proofs.OneReading.{one_if_not_bad}
use Rattle.toml_edits.proofs.Reaching.{refuted}
use Rattle.toml_edits.proofs.applying.value_to_insert.Goals as goal

pub returns-then-is_bad : goal.returns-then-is_bad
returns-then-is_bad c =
    inr (insert_bad c.args.profile c.args.at.now c.in-Some.above.now c.in-Some.last.now c.args.text.now (kind_at c.args.root.now) c.in-Some.ensures.cases.0 (subst (IsReading c.args.profile c.args.text.now) (c.is_bad.ensures.0 c.if-is_bad.true) c.in_ok-reading.ensures))

pub returns-in_default-part : goal.returns-in_default-part
returns-in_default-part c =
    inr (insert_nowhere c.args.profile c.args.at.now c.in-Some.above.now c.in-Some.last.now c.args.text.now (kind_at c.args.root.now) c.in-Some.ensures.cases.0
    (one_if_not_bad c.args.profile c.args.text.now c.in_ok-reading.reading c.in_ok-reading.ensures (refuted c.is_bad.ensures c.if-is_bad.false)) (none_of _ (λ some. true≢false (sym (c.in_default-part.ensures.found.1 some)))))

pub returns-in-Some-step_fault : goal.returns-in-Some-step_fault
returns-in-Some-step_fault c =
    inr (insert_step c.args.profile c.args.at.now c.in-Some.above.now c.in-Some.last.now c.args.text.now (kind_at c.args.root.now) c.in-Some-step_fault.fault c.in-Some.ensures.cases.0
    (one_if_not_bad c.args.profile c.args.text.now c.in_ok-reading.reading c.in_ok-reading.ensures (refuted c.is_bad.ensures c.if-is_bad.false))
    (c.in-Some-part.ensures.found.0 refl) (subst (λ (f : Kinds). IsStepFault c.in-Some.last.now f (Some c.in-Some-step_fault.fault)) (fun_ext c.in-Some-part.ensures.part) c.in-Some-step_fault.ensures))

pub returns : goal.returns
returns c =
    insert_room c.args.profile c.args.at.now c.in-Some.above.now c.in-Some.last.now c.args.text.now (kind_at c.args.root.now) c.fitting.result c.in-Some.ensures.cases.0
    (one_if_not_bad c.args.profile c.args.text.now c.in_ok-reading.reading c.in_ok-reading.ensures (refuted c.is_bad.ensures c.if-is_bad.false))
    (c.in-Some-part.ensures.found.0 refl) (subst (λ (f : Kinds). IsStepFault c.in-Some.last.now f None) (fun_ext c.in-Some-part.ensures.part) c.in_default-step_fault.ensures) (c.fitting.ensures c.args.profile c.args.text.now c.in_ok-reading.ensures)
