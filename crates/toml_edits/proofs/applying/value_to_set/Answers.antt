use Rattle.std.proofs.Common.{inr, subst, sym, ◌∙◌}
use Rattle.toml_names.specs.model.Data.{kind_at}
use Rattle.toml_edits.specs.Readings.{IsReading}
use Rattle.toml_edits.proofs.FirstRows.{set_bad, set_nowhere, set_judged}
use Rattle.toml_edits.proofs.Found.{not_empty, nowhere_found, found_there}
use Rattle.toml_edits.proofs.OneReading.{one_if_not_bad}
use Rattle.toml_edits.proofs.Reaching.{refuted}
use Rattle.toml_edits.proofs.applying.value_to_set.Goals as goal

pub returns-then-is_bad : goal.returns-then-is_bad
returns-then-is_bad c = inr (set_bad c.args.profile c.args.at.now c.args.text.now (kind_at c.args.root.now) (not_empty c.args.at.now (sym c.if-is_empty.false ∙ c.is_empty.ensures)) (subst (IsReading c.args.profile c.args.text.now) (c.is_bad.ensures.0 c.if-is_bad.true) c.in_ok-reading.ensures))

pub returns-then-is_none : goal.returns-then-is_none
returns-then-is_none c =
    inr (set_nowhere c.args.profile c.args.at.now c.args.text.now (kind_at c.args.root.now) (not_empty c.args.at.now (sym c.if-is_empty.false ∙ c.is_empty.ensures)) (one_if_not_bad c.args.profile c.args.text.now c.in_ok-reading.reading c.in_ok-reading.ensures (refuted c.is_bad.ensures c.if-is_bad.false)) (nowhere_found c.part.result (kind_at c.args.root.now c.args.at.now) c.is_none.result c.part.ensures.found c.is_none.ensures c.if-is_none.true))

pub returns : goal.returns
returns c =
    set_judged c.args.profile c.args.at.now c.args.text.now (kind_at c.args.root.now) c.fitting.result (not_empty c.args.at.now (sym c.if-is_empty.false ∙ c.is_empty.ensures)) (one_if_not_bad c.args.profile c.args.text.now c.in_ok-reading.reading c.in_ok-reading.ensures (refuted c.is_bad.ensures c.if-is_bad.false)) (found_there c.part.result (kind_at c.args.root.now c.args.at.now) c.is_none.result c.part.ensures.found c.is_none.ensures c.if-is_none.false) (c.fitting.ensures c.args.profile c.args.text.now c.in_ok-reading.ensures)
