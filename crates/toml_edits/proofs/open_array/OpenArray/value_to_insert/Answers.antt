use Rattle.std.proofs.Common.{◌≡◌, ◌<◌, false, inl, inr, length, rules, true}
use Rattle.std.proofs.lemmas.Bool.{cases_lt}
use Rattle.toml_lists.specs.Gaps.{items}
use Rattle.toml_names.specs.declared.model.address.Step.TheVariants.{Index}
use Rattle.toml_edits.specs.declared.fault.EditFault.TheVariants.{IndexOutside}
use Rattle.toml_edits.proofs.FirstRows.{insert_room, insert_step}
use Rattle.toml_edits.proofs.OneReading.{one_if_not_bad}
use Rattle.toml_edits.proofs.OpenEdits.{array_there, has_no_room, has_room}
use Rattle.toml_edits.proofs.Reaching.{refuted}
use Rattle.toml_edits.proofs.open_array.OpenArray.value_to_insert.Goals as goal

pub returns-then-not-takes-clause-judged : goal.returns-then-not-takes-clause-judged
returns-then-not-takes-clause-judged c = λ f stand.
    let a = c.args.self.now in
    let i = c.args.index in
    let one = one_if_not_bad c.args.profile c.args.text.now c.in_ok-reading.reading c.in_ok-reading.ensures (refuted c.is_bad.ensures c.if-is_bad.false) in
    let other : c.takes.result ≡ false = search rules in
    let past : length (items a.elements) < i = elim (cases_lt (length (items a.elements)) i) [
      | inl low ↦ low
      | inr high ↦ absurd (refuted c.takes.ensures other high)
    ] in
    inr (insert_step c.args.profile c.args.at.now a.at (Index i) c.args.text.now f IndexOutside c.requires one
    (array_there a.elements a.at f stand) (has_no_room a.elements a.at f stand i past))

pub returns-clause-judged : goal.returns-clause-judged
returns-clause-judged c = λ f stand.
    let a = c.args.self.now in
    let i = c.args.index in
    let one = one_if_not_bad c.args.profile c.args.text.now c.in_ok-reading.reading c.in_ok-reading.ensures (refuted c.is_bad.ensures c.if-is_bad.false) in
    let there : c.takes.result ≡ true = search rules in
    insert_room c.args.profile c.args.at.now a.at (Index i) c.args.text.now f c.fitting.result c.requires one (array_there a.elements a.at f stand)
    (has_room a.elements a.at f stand i (c.takes.ensures.0 there)) (c.fitting.ensures c.args.profile c.args.text.now c.in_ok-reading.ensures)
