use Rattle.std.proofs.Common.{◌∙◌, subst, subst₂}
use Rattle.std.proofs.lemmas.Result.{IfOk-weaker}
use Rattle.toml_edits.specs.Edits.{change}
use Rattle.toml_layout.specs.declared.tree.Brackets.TheVariants.{One, Two}
use Rattle.toml_editor.specs.Exact.{WritesHeader, WritesInside, WritesLine, WritesNoElement, WritesSet}
use Rattle.toml_working.specs.HeldLines.{TakesFromValue}
use Rattle.toml_working.specs.RemovingIn.{RemovesLines, TakesElement}
use Rattle.toml_working.specs.RemovingTables.{RemovesTable}
use Rattle.toml_editor.specs.SpelledEdits.{IsSpelled}
use Rattle.toml_working.specs.Starting.{read_of}
use Rattle.toml_editor.proofs.Answered.{if_ok_both, if_ok_two, if_ok_with}
use Rattle.toml_editor.proofs.EditWritten.{edit_written}
use Rattle.toml_editor.proofs.making.write_edit.Goals as goal

pub returns-in-Set : goal.returns-in-Set
returns-in-Set c =
    let read = read_of c.args.read.before in
    let result = c.write_set.result in
    edit_written result c.args.read.profile read c.args.flat c.args.tree.now c.write_set.new.tree c.in_ok-at.at _ _ c.in-Set.is
    (λ whole. c.in_ok-at.ensures whole ∙ c.place.ensures)
    (λ at. IfOk-weaker result _ _
    (λ done made whole. (
      made.0,
      subst₂ (λ a t. WritesSet c.args.read.profile read a t c.args.tree.now c.write_set.new.tree done) (at whole)
          c.as_str.ensures.value made.1,
    ))
    (if_ok_with _ _ result c.write_set.ensures.rest c.write_set.ensures.set))

pub returns-in-Remove : goal.returns-in-Remove
returns-in-Remove c =
    let read = read_of c.args.read.before in
    edit_written c.remove.result c.args.read.profile read c.args.flat c.args.tree.now c.remove.new.self c.in_ok-at.at _ _ c.in-Remove.is
    (λ whole. c.in_ok-at.ensures whole ∙ c.place.ensures)
    (λ at. if_ok_two _ _ _ c.remove.result
    (λ done made taken whole. (
      subst (λ a. RemovesLines a read c.args.tree.now c.remove.new.self) (at whole) made.0,
      subst (λ a. TakesFromValue a read c.args.tree.now c.remove.new.self done) (at whole) made.1,
      subst (λ a. TakesElement a read c.args.tree.now done) (at whole) taken.0,
      subst (λ a. RemovesTable a c.args.flat read c.args.tree.now c.remove.new.self done) (at whole) taken.1,
    ))
    (if_ok_with _ _ c.remove.result c.remove.ensures.line c.remove.ensures.value)
    (if_ok_both _ _ c.remove.result c.remove.ensures.element c.remove.ensures.table))

pub returns-in-Insert : goal.returns-in-Insert
returns-in-Insert c =
    let profile = c.args.read.profile in
    let read = read_of c.args.read.before in
    let old = c.args.tree.now in
    let new = c.write_insert.new.tree in
    let result = c.write_insert.result in
    let steps = c.args.spelled.now.steps.items in
    let spelled = subst (λ e. IsSpelled (change e) c.args.spelled.now) c.in-Insert.is c.requires.spelled in
    edit_written result profile read c.args.flat old new c.in_ok-at.at _ _ c.in-Insert.is (λ whole. c.in_ok-at.ensures whole ∙ c.place.ensures)
    (λ at. IfOk-weaker result _ _
    (λ done made whole. (
      steps,
      made.0,
      spelled,
      subst₂ (λ a t. WritesLine profile read a t steps old new) (at whole) c.as_str-in-Insert.ensures.value
          (subst (λ ss. WritesLine profile read c.in_ok-at.at c.as_str-in-Insert.result.now ss old new) c.deref.ensures.value made.1.0),
      subst₂ (λ a t. WritesInside profile read a t steps old new done) (at whole) c.as_str-in-Insert.ensures.value
          (subst (λ ss. WritesInside profile read c.in_ok-at.at c.as_str-in-Insert.result.now ss old new done) c.deref.ensures.value made.1.1.0),
      subst₂ (λ a t. WritesNoElement profile read a t old done) (at whole) c.as_str-in-Insert.ensures.value made.1.1.1,
    ))
    (if_ok_with _ _ result c.write_insert.ensures.rest (if_ok_with _ _ result c.write_insert.ensures.line
    (if_ok_both _ _ result c.write_insert.ensures.inside c.write_insert.ensures.element))))

pub returns-in-Section : goal.returns-in-Section
returns-in-Section c =
    let read = read_of c.args.read.before in
    let old = c.args.tree.now in
    let new = c.write_header.new.tree in
    let result = c.write_header.result in
    let steps = c.args.spelled.now.steps.items in
    let spelled = subst (λ e. IsSpelled (change e) c.args.spelled.now) c.in-Section.is c.requires.spelled in
    edit_written result c.args.read.profile read c.args.flat old new c.in_ok-at.at _ _ c.in-Section.is (λ whole. c.in_ok-at.ensures whole ∙ c.place.ensures)
    (λ at. IfOk-weaker result _ _
    (λ done made whole. (steps, spelled, made.0, subst (λ a. WritesHeader One read a steps old new done) (at whole) made.1))
    (if_ok_with _ _ result c.write_header.ensures.rest c.write_header.ensures.header))

pub returns : goal.returns
returns c =
    let read = read_of c.args.read.before in
    let old = c.args.tree.now in
    let new = c.write_header-in-Element.new.tree in
    let result = c.write_header-in-Element.result in
    let steps = c.args.spelled.now.steps.items in
    let spelled = subst (λ e. IsSpelled (change e) c.args.spelled.now) c.in-Element.is c.requires.spelled in
    edit_written result c.args.read.profile read c.args.flat old new c.in_ok-at.at _ _ c.in-Element.is (λ whole. c.in_ok-at.ensures whole ∙ c.place.ensures)
    (λ at. IfOk-weaker result _ _
    (λ done made whole. (steps, spelled, made.0, subst (λ a. WritesHeader Two read a steps old new done) (at whole) made.1))
    (if_ok_with _ _ result c.write_header-in-Element.ensures.rest c.write_header-in-Element.ensures.header))
