use Rattle.std.proofs.Common.{◌∷◌, [], map, subst₂, sym, take}
use Rattle.toml_edits.specs.Edits.{change}
use Rattle.toml_editor.specs.SpelledEdits.{AreSpelled, IsSpelled}
use Rattle.toml_editor.proofs.MadeEdits.{taken_on}
use Rattle.toml_editor.proofs.written.Together.{together_append}
use Rattle.toml_editor.proofs.spelled.spell_all.Goals as goal

pub loop-edit-preserved : goal.loop-edit-preserved
loop-edit-preserved c =
    let edits = c.args.edits.now in
    let i = c.loop-edit.edit-index in
    let edit = c.edit-item.result in
    let spelled = c.in_ok-spell.field-0 in
    subst₂ (λ cs ss. AreSpelled cs ss) (sym (taken_on edits i edit c.loop-edit-test.true c.edit-item.is)) (sym c.in_ok-push.ensures.items)
    (together_append IsSpelled (map change (take i edits)) (change edit ∷ []) c.loop-edit.list.items (spelled ∷ []) c.loop-edit.invariant (c.in_ok-spell.ensures, tt))
