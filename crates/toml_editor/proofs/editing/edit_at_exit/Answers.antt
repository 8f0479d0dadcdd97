use Rattle.toml_editor.proofs.editing.edit_at_exit.Goals as goal

pub returns-clause-edited : goal.returns-clause-edited
returns-clause-edited c = c.edit_with_at_exit.ensures.edited

pub returns-clause-told : goal.returns-clause-told
returns-clause-told c = c.edit_with_at_exit.ensures.told
