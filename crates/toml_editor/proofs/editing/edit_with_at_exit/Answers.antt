use Rattle.toml_editor.proofs.editing.edit_with_at_exit.Goals as goal

pub returns-clause-edited : goal.returns-clause-edited
returns-clause-edited c = c.in_ok-text.ensures.edited.edited
