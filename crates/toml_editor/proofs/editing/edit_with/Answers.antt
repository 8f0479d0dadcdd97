use Rattle.toml_editor.proofs.editing.edit_with.Goals as goal

pub returns-clause-edited : goal.returns-clause-edited
returns-clause-edited c = c.in_ok-edited.ensures.edited.edited
