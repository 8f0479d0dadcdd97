use Rattle.std.proofs.Common.{◌∙◌}
use Rattle.toml_working.specs.Starting.{read_of}
use Rattle.toml_editor.proofs.RenameWritten.{rename_is_written}
use Rattle.toml_editor.proofs.making.write_rename.Goals as goal

pub returns : goal.returns
returns c =
    rename_is_written c.rename.result (read_of c.args.read.before) c.args.at.now c.in_ok-name.name c.args.to.now c.args.spelling.now c.args.tree.now c.rename.new.self
    (c.in_ok-name.ensures ∙ c.in_ok-from_str.ensures.ok) c.requires.spelling c.rename.ensures.renames c.rename.ensures.texts c.rename.ensures.style c.rename.ensures.blank c.rename.ensures.elements
