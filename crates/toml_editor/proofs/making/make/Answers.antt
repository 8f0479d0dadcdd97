use Rattle.std.proofs.lemmas.Result.{on_ok_weaker, IfErr-weaker}
use Rattle.toml_edits.specs.Edits.{change}
use Rattle.toml_editor.proofs.MadeEdits.{turned_made, turned_told}
use Rattle.toml_editor.proofs.making.make.Goals as goal

pub returns-clause-made : goal.returns-clause-made
returns-clause-made c =
    on_ok_weaker c.make_here.result
    (turned_made c.args.read (change c.args.edit.now) c.args.draft.now c.turn_to.new.self c.make_here.new.draft c.args.tree.now c.make_here.new.tree c.turn_to.ensures.same)
    c.make_here.ensures.made

pub returns-clause-told : goal.returns-clause-told
returns-clause-told c =
    IfErr-weaker c.make_here.result _ _
    (λ fault. turned_told c.args.read c.args.index (change c.args.edit.now) c.args.draft.now c.turn_to.new.self c.args.tree.now fault c.turn_to.ensures.same)
    c.make_here.ensures.told
