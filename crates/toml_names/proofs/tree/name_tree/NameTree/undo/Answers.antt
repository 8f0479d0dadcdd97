use Rattle.toml_names.proofs.Common.{rules}
use Rattle.toml_names.proofs.lemmas.tree.Undo.{undone-push}
use Rattle.toml_names.proofs.tree.name_tree.NameTree.undo.Goals as goal

pub loop-change-preserved : goal.loop-change-preserved
loop-change-preserved c = search (rules, undone-push)
