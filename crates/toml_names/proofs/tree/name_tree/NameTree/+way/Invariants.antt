use Rattle.toml_names.proofs.tree.name_tree.NameTree.+way.Given as goal

abbrev pub decreases-set_fronts : goal.decreases-set_fronts
decreases-set_fronts l = l.id
