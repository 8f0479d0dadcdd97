use Rattle.toml_names.proofs.Common.{sym, ap, ◌∙◌, is_some, Name}
use Rattle.toml_names.specs.model.AddressSets.{below}
use Rattle.toml_names.proofs.lemmas.tree.Across.{there_or_hidden, no_part}
use Rattle.toml_names.proofs.lemmas.tree.Alike.{child_read}
use Rattle.toml_names.proofs.lemmas.tree.NodeData.{low_in, node_read}
use Rattle.toml_names.proofs.lemmas.tree.Shown.{hidden_name}
use Rattle.toml_names.proofs.tree.name_tree.NameTree.has_or_shows.Goals as goal

pub returns-in_default : goal.returns-in_default
returns-in_default c =
    let nodes = c.args.self.now.nodes.items in
    let node = node_read nodes c.args.id c.index.result.now (low_in c.args.self.now.nodes c.requires.within) c.index.ensures in
    let child = child_read nodes c.args.id c.index.result.now c.args.name.now c.child_from.result node c.child_from.ensures in
    let none = sym c.below_name.ensures ∙ no_part c.below_name.result c.in_default.not-Some in
    there_or_hidden _ c.is_some.result (c.is_some.ensures ∙ ap is_some (sym child))
    (hidden_name c.args.other.now.nodes.items c.requires.other_tree c.args.across (low_in c.args.other.now.nodes c.requires.other_within) c.args.name.now (below c.args.set.now (Name c.args.name.now)) none)
