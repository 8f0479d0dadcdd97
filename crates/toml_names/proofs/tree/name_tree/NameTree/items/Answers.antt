use Rattle.toml_names.proofs.Common.{ap, ◌∙◌, Spot}
use Rattle.toml_names.proofs.lemmas.tree.NodeData.{low_in, node_read}
use Rattle.toml_names.proofs.lemmas.tree.Parts.{are_items}
use Rattle.toml_names.proofs.tree.name_tree.NameTree.items.Goals as goal

pub returns : goal.returns
returns c =
    let nodes = c.args.self.now.nodes.items in
    let low = low_in c.args.self.now.nodes c.requires.within in
    are_items nodes c.requires.tree c.args.id low c.elements.result.now
    (c.elements.ensures ∙ ap (λ (s : Spot). s.elements) (node_read nodes c.args.id c.index.result.now low c.index.ensures))
