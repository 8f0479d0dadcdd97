use Rattle.toml_names.proofs.Common.{ap, sym, ◌∙◌, Some, nowhere, a_table, an_array}
use Rattle.toml_names.specs.mentions.Mentions.{a_scalar}
use Rattle.toml_names.proofs.lemmas.tree.Held.{here}
use Rattle.toml_names.proofs.lemmas.tree.NodeData.{low_in, kind_read}
use Rattle.toml_names.proofs.tree.name_tree.NameTree.shape.Goals as goal

pub returns-in-Table : goal.returns-in-Table
returns-in-Table c =
    let nodes = c.args.self.now.nodes.items in
    let low = low_in c.args.self.now.nodes c.requires.within in
    here nodes c.requires.tree c.args.id low ∙ ap Some (kind_read nodes c.args.id c.index.result.now a_table low c.index.ensures c.in-Table.ensures nowhere)

pub returns-in-Array : goal.returns-in-Array
returns-in-Array c =
    let nodes = c.args.self.now.nodes.items in
    let low = low_in c.args.self.now.nodes c.requires.within in
    here nodes c.requires.tree c.args.id low ∙ ap Some (kind_read nodes c.args.id c.index.result.now an_array low c.index.ensures c.in-Array.ensures nowhere)

pub returns-in_ok-value_spelled-in-Scalar : goal.returns-in_ok-value_spelled-in-Scalar
returns-in_ok-value_spelled-in-Scalar c =
    let nodes = c.args.self.now.nodes.items in
    let low = low_in c.args.self.now.nodes c.requires.within in
    here nodes c.requires.tree c.args.id low
    ∙ ap Some (kind_read nodes c.args.id c.index.result.now _ low c.index.ensures c.in-Scalar.ensures nowhere ∙ ap a_scalar (sym c.in_ok-value_spelled-in-Scalar.ensures))
