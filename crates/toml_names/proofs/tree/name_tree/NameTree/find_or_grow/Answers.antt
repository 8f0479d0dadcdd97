use Rattle.toml_names.proofs.Common.{ap, ◌∙◌, slice_index_or, Vec, Global, arith, rules}
use Rattle.toml_names.specs.declared.tree.node.Node.{Node}
use Rattle.toml_names.proofs.lemmas.tree.NodeAddresses.{depth_read}
use Rattle.toml_names.proofs.lemmas.tree.Undo.{undone-grown_name}
use Rattle.toml_names.proofs.tree.name_tree.NameTree.find_or_grow.Goals as goal

pub overflow_add-depth : goal.overflow_add-depth
overflow_add-depth c =
    let same = c.reserve-2.ensures.items ∙ ap (λ (w : Vec Node Global). w.items) c.count_lookup.ensures.nodes in
    let read = c.index_mut-node.ensures.value ∙ ap (λ l. slice_index_or l c.args.above c.index_mut-node.result.now) same in
    omega (arith, depth_read c.args.self.now.nodes.items c.requires.there.tree c.args.above c.index_mut-node.result.now (omega arith) read, c.ranges.above.fits, c.depth-depth.ensures)

pub returns-clause-goes_on : goal.returns-clause-goes_on
returns-clause-goes_on c = search (rules, undone-grown_name)
