use Rattle.toml_names.proofs.Common.{ap, ◌∙◌, sym, Spot}
use Rattle.toml_names.proofs.lemmas.tree.NodeData.{low_in, node_read}
use Rattle.toml_names.proofs.lemmas.tree.Parts.{members_told, no_members_told}
use Rattle.toml_names.proofs.tree.name_tree.NameTree.members.Goals as goal

pub returns-in-Some : goal.returns-in-Some
returns-in-Some c =
    let nodes = c.args.self.now.nodes.items in
    let low = low_in c.args.self.now.nodes c.requires.within in
    members_told nodes c.requires.tree c.args.id low c.in-Some.names.now c.in_order.result
    (c.in-Some.ensures.some ∙ ap (λ (s : Spot). s.children) (node_read nodes c.args.id c.index.result.now low c.index.ensures))
    c.in_order.ensures.same c.in_order.ensures.distinct c.in_order.ensures.ascending

pub returns-in-None : goal.returns-in-None
returns-in-None c =
    let nodes = c.args.self.now.nodes.items in
    let low = low_in c.args.self.now.nodes c.requires.within in
    no_members_told nodes c.requires.tree c.args.id low c.new.result.items
    (sym c.in-None.ensures.none ∙ ap (λ (s : Spot). s.children) (node_read nodes c.args.id c.index.result.now low c.index.ensures)) c.new.ensures.items
