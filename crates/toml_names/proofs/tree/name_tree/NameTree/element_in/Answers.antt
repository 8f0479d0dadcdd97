use Rattle.toml_names.proofs.Common.{subst, ◌∙◌, ap, slice_get}
use Rattle.toml_names.specs.tree.EnteringLines.{IsWithin}
use Rattle.toml_names.proofs.lemmas.model.Levels.{item_got}
use Rattle.toml_names.proofs.lemmas.tree.Across.{element_within}
use Rattle.toml_names.proofs.lemmas.tree.NodeData.{node_read}
use Rattle.toml_names.proofs.tree.name_tree.NameTree.element_in.Goals as goal

pub returns-in-Some-clause-within : goal.returns-in-Some-clause-within
returns-in-Some-clause-within c =
    let nodes = c.args.self.now.nodes.items in
    let low = subst (λ o. IsWithin o nodes) c.in-Some.is c.requires.within in
    element_within nodes c.requires.tree c.in-Some.id low c.index.result.now (node_read nodes c.in-Some.id c.index.result.now low c.index.ensures) c.args.index c.copied.result
    (c.copied.ensures ∙ item_got _ _ _ c.get.ensures.lookup ∙ ap (λ es. slice_get es c.args.index) c.elements.ensures)
