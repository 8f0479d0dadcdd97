use Rattle.toml_names.proofs.Common.{IfOk-weaker, kind}
use Rattle.toml_names.proofs.lemmas.tree.ElementGrown.{IsNode-element, lone-grown}
use Rattle.toml_names.proofs.tree.name_tree.NameTree.grow_item.Goals as goal

pub returns-clause-there : goal.returns-clause-there
returns-clause-there c =
    IfOk-weaker c.grow_element.result _ _ (λ k grows. IsNode-element c.args.self.now.nodes.items c.grow_element.new.self.nodes.items c.args.above c.args.line (kind c.args.kind) c.requires.there k grows) c.grow_element.ensures.grown

pub returns-clause-lone : goal.returns-clause-lone
returns-clause-lone c =
    IfOk-weaker c.grow_element.result _ _ (λ k grows. lone-grown c.args.self.now.nodes.items c.grow_element.new.self.nodes.items c.args.above c.args.line (kind c.args.kind) c.requires.there k grows) c.grow_element.ensures.grown
