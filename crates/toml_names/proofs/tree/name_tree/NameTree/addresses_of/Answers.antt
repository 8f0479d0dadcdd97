use Rattle.toml_names.proofs.Common.{◌∙◌, ◌++◌, ◌∷◌, [], List, Option, ap, map, take, option_map, Address, address_at}
use Rattle.toml_names.proofs.lemmas.tree.LineRanks.{mapped-more}
use Rattle.toml_names.proofs.tree.name_tree.NameTree.addresses_of.Goals as goal

pub loop-node-preserved : goal.loop-node-preserved
loop-node-preserved c =
    c.in_ok-push.ensures.items ∙ ap (λ (xs : List (Option Address)). xs ++ c.in_ok-address_of.field-0 ∷ []) c.loop-node.invariant
    ∙ ap (λ (r : Option Address). map (option_map (address_at c.args.self.now.nodes.items)) (take c.loop-node.node-index c.args.nodes.now) ++ r ∷ []) c.in_ok-address_of.ensures
    ∙ mapped-more (option_map (address_at c.args.self.now.nodes.items)) c.args.nodes.now c.loop-node.node-index _ c.loop-node-test.true
