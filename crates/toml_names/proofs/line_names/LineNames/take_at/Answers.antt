use Rattle.toml_names.proofs.Common.{ℕ, Option, subst, arith, err_from_is_err_and, IsWithin}
use Rattle.toml_names.proofs.line_names.LineNames.take_at.Goals as goal

pub returns-in_err-node : goal.returns-in_err-node
returns-in_err-node c = λ lines h.
    let p = err_from_is_err_and c.from_residual.result c.from_residual.ensures.1 in
    rw (p.1, p.2) (c.in_err-node.ensures lines h)

pub set_to_node-requires-clause-within : goal.set_to_node-requires-clause-within
set_to_node-requires-clause-within c =
    let stand = c.requires.stand in
    let within = subst (λ (o : Option ℕ). IsWithin o c.enter.new.self.tree.nodes.items) c.in-Some.is (c.in_ok-node.ensures stand.0 stand.1).within in
    omega (arith, within)

pub set_to_node-requires-clause-tree : goal.set_to_node-requires-clause-tree
set_to_node-requires-clause-tree c =
    let stand = c.requires.stand in
    (c.in_ok-node.ensures stand.0 stand.1).stands.keeps.reads.stands.tree
