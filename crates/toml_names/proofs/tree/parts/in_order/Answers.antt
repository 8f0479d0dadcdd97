use Rattle.toml_names.proofs.lemmas.tree.Parts.{sorted_ascend}
use Rattle.toml_names.proofs.tree.parts.in_order.Goals as goal

pub returns-clause-same : goal.returns-clause-same
returns-clause-same c =
    (sorted_ascend c.args.names.now c.in_ok-members.members.items c.sort_unstable.new.self.items c.in_ok-members.ensures.distinct c.in_ok-members.ensures.same
    c.sort_unstable.ensures.permutation c.sort_unstable.ensures.sorted).0

pub returns-clause-ascending : goal.returns-clause-ascending
returns-clause-ascending c =
    (sorted_ascend c.args.names.now c.in_ok-members.members.items c.sort_unstable.new.self.items c.in_ok-members.ensures.distinct c.in_ok-members.ensures.same
    c.sort_unstable.ensures.permutation c.sort_unstable.ensures.sorted).1
