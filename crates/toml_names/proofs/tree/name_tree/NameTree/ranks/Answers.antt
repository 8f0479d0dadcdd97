use Rattle.toml_names.proofs.Common.{length, ap, arith, rules}
use Rattle.toml_names.proofs.lemmas.tree.Ranks.{ranked_none, ranked_mention, ranked_other, ranked_all, upto-few}
use Rattle.toml_names.proofs.tree.name_tree.NameTree.ranks.Goals as goal
use Rattle.toml_names.proofs.tree.name_tree.NameTree.ranks.Goals.{then-is_mention, else-is_mention}

pub loop-node-init : goal.loop-node-init
loop-node-init c = ranked_none c.args.self.now.nodes.items c.in_ok-ranks.ranks.items c.in_ok-ranks.ensures.items

pub overflow_add-count : goal.overflow_add-count
overflow_add-count c = omega (arith, c.loop-node.invariant.counted, upto-few c.args.self.now.nodes.items c.loop-node.node-index, c.loop-node-test.true, c.deref-node-items.type_inv)

pub loop-node-preserved : goal.loop-node-preserved
loop-node-preserved c = search (rules, then-is_mention, ranked_mention, else-is_mention, ranked_other)

pub returns-clause-all : goal.returns-clause-all
returns-clause-all c = omega (arith, c.loop-node.invariant.long, c.loop-node.ranks.ok, c.loop-node-test.false, c.loop-node.auto.node-index-end, c.deref-node-items.ensures.len)

pub returns-clause-places : goal.returns-clause-places
returns-clause-places c ms k d stands joined low other =
    let nodes = c.args.self.now.nodes.items in
    let items = c.deref-node-items.ensures.value in
    ranked_all nodes c.loop-node.ranks.items c.loop-node.count c.loop-node.node-index (omega (arith, c.loop-node-test.false, ap length items)) c.loop-node.invariant ms k d stands joined
    (omega (arith, low, ap length items, c.deref-node-items.ensures.len)) other
