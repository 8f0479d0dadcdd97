use Rattle.toml_names.proofs.Common.{length, ap, arith, rules}
use Rattle.toml_names.proofs.lemmas.tree.Ranks.{mentioned_upto, upto-mention, upto-other, role_read, listed_all}
use Rattle.toml_names.proofs.tree.name_tree.NameTree.first_mentions.Goals as goal
use Rattle.toml_names.proofs.tree.name_tree.NameTree.first_mentions.Goals.{then-is_mention+in_ok-address_by+in_ok-push, else-is_mention}

pub loop-id-init : goal.loop-id-init
loop-id-init c = c.new-list.ensures.items

pub loop-id-preserved : goal.loop-id-preserved
loop-id-preserved c = search (rules, role_read, then-is_mention+in_ok-address_by+in_ok-push, mentioned_upto, upto-mention, else-is_mention, upto-other)

pub returns : goal.returns
returns c =
    let items = c.deref-node-items.ensures.value in
    listed_all c.args.self.now.nodes.items c.loop-id.list.items c.loop-id.id (omega (arith, c.loop-id-test.false, ap length items)) (omega (arith, c.loop-id.auto.id-end, ap length items)) c.loop-id.invariant
