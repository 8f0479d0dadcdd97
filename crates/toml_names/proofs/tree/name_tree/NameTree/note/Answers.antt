use Rattle.toml_names.proofs.Common.{arith, rules}
use Rattle.toml_names.proofs.lemmas.tree.Undo.{undone-noted}
use Rattle.toml_names.proofs.tree.name_tree.NameTree.note.Goals as goal

pub returns-clause-goes_on : goal.returns-clause-goes_on
returns-clause-goes_on c = record {
  can_undo = undone-noted c.args.self.now.nodes.items c.index-node.result.now c.args.at (omega arith) c.index-node.ensures c.args.self.now.changes.items
      c.push.new.self.items c.index_mut-node.result.now c.remark.new.self c.role-before.result c.role_after-after.result c.line-of_line.result _
      c.index_mut-node.ensures.value c.role-before.ensures c.line-of_line.ensures c.remark.ensures c.in_ok-push.ensures.items;
  lookups = search rules;
}
