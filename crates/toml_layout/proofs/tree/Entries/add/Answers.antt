use Rattle.std.proofs.Common.{length}
use Rattle.toml_lists.specs.Gaps.{items}
use Rattle.toml_layout.specs.declared.tree.Value.TheViews.{out-Entries}
use Rattle.toml_layout.proofs.TakenParts.{not_taken, with_one_behind, with_one_in}
use Rattle.toml_layout.proofs.tree.Entries.add.Goals as goal

pub returns-in_ok-insert : goal.returns-in_ok-insert
returns-in_ok-insert c =
    with_one_in c.args.self.now c.insert.new.self c.args.index c.args.entry (c.takes.ensures.0 c.if-takes.true) c.in_ok-insert.ensures.ok

pub returns-in_ok-push : goal.returns-in_ok-push
returns-in_ok-push c =
    with_one_behind c.args.self.now c.push.new.self c.args.index c.args.entry
    (not_taken (length (items (out-Entries c.args.self.now).list)) c.args.index c.takes.result c.takes.ensures c.if-takes.false) c.in_ok-push.ensures.ok
