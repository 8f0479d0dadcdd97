use Rattle.toml_layout.specs.OpenOutlines.{leaf_text}
use Rattle.toml_working.specs.Starting.{read_of}
use Rattle.toml_working.proofs.Put.{ends_last, stays_full}
use Rattle.toml_working.proofs.working.Tree.newline_behind.Goals as goal

pub returns-then-not-is_last-clause-ended : goal.returns-then-not-is_last-clause-ended
returns-then-not-is_last-clause-ended c =
    let tree = c.args.self.now in
    stays_full (leaf_text tree.style) tree.texts (read_of c.args.before) c.args.behind tree.slots.items c.is_last.result c.is_last.ensures c.if-not-is_last.true

pub returns-clause-ended : goal.returns-clause-ended
returns-clause-ended c =
    let tree = c.args.self.now in
    ends_last (leaf_text tree.style) tree.texts (read_of c.args.before) c.args.behind tree.slots.items c.end_at.new.slots.items c.is_last.result c.is_last.ensures c.if-not-is_last.false
    c.in_ok-end_at.ensures
