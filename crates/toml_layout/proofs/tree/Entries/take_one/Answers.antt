use Rattle.toml_layout.specs.Items.{items_of}
use Rattle.toml_layout.proofs.TakenParts.{takes_one}
use Rattle.toml_layout.proofs.tree.Entries.take_one.Goals as goal

pub returns : goal.returns
returns c =
    takes_one c.args.self.now c.remove-entry.new.self (items_of c.leave_plain.new.self) c.args.index c.remove-entry.result (c.has.ensures.0 c.if-not-has.false)
    c.remove-entry.ensures.item c.remove-entry.ensures.left c.in_ok-leave_plain.ensures
