use Rattle.toml_layout.specs.Items.{items_of}
use Rattle.toml_layout.proofs.TakenParts.{closes_one}
use Rattle.toml_layout.proofs.tree.Entries.close_one.Goals as goal

pub returns : goal.returns
returns c =
    closes_one c.args.self.now c.remove-entry.new.self (items_of c.close_up.new.self) c.args.index c.remove-entry.result (c.has.ensures.0 c.if-not-has.false)
    c.remove-entry.ensures.item c.remove-entry.ensures.left c.in_ok-close_up.ensures
