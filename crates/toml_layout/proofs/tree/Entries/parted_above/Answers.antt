use Rattle.std.proofs.Common.{sym}
use Rattle.toml_layout.specs.Items.{gap_parts}
use Rattle.toml_layout.proofs.TakenParts.{parted_above}
use Rattle.toml_layout.proofs.tree.Entries.parted_above.Goals as goal

pub returns : goal.returns
returns c =
    parted_above c.args.self.now c.args.index c.in-Some.entry.now (gap_parts c.in_ok-parted.parted) c.if-index-eq0.false (sym c.in-Some.ensures) c.in_ok-parted.ensures
