use Rattle.toml_layout.proofs.TextParts.{parted_on}
use Rattle.toml_layout.proofs.texts.Texts.parted.Goals as goal

pub loop-part-preserved : goal.loop-part-preserved
loop-part-preserved c =
    parted_on c.deref-part-items.result.now c.loop-part.part-index _ c.loop-part.parted.parts.items c.add_parted.new.self.parts.items
    c.loop-part-test.true c.loop-part.invariant c.in_ok-add_parted.ensures
