use Rattle.std.proofs.Common.{arith, sym}
use Rattle.toml_names.specs.declared.model.address.Step.TheVariants.{Name}
use Rattle.toml_edits.proofs.NearAddresses.{way_to_long, way_to_short}
use Rattle.toml_edits.proofs.near.add_child.Goals as goal

pub returns-then-parent-gt-MAX_STEPS : goal.returns-then-parent-gt-MAX_STEPS
returns-then-parent-gt-MAX_STEPS c = rw (way_to_long c.args.parent.now (Name c.args.name.now) (omega (arith, c.if-parent-gt-MAX_STEPS.true)), sym c.cut.ensures) c.add.ensures.hides

pub returns-else-parent-gt-MAX_STEPS : goal.returns-else-parent-gt-MAX_STEPS
returns-else-parent-gt-MAX_STEPS c = rw (way_to_short c.args.parent.now (Name c.args.name.now) (omega (arith, c.if-parent-gt-MAX_STEPS.false))) c.add_below.ensures.hides
