use Rattle.std.proofs.Common.{subst}
use Rattle.toml_lists.specs.Gaps.{LiesAt}
use Rattle.toml_layout.specs.declared.tree.Value.TheViews.{out-Entries}
use Rattle.toml_layout.specs.Items.{gap_parts}
use Rattle.toml_layout.proofs.ItemGaps.{before_changed, before_changed_far, entry_within}
use Rattle.toml_layout.proofs.tree.Entries.change_before.Goals as goal

pub returns-in-Some-Before : goal.returns-in-Some-Before
returns-in-Some-Before c =
    let list = (out-Entries c.args.self.now).list in
    before_changed c.args.self.now c.change_before.new.list list.last c.args.index c.in-Some-Before.place (gap_parts c.args.gap) (gap_parts c.change_before.result)
    (subst (LiesAt list c.args.index) c.in-Some-Before.field-0-is c.in-Some-Before.ensures) c.change_before.ensures

pub returns-in-Some-Behind : goal.returns-in-Some-Behind
returns-in-Some-Behind c =
    let list = (out-Entries c.args.self.now).list in
    before_changed_far c.args.self.now c.change_before-in-Some-Behind.new.list list.last c.args.index c.in-Some-Behind.place (gap_parts c.args.gap)
    (gap_parts c.change_before-in-Some-Behind.result)
    (subst (LiesAt list c.args.index) c.in-Some-Behind.field-0-is c.in-Some-Behind.ensures) c.change_before-in-Some-Behind.ensures

pub returns-in-None : goal.returns-in-None
returns-in-None c = absurd (entry_within c.args.self.now c.args.index c.requires c.in-None.ensures)
