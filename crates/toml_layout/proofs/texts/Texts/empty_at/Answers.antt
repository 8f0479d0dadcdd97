use Rattle.std.proofs.Common.{subst}
use Rattle.toml_lists.specs.Gaps.{LiesAt}
use Rattle.toml_layout.specs.declared.tree.Value.TheViews.{out-Entries}
use Rattle.toml_layout.proofs.PairMarks.{emptied_far, emptied_near, none_emptied}
use Rattle.toml_layout.proofs.texts.Texts.empty_at.Goals as goal

pub returns-in_ok-empty_in-in-Some-Before : goal.returns-in_ok-empty_in-in-Some-Before
returns-in_ok-empty_in-in-Some-Before c =
    let list = (out-Entries c.args.pairs.now).list in
    emptied_near c.args.pairs.now c.empty_in.new.list list.last c.args.parts c.args.index c.in-Some-Before.place
    (subst (LiesAt list c.args.index) c.in-Some-Before.field-0-is c.in-Some-Before.ensures) c.in_ok-empty_in-in-Some-Before.ensures

pub returns-in_ok-empty_in-in-Some-Behind : goal.returns-in_ok-empty_in-in-Some-Behind
returns-in_ok-empty_in-in-Some-Behind c =
    let list = (out-Entries c.args.pairs.now).list in
    emptied_far c.args.pairs.now c.empty_in-in-Some-Behind.new.list list.last c.args.parts c.args.index c.in-Some-Behind.place
    (subst (LiesAt list c.args.index) c.in-Some-Behind.field-0-is c.in-Some-Behind.ensures) c.in_ok-empty_in-in-Some-Behind.ensures

pub returns-in-None : goal.returns-in-None
returns-in-None c = none_emptied c.args.pairs.now c.args.parts c.args.index c.in-None.ensures
