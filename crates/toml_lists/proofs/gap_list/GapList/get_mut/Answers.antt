use Rattle.std.proofs.Common.{refl, sym, subst, ◌∙◌}
use Rattle.toml_lists.specs.Gaps.{LiesAt}
use Rattle.std.proofs.lemmas.Option.{slice_get_past}
use Rattle.toml_lists.specs.Gaps.{items}
use Rattle.toml_lists.proofs.Lent.{lent_item, on_some}
use Rattle.toml_lists.proofs.Proved.{before_get, before_set, behind_get, behind_set}
use Rattle.toml_lists.proofs.gap_list.GapList.get_mut.Goals as goal

pub returns-in-Some-Before : goal.returns-in-Some-Before
returns-in-Some-Before g c =
    let l = c.args.self.now in
    let lies = subst (LiesAt l c.args.index) c.in-Some-Before.field-0-is c.in-Some-Before.ensures in
    let lent = c.get_mut.ensures in (
      (refl, λ w. on_some c.get_mut.result _ (before_set l c.args.index c.in-Some-Before.place lies w), refl),
      record {
        writes = tt;
        item = lent_item l.before.items l.before.len c.in-Some-Before.place c.get_mut.result l.before.ok.0 lent.variant.1 lent.variant.0 lent.value ∙ sym (before_get l c.args.index c.in-Some-Before.place lies);
      },
    )

pub returns-in-Some-Behind : goal.returns-in-Some-Behind
returns-in-Some-Behind g c =
    let l = c.args.self.now in
    let lies = subst (LiesAt l c.args.index) c.in-Some-Behind.field-0-is c.in-Some-Behind.ensures in
    let lent = c.get_mut-in-Some-Behind.ensures in (
      (refl, λ w. on_some c.get_mut-in-Some-Behind.result _ (behind_set l c.args.index c.in-Some-Behind.place lies w), refl),
      record {
        writes = tt;
        item = lent_item l.behind.items l.behind.len c.in-Some-Behind.place c.get_mut-in-Some-Behind.result l.behind.ok.0 lent.variant.1 lent.variant.0 lent.value ∙ sym (behind_get l c.args.index c.in-Some-Behind.place lies);
      },
    )

pub returns-in-None : goal.returns-in-None
returns-in-None g c = ((refl, λ w. tt, refl), record { writes = tt; item = sym (slice_get_past (items c.args.self.now) c.args.index c.in-None.ensures) })
