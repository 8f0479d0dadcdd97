use Rattle.std.proofs.Common.{◌≡◌, ◌≤◌, ◌∙◌, ◌+◌, ◌++◌, ◌∷◌, [], List, Some, ap, length, subst, sym}
use Rattle.std.specs.Prelude.{slice_get}
use Rattle.std.proofs.lemmas.Option.{slice_get-get_or}
use Rattle.toml_tree.specs.HandedOut.{tree_of}
use Rattle.toml_units.specs.declared.unit.Unit.{Unit as TextUnit}
use Rattle.toml_working.specs.declared.lines.Slot.TheVariants as slots
use Rattle.toml_working.specs.Starting.{TakesLine, read_of}
use Rattle.toml_working.proofs.Started.{StartedWith, started, started_line, started_past, started_all}
use Rattle.toml_working.proofs.LinesLie.{lines_lie}
use Rattle.toml_working.proofs.starting.kept_slots.Goals as goal
use Rattle.toml_working.proofs.starting.kept_slots.Goals.{in-Some+in_ok-push, in_default}

pub loop-first-init : goal.loop-first-init
loop-first-init c text before units facts is =
    let read = read_of before in
    subst (StartedWith text read 0) (sym (c.in_ok-slots.ensures {u = tt}).items)
    (started text read is.units (lines_lie (tree_of text read.lines) text is.within is.spelled))

pub loop-first-preserved : goal.loop-first-preserved
loop-first-preserved c text before units facts is =
    let read = read_of before in
    let first = c.loop-first.first in
    let all = c.loop-first.slots.items in
    let u = c.index-units-first.result in
    let got : slice_get read.units first ≡ Some u =
    ap (λ (us : List TextUnit). slice_get us first) units ∙ slice_get-get_or c.args.units.now first u c.loop-first-test.true ∙ ap Some (sym c.index-units-first.is) in
    let long : c.len.result ≡ length all = c.len.ensures ∙ c.loop-first.slots.ok.0 in
    let so_far = c.loop-first.invariant text before units facts is in
    let found = subst (λ n. TakesLine read.lines n u first c.kept_of.result) long (c.kept_of.ensures read.lines facts) in
    elim c.match-kept_of.branch [
      | in-Some+in_ok-push w ↦
          let keeps = subst (TakesLine read.lines (length all) u first) w.in-Some.is found in
          let items : c.match-kept_of.slots.items ≡ all ++ slots.Kept w.in-Some.kept ∷ [] = ap (λ v. v.items) w.slots-is ∙ w.in_ok-push.ensures.items in
          subst (StartedWith text read (first + 1)) (sym items) (started_line text read first all u got so_far w.in-Some.kept keeps)
      | in_default w ↦
          let none = subst (TakesLine read.lines (length all) u first) w.in_default.is found in
          subst (StartedWith text read (first + 1)) (sym (ap (λ v. v.items) w.slots-is)) (started_past text read first all u got so_far none)
    ]

pub returns : goal.returns
returns c text before units facts is =
    let read = read_of before in
    let past = subst (λ (us : List TextUnit). length us ≤ c.loop-first.first) (sym units) c.loop-first-test.false in
    started_all text read c.loop-first.first c.loop-first.slots.items past (c.loop-first.invariant text before units facts is)
