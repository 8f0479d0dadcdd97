use Rattle.std.proofs.Common.{arith, map, refl, subst, sym, take}
use Rattle.std.proofs.lemmas.List.{length-map, take_all}
use Rattle.toml_edits.specs.Drafts.{drafted}
use Rattle.toml_edits.specs.Edits.{change}
use Rattle.toml_edits.specs.Lists.{Lead}
use Rattle.toml_editor.specs.Exact.{HoldsLast, MakesAll}
use Rattle.toml_working.specs.Starting.{read_of}
use Rattle.toml_editor.proofs.MadeEdits.{any_of_one, get_map, led_on, take_map, taken_on}
use Rattle.toml_editor.proofs.MakesExact.{last_made, more_made, more_passed, none_last, none_made, none_passed, stops_at}
use Rattle.toml_editor.proofs.SpelledOne.{as_many, one_spelled}
use Rattle.toml_editor.proofs.making.make_all.Goals as goal

pub bounds-spelled-index : goal.bounds-spelled-index
bounds-spelled-index c = omega (arith, as_many c.args.edits.now c.args.spelled.now c.requires.spelled)

pub make-requires-clause-spelled : goal.make-requires-clause-spelled
make-requires-clause-spelled c =
    one_spelled c.args.edits.now c.args.spelled.now c.loop-index.index c.index-edits-index.result c.index-spelled-index.result c.requires.spelled (omega arith)
    c.index-edits-index.is (omega (arith, as_many c.args.edits.now c.args.spelled.now c.requires.spelled)) c.index-spelled-index.is

pub loop-index-init : goal.loop-index-init
loop-index-init c =
    let profile = c.args.read.profile in
    let read = read_of c.args.read.before in
    let tree = c.args.tree.now in (
      (λ a. refl),
      none_made profile read tree,
      none_passed profile read (map change c.args.edits.now) (drafted c.args.draft.now) tree,
      none_last profile read (drafted c.args.draft.now) tree,
    )

pub loop-index-preserved : goal.loop-index-preserved
loop-index-preserved c =
    let edits = c.args.edits.now in
    let here = c.loop-index in
    let edit = c.index-edits-index.result in
    let profile = c.args.read.profile in
    let read = read_of c.args.read.before in
    let made = map change (take here.index edits) in
    let old = c.args.tree.now in
    let near = drafted c.args.draft.now in
    let part = drafted here.draft in
    let taken = sym (take_map here.index edits) in (
      led_on profile edits here.index edit near here.draft c.make.new.draft (omega arith) c.index-edits-index.is here.invariant.0 c.in_default.ensures.made.applied,
      subst (λ ds. MakesAll profile read ds old c.make.new.tree) (sym (taken_on edits here.index edit (omega arith) c.index-edits-index.is))
          (more_made profile read made (change edit) old here.tree c.make.new.tree here.invariant.1 c.in_default.ensures.made.done.makes),
      more_passed profile read (map change edits) near part here.index (change edit) old here.tree here.invariant.2
          (subst (λ ds. Lead profile ds near part) taken here.invariant.0) (subst (λ ds. MakesAll profile read ds old here.tree) taken here.invariant.1)
          (get_map edits here.index edit (omega arith) c.index-edits-index.is) c.in_default.ensures.made.done.passes,
      subst (λ ds. HoldsLast profile read near ds old c.make.new.tree) (sym (taken_on edits here.index edit (omega arith) c.index-edits-index.is))
          (last_made profile read made (change edit) near part old here.tree c.make.new.tree here.invariant.0 here.invariant.1 c.in_default.ensures.made.done.holds),
    )

pub returns-in-Err-clause-told : goal.returns-in-Err-clause-told
returns-in-Err-clause-told c =
    let edits = c.args.edits.now in
    let here = c.loop-index in
    let edit = c.index-edits-index.result in
    let profile = c.args.read.profile in
    let read = read_of c.args.read.before in
    let says = c.in-Err.ensures.told in
    let old = c.args.tree.now in
    let near = drafted c.args.draft.now in
    let part = drafted here.draft in
    record {
      told = any_of_one profile edits here.index edit near part c.in-Err.fault (omega arith) c.index-edits-index.is here.invariant.0 says.told;
      stops = stops_at profile read (map change edits) near part here.index (change edit) old here.tree c.in-Err.fault here.invariant.2
          (subst (λ ds. MakesAll profile read ds old here.tree) (sym (take_map here.index edits)) here.invariant.1)
          (get_map edits here.index edit (omega arith) c.index-edits-index.is) says.told says.neither;
    }

pub returns-clause-made : goal.returns-clause-made
returns-clause-made c =
    let edits = c.args.edits.now in
    let here = c.loop-index in
    let profile = c.args.read.profile in
    let all = take_all here.index edits c.loop-index-test.false in
    record {
      lead = subst (λ es. Lead profile (map change es) (drafted c.args.draft.now) (drafted here.draft)) all here.invariant.0;
      done = record {
        makes = subst (λ es. MakesAll profile (read_of c.args.read.before) (map change es) c.args.tree.now here.tree) all here.invariant.1;
        holds =
            subst (λ es. HoldsLast profile (read_of c.args.read.before) (drafted c.args.draft.now) (map change es) c.args.tree.now here.tree) all here.invariant.3;
        passes = λ k low. here.invariant.2 k (omega (arith, low, length-map edits change));
      };
    }
