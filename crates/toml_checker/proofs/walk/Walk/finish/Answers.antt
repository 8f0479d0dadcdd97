use Rattle.std.proofs.Common.{◌++◌, None, Ok, List, refl, ap, subst}
use Rattle.toml_edits.specs.Edits.{Change}
use Rattle.toml_units.specs.Cursors.{Ends}
use Rattle.toml_checker.specs.Added.{HasAdded}
use Rattle.toml_checker.specs.Traces.{lined_of}
use Rattle.toml_checker.specs.Walking.{IsOn, PassingTo}
use Rattle.toml_checker.proofs.Finishing.{all_of, at_end}
use Rattle.toml_checker.proofs.walk.Walk.finish.Goals as goal

pub into_names-requires : goal.into_names-requires
into_names-requires c =
    let on : IsOn c.requires.0 c.requires.1 c.args.self c.requires.2 c.requires.3 = c.requires.4 in
    at_end (subst (λ (ds : List Change). PassingTo ds c.args.self.one None c.pass_to.new.self (Ok tt)) on.edits c.in_ok-pass_to.ensures.passes c.requires.0 c.requires.2 on.first)

pub into_names-requires-2 : goal.into_names-requires-2
into_names-requires-2 c =
    let on : IsOn c.requires.0 c.requires.1 c.args.self c.requires.2 c.requires.3 = c.requires.4 in
    at_end (c.in_ok-pass_to-2.ensures.passes c.requires.0 c.requires.3 on.second)

pub returns : goal.returns
returns c = λ profile cs ms ns on.
    let old = c.args.self in
    let one = c.pass_to.new.self in
    let other = c.pass_to-2.new.self in
    let first = subst (λ (ds : List Change). PassingTo ds old.one None one (Ok tt)) on.edits c.in_ok-pass_to.ensures.passes profile ms on.first in
    let second = c.in_ok-pass_to-2.ensures.passes profile ns on.second in
    record {
      one = first.more;
      other = second.more;
      one_unpaired = first.goes.unpaired;
      other_unpaired = second.goes.unpaired;
      back = λ few also. record { first = all_of first; second = all_of second; first_few = few; second_few = also };
      names = subst (λ t. Ends profile t.now (lined_of (ms ++ first.more)) c.into_names.result) c.pass_to.ensures.text (c.into_names.ensures profile one.text.now (lined_of (ms ++ first.more)) first.holds.walks);
      others = subst (λ t. Ends profile t.now (lined_of (ns ++ second.more)) c.into_names-2.result) c.pass_to-2.ensures.text (c.into_names-2.ensures profile other.text.now (lined_of (ns ++ second.more)) second.holds.walks);
      fits_is = refl;
      kept = ap (λ k. k.all) first.holds.kept;
      added = other.added;
      has_added = subst (λ t. HasAdded old.asked t.now (ns ++ second.more) other.added) c.pass_to-2.ensures.text second.holds.added;
      lines = refl;
      comments = c.in_ok-adds_no_comments.ensures;
    }
