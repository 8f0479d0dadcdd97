use Rattle.std.proofs.Common.{◌≡◌, ◌++◌, true, List, Some, Ok, ap, subst}
use Rattle.std.specs.Prelude.{is_some}
use Rattle.toml_edits.specs.Edits.{Change}
use Rattle.toml_checker.specs.EditLists.{changes}
use Rattle.toml_checker.specs.Walking.{IsOn, Passing, PassingTo, TellsPair}
use Rattle.toml_checker.proofs.Pairing.{pair_fits, pair_misfits}
use Rattle.toml_checker.proofs.walk.Walk.pair.Goals as goal

pub returns-then-not-branch : goal.returns-then-not-branch
returns-then-not-branch c = λ profile cs ms ns on.
    let old = c.args.self.now in
    let mid = c.pass_to.new.self in
    let list = old.list in
    let first = subst (λ (ds : List Change). PassingTo ds old.one (Some c.args.pair.0) mid (Ok tt)) on.edits c.in_ok-pass_to.ensures.passes profile ms on.first in
    let second = c.in_ok-pass_to-2.ensures.passes profile ns on.second in
    let listed : changes list ≡ cs = on.edits in
    let told = subst (λ (ds : List Change). TellsPair ds mid c.pass_to-2.new.self c.args.pair c.in_ok-is_pair.field-0) listed c.in_ok-is_pair.ensures in
    pair_misfits profile cs old ms ns c.args.pair on mid c.pass_to-2.new.self list listed c.pass_to.ensures.text c.pass_to-2.ensures.text first second c.in_ok-is_pair.field-0 told c.if-not-branch.true

pub pass-requires : goal.pass-requires
pass-requires c =
    let on : IsOn c.requires.0 c.requires.1 c.args.self.now c.requires.2 c.requires.3 = c.requires.4 in
    let first = subst (λ (ds : List Change). PassingTo ds c.args.self.now.one (Some c.args.pair.0) c.pass_to.new.self (Ok tt)) on.edits c.in_ok-pass_to.ensures.passes c.requires.0 c.requires.2 on.first in
    record { goes = (c.requires.0, _, _, first.holds.walks); some = ap is_some (c.in_ok-is_pair.ensures.0 c.if-not-branch.false).first_is }

pub pass-requires-2 : goal.pass-requires-2
pass-requires-2 c =
    let on : IsOn c.requires.0 c.requires.1 c.args.self.now c.requires.2 c.requires.3 = c.requires.4 in
    let second = c.in_ok-pass_to-2.ensures.passes c.requires.0 c.requires.3 on.second in
    record { goes = (c.requires.0, _, _, second.holds.walks); some = ap is_some (c.in_ok-is_pair.ensures.0 c.if-not-branch.false).second_is }

pub returns : goal.returns
returns c = λ profile cs ms ns on.
    let old = c.args.self.now in
    let mid = c.pass_to.new.self in
    let list = old.list in
    let first = subst (λ (ds : List Change). PassingTo ds old.one (Some c.args.pair.0) mid (Ok tt)) on.edits c.in_ok-pass_to.ensures.passes profile ms on.first in
    let second = c.in_ok-pass_to-2.ensures.passes profile ns on.second in
    let listed : changes list ≡ cs = on.edits in
    let told = subst (λ (ds : List Change). TellsPair ds mid c.pass_to-2.new.self c.args.pair c.in_ok-is_pair.field-0) listed c.in_ok-is_pair.ensures in
    let more = subst (λ (ds : List Change). Passing ds mid true c.pass.new.self (Ok tt)) listed (c.in_ok-pass.ensures.passes (changes list) c.in_ok-fate.ensures) profile (ms ++ first.more) first.holds in
    pair_fits profile cs old ms ns c.args.pair on mid c.pass_to-2.new.self list listed c.pass_to.ensures.text c.pass_to-2.ensures.text first second c.in_ok-is_pair.field-0 told c.if-not-branch.false
    c.pass.new.self c.pass-2.new.self list listed c.pass.ensures.text c.pass-2.ensures.text more (c.in_ok-pass-2.ensures.passes profile (ns ++ second.more) second.holds)
