use Rattle.std.proofs.Common.{◌-◌, subst, arith}
use Rattle.std.specs.Prelude.{MatchOption}
use Rattle.toml_working.specs.Following.{IsLastThat, NoneUpTo, is_landmark}
use Rattle.toml_working.specs.Starting.{read_of}
use Rattle.toml_working.proofs.WentUp.{none_up, none_yet, up_slot}
use Rattle.toml_working.proofs.working.Tree.landmark.Goals as goal

pub returns-in-Some : goal.returns-in-Some
returns-in-Some c =
    let read = read_of c.args.before in
    let slots = c.args.self.now.slots.items in
    let f = is_landmark c.args.what in
    subst (λ o. MatchOption o (NoneUpTo f read slots c.args.place c.args.place.slot 0) (IsLastThat f read slots c.args.place)) c.in-Some.is
    (c.in_ok-found.ensures c.args.place (none_yet f read slots c.args.place))

pub loop-slot-init : goal.loop-slot-init
loop-slot-init c =
    let read = read_of c.args.before in
    let slots = c.args.self.now.slots.items in
    let f = is_landmark c.args.what in
    subst (λ o. MatchOption o (NoneUpTo f read slots c.args.place c.args.place.slot 0) (IsLastThat f read slots c.args.place)) c.in_default.is
    (c.in_ok-found.ensures c.args.place (none_yet f read slots c.args.place))

pub returns-in-Some-2 : goal.returns-in-Some-2
returns-in-Some-2 c =
    let read = read_of c.args.before in
    let slots = c.args.self.now.slots.items in
    let f = is_landmark c.args.what in
    let here = c.loop-slot.slot in
    subst (λ o. MatchOption o (NoneUpTo f read slots c.args.place (here - 1) 0) (IsLastThat f read slots c.args.place)) c.in-Some-2.is
    (c.in_ok-found-2.ensures c.args.place (up_slot f read slots c.args.place here c.lines_in-index.result (omega (arith, c.loop-slot-test.true))
    c.lines_in-index.ensures c.loop-slot.invariant))

pub loop-slot-preserved : goal.loop-slot-preserved
loop-slot-preserved c =
    let read = read_of c.args.before in
    let slots = c.args.self.now.slots.items in
    let f = is_landmark c.args.what in
    let here = c.loop-slot.slot in
    subst (λ o. MatchOption o (NoneUpTo f read slots c.args.place (here - 1) 0) (IsLastThat f read slots c.args.place)) c.in_default-2.is
    (c.in_ok-found-2.ensures c.args.place (up_slot f read slots c.args.place here c.lines_in-index.result (omega (arith, c.loop-slot-test.true))
    c.lines_in-index.ensures c.loop-slot.invariant))

pub returns : goal.returns
returns c =
    none_up (is_landmark c.args.what) (read_of c.args.before) c.args.self.now.slots.items c.args.place c.loop-slot.slot (omega (arith, c.loop-slot-test.false))
    c.loop-slot.invariant
