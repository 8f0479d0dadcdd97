use Rattle.std.proofs.Common.{List, map, subst}
use Rattle.toml_edits.specs.Edits.{Change, change}
use Rattle.toml_checker.specs.After.{Makes}
use Rattle.toml_checker.specs.Walking.{FindsNames, NamesAll}
use Rattle.toml_checker.proofs.Judged.{no_after, no_data, no_edits, so_far, stands}
use Rattle.toml_checker.proofs.judging.judge.Goals as goal

pub returns-in_default-others : goal.returns-in_default-others
returns-in_default-others c = λ ps is.
    let p = c.args.profile in
    no_after p c.args.before.now c.args.after.now (map change c.args.edits.now) ps c.in-Some.names (subst (FindsNames p c.args.before.now) c.in-Some.is is.first) (subst (FindsNames p c.args.after.now) c.in_default-others.is is.second)

pub make-requires : goal.make-requires
make-requires c =
    let a : NamesAll c.args.profile c.args.before.now c.in-Some.names = subst (FindsNames c.args.profile c.args.before.now) c.in-Some.is c.requires.1.first in
    (a.lines, a.stand)

pub are_made-requires-clause-new : goal.are_made-requires-clause-new
are_made-requires-clause-new c =
    let b : NamesAll c.args.profile c.args.after.now c.in-Some-others.others = subst (FindsNames c.args.profile c.args.after.now) c.in-Some-others.is c.requires.1.second in
    (b.lines, b.stand)

pub are_made-requires-clause-old : goal.are_made-requires-clause-old
are_made-requires-clause-old c =
    let p = c.args.profile in
    let cs : List Change = map change c.args.edits.now in
    let is = c.requires.1 in
    stands p c.args.before.now c.args.after.now cs c.requires.0 c.in-Some.names c.in-Some-others.others
    (subst (FindsNames p c.args.before.now) c.in-Some.is is.first) (subst (FindsNames p c.args.after.now) c.in-Some-others.is is.second) c.in-Some-2.made (subst (Makes p c.in-Some.names cs) c.in-Some-2.is c.in_ok-made.ensures)

pub returns-in_default-2 : goal.returns-in_default-2
returns-in_default-2 c = λ ps is.
    let p = c.args.profile in
    let cs : List Change = map change c.args.edits.now in
    no_edits p c.args.before.now c.args.after.now cs ps c.in-Some.names c.in-Some-others.others
    (subst (FindsNames p c.args.before.now) c.in-Some.is is.first) (subst (FindsNames p c.args.after.now) c.in-Some-others.is is.second) (subst (Makes p c.in-Some.names cs) c.in_default-2.is c.in_ok-made.ensures)

pub returns-then-not-branch : goal.returns-then-not-branch
returns-then-not-branch c = λ ps is.
    let p = c.args.profile in
    let cs : List Change = map change c.args.edits.now in
    no_data p c.args.before.now c.args.after.now cs ps c.in-Some.names c.in-Some-others.others
    (subst (FindsNames p c.args.before.now) c.in-Some.is is.first) (subst (FindsNames p c.args.after.now) c.in-Some-others.is is.second) c.in-Some-2.made (subst (Makes p c.in-Some.names cs) c.in-Some-2.is c.in_ok-made.ensures)
    c.in_ok-are_made.field-0 c.in_ok-are_made.ensures c.if-not-branch.true

pub returns : goal.returns
returns c = λ ps is.
    let p = c.args.profile in
    let cs : List Change = map change c.args.edits.now in
    c.judge_units.ensures p ps (so_far p c.args.before.now c.args.after.now cs ps c.in-Some.names c.in-Some-others.others
    (subst (FindsNames p c.args.before.now) c.in-Some.is is.first) (subst (FindsNames p c.args.after.now) c.in-Some-others.is is.second) c.in-Some-2.made (subst (Makes p c.in-Some.names cs) c.in-Some-2.is c.in_ok-made.ensures)
    c.in_ok-are_made.field-0 c.in_ok-are_made.ensures c.if-not-branch.false) is.says
