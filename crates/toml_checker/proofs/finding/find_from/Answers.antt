use Rattle.std.proofs.Common.{◌<◌, ◌^◌, List, length, map, arith, subst}
use Rattle.std.proofs.lemmas.List.{length-map}
use Rattle.toml_edits.specs.Edits.{Change, change}
use Rattle.toml_checker.specs.declared.verdict.Verdict.TheVariants.{No, Yes}
use Rattle.toml_checker.specs.Demands.{IsVerdict}
use Rattle.toml_checker.proofs.FindingLaws.{judged_search}
use Rattle.toml_checker.proofs.Sentence.{certified_stand}
use Rattle.toml_checker.proofs.finding.find_from.Goals as goal

pub returns-in-Yes-clause-answer : goal.returns-in-Yes-clause-answer
returns-in-Yes-clause-answer c =
    let cs : List Change = map change c.args.edits.now in
    let ps = c.in_ok-found.field-0.pairs.items in
    let few : length cs < 2 ^ 63 = omega (arith, length-map c.args.edits.now change, c.if-prove.false) in
    let h = c.in_ok-judge.ensures ps c.in_ok-found.ensures.found in
    judged_search c.args.profile c.args.before.now c.args.after.now cs ps Yes few c.in_ok-found.ensures.ended (subst (IsVerdict c.args.profile c.args.before.now cs c.args.after.now ps) c.in-Yes.is h)

pub returns-in-Yes-clause-headline : goal.returns-in-Yes-clause-headline
returns-in-Yes-clause-headline c =
    let cs : List Change = map change c.args.edits.now in
    let ps = c.in_ok-found.field-0.pairs.items in
    let few : length cs < 2 ^ 63 = omega (arith, length-map c.args.edits.now change, c.if-prove.false) in
    let h = c.in_ok-judge.ensures ps c.in_ok-found.ensures.found in
    certified_stand c.args.profile c.args.before.now c.args.after.now cs ps (subst (IsVerdict c.args.profile c.args.before.now cs c.args.after.now ps) c.in-Yes.is h) few

pub returns-in-No-clause-answer : goal.returns-in-No-clause-answer
returns-in-No-clause-answer c =
    let cs : List Change = map change c.args.edits.now in
    let ps = c.in_ok-found.field-0.pairs.items in
    let few : length cs < 2 ^ 63 = omega (arith, length-map c.args.edits.now change, c.if-prove.false) in
    let h = c.in_ok-judge.ensures ps c.in_ok-found.ensures.found in
    judged_search c.args.profile c.args.before.now c.args.after.now cs ps (No c.in-No.reason) few c.in_ok-found.ensures.ended (subst (IsVerdict c.args.profile c.args.before.now cs c.args.after.now ps) c.in-No.is h)
