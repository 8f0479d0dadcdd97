use Rattle.std.proofs.Common.{◌<◌, ◌^◌, List, length, map, arith}
use Rattle.std.proofs.lemmas.List.{length-map}
use Rattle.std.proofs.lemmas.Result.{IfOk-weaker}
use Rattle.toml_edits.specs.Edits.{Change, change}
use Rattle.toml_checker.proofs.Sentence.{yes_means}
use Rattle.toml_checker.proofs.judging.judge_from.Goals as goal

pub judge-requires : goal.judge-requires
judge-requires c = (c.args.pairs.now, c.in_ok-found.ensures)

pub returns-clause-verdict : goal.returns-clause-verdict
returns-clause-verdict c = c.judge.ensures c.args.pairs.now c.in_ok-found.ensures

pub returns-clause-headline : goal.returns-clause-headline
returns-clause-headline c =
    let cs : List Change = map change c.args.edits.now in
    let few : length cs < 2 ^ 63 = omega (arith, length-map c.args.edits.now change, c.if-prove.false) in
    IfOk-weaker c.judge.result _ _ (λ v h. yes_means c.args.profile c.args.before.now c.args.after.now cs c.args.pairs.now v few h)
    (c.judge.ensures c.args.pairs.now c.in_ok-found.ensures)
