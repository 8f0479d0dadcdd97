use Rattle.std.proofs.Common.{◌<◌, length, sym, ◌∙◌, arith}
use Rattle.std.proofs.lemmas.List.{take_more_same}
use Rattle.toml_names.proofs.Proved.{same_step-equal}
use Rattle.toml_print.proofs.Behind.{differs, get_or-any}
use Rattle.toml_print.proofs.values.behind.Goals as goal

pub returns-then-not-is_same : goal.returns-then-not-is_same
returns-then-not-is_same c = λ rest is.
    let low : c.loop-index.index < length c.args.front.now = omega (arith, c.loop-index-test.true, c.loop-index.auto.index-end) in
    differs c.args.front.now c.args.steps.now rest c.loop-index.index c.index-front-index.result c.index-steps-index.result _ _ low c.index-front-index.is c.index-steps-index.is
    (sym c.is_same.ensures ∙ c.if-not-is_same.true) is

pub loop-index-preserved : goal.loop-index-preserved
loop-index-preserved c =
    let front = c.args.front.now in
    let steps = c.args.steps.now in
    let i = c.loop-index.index in
    let low : i < length front = omega (arith, c.loop-index-test.true, c.loop-index.auto.index-end) in
    let within : i < length steps = omega (arith, low, c.if-steps-front.false) in
    let same = same_step-equal c.index-front-index.result c.index-steps-index.result (sym c.is_same.ensures ∙ c.if-not-is_same.false) in
    take_more_same front steps i c.index-front-index.result low within c.loop-index.invariant (sym c.index-front-index.is ∙ same ∙ c.index-steps-index.is ∙ get_or-any steps i c.index-steps-index.result c.index-front-index.result within)
