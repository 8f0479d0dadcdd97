use Rattle.std.proofs.Common.{◌<◌, length, None, Some, arith, subst}
use Rattle.toml_names.specs.reader.Parts.{part_kinds}
use Rattle.toml_places.specs.Leading.{below_step}
use Rattle.toml_places.specs.Parts.{Stands, kinds_in}
use Rattle.toml_explain.proofs.Fronts.{one_further}
use Rattle.toml_explain.proofs.standing.front_of.Goals as goal

pub returns-in-None : goal.returns-in-None
returns-in-None c =
    let parts = c.args.names.now in
    let steps = c.args.steps.now in
    let depth = c.loop-depth.depth in
    let low : depth < length steps = omega (arith, c.loop-depth-test.true, c.loop-depth.auto.depth-end) in
    let behind = subst (λ o. Stands parts o (below_step c.index-steps-depth.result (kinds_in parts (Some c.loop-depth.part)))) c.in-None.is c.in_ok-next.ensures in
    record {
      within = omega (arith, low);
      stands = c.loop-depth.invariant;
      ends = λ _. one_further parts steps (part_kinds parts 0) depth c.loop-depth.part c.index-steps-depth.result _ None low c.index-steps-depth.is c.loop-depth.invariant behind;
    }

pub loop-depth-preserved : goal.loop-depth-preserved
loop-depth-preserved c =
    let parts = c.args.names.now in
    let steps = c.args.steps.now in
    let depth = c.loop-depth.depth in
    let low : depth < length steps = omega (arith, c.loop-depth-test.true, c.loop-depth.auto.depth-end) in
    let behind = subst (λ o. Stands parts o (below_step c.index-steps-depth.result (kinds_in parts (Some c.loop-depth.part)))) c.in-Some.is c.in_ok-next.ensures in
    one_further parts steps (part_kinds parts 0) depth c.loop-depth.part c.index-steps-depth.result _ (Some c.in-Some.next) low c.index-steps-depth.is c.loop-depth.invariant behind
