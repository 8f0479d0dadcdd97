use Rattle.std.proofs.Common.{◌≡◌, ◌<◌, ◌+◌, ◌∙◌, ◌∷◌, ◌++◌, [], length, take, ap, sym, arith}
use Rattle.std.proofs.lemmas.List.{take_more}
use Rattle.toml_working.proofs.HeaderSteps.{index_met, name_met}
use Rattle.toml_working.proofs.sections.steps_to_index.Goals.{in-Index, in-Name}
use Rattle.toml_working.proofs.sections.steps_to_index.Goals as goal

pub loop-place-preserved : goal.loop-place-preserved
loop-place-preserved c =
    let steps = c.args.steps.now in
    let place = c.loop-place.place in
    let low : place < length steps = omega arith in
    let more : take (place + 1) steps ≡ take place steps ++ c.index-steps-place.result ∷ [] =
    take_more steps place c.index-steps-place.result low ∙ ap (λ s. take place steps ++ s ∷ []) (sym c.index-steps-place.is) in
    elim c.match-step.branch [
      | in-Index w ↦ index_met steps place c.match-step.count _ c.index-steps-place.result more w.in-Index.is w.count-is
      | in-Name w ↦ name_met steps place c.match-step.count c.loop-place.count _ c.index-steps-place.result more w.in-Name.is w.count-is c.loop-place.invariant
    ]
