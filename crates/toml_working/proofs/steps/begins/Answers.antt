use Rattle.std.proofs.Common.{◌∙◌, ◌+◌, ◌-◌, ◌&&◌, drop, ap, sym, arith}
use Rattle.toml_working.proofs.Beginning.{begins_short, begins_at, begins_apart}
use Rattle.toml_layout.specs.Beginnings.{begins}
use Rattle.toml_working.proofs.steps.begins.Goals as goal

pub returns-then-steps-above : goal.returns-then-steps-above
returns-then-steps-above c = sym (begins_short c.args.above.now c.args.steps.now (omega arith))

pub returns-then-not-is_same : goal.returns-then-not-is_same
returns-then-not-is_same c =
    let a = c.args.above.now in
    let b = c.args.steps.now in
    let here = c.loop-place.place - 1 in
    let step = begins_at a b here c.index-above-place.result c.index-steps-place.result (omega arith) (omega arith) c.index-above-place.is c.index-steps-place.is in
    let apart = c.if-not-is_same.ensures in
    sym (begins_apart a b here (step ∙ ap (λ r. r && begins (drop (here + 1) a) (drop (here + 1) b)) (sym apart)))
