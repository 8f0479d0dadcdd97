use Rattle.std.proofs.Common.{◌≡◌, ◌∙◌, ◌-◌, ◌+◌, arith, drop, subst, sym, true}
use Rattle.toml_layout.specs.Gaps.{are_ws}
use Rattle.toml_layout.proofs.GapParts.{trimmed_got}
use Rattle.toml_layout.proofs.parts.trimmed.Goals as goal

pub returns-then-not-is_ws : goal.returns-then-not-is_ws
returns-then-not-is_ws c =
    let ps = c.args.parts.now in
    let here = c.loop-index.index in
    let again : here ≡ here - 1 + 1 = omega (arith, c.loop-index-test.true) in
    c.split_at.ensures.front
    ∙ trimmed_got ps (here - 1) _ (omega (arith, c.loop-index-test.true, c.loop-index.auto.index)) (sym c.is_ws.ensures ∙ c.if-not-is_ws.true)
    (subst (λ n. are_ws (drop n ps) ≡ true) again c.loop-index.invariant)
