use Rattle.std.proofs.Common.{◌≡◌, ◌<◌, ◌&&◌, not, false, Bool, List, ◌+◌, ◌↔◌, ℕ, get_or, length, sym, ap, subst, ◌∙◌, refl, arith}
use Rattle.toml_units.specs.View.{all_units}
use Rattle.toml_checker.specs.Marks.{IsSet, IsFree, stops, reach_with, reaches}
use Rattle.toml_checker.proofs.Reach.{Reached, at, reached_more, free_here, one_more, stop_of}
use Rattle.toml_checker.proofs.outer.free.Goals as goal

pub loop-index-preserved : goal.loop-index-preserved
loop-index-preserved c =
    let us = c.args.units.now in
    let marks = c.args.marks.now in
    let i = c.loop-index.index in
    let ends = stops (all_units us) in
    let inv = c.loop-index.invariant in
    let stop : c.index-units-index.result.span.end ≡ at ends i = stop_of us i c.index-units-index.result c.loop-index-test.true c.index-units-index.is in
    let reached : Reached ends marks (i + 1) c.reach_with-reach.result =
    subst (λ r. Reached ends marks (i + 1) r) (sym (c.reach_with-reach.ensures ∙ ap (λ m. reach_with c.loop-index.reach m c.index-units-index.result.span.end) c.is_marked-marked.ensures ∙ ap (λ e. reach_with c.loop-index.reach (get_or marks i false) e) stop)) (reached_more ends marks i c.loop-index.reach (get_or marks i false) refl inv.reached) in
    let test : c.reaches.result ≡ reaches c.loop-index.reach (at ends i) = c.reaches.ensures ∙ ap (reaches c.loop-index.reach) stop in
    let alone : c.stands_alone.result ≡ (get_or marks i false && not c.reaches.result) = c.stands_alone.ensures ∙ ap (λ m. m && not c.reaches.result) c.is_marked-marked.ensures in
    let here = free_here ends marks i c.loop-index.reach (get_or marks i false) c.reaches.result refl (sym test) inv.reached in
    let long : length c.loop-index.free.items ≡ i = omega arith in
    record {
      len = omega (arith, c.in_ok-push.ensures.len);
      reached = reached;
      held = subst (λ (xs : List Bool). (k : ℕ) → k < i + 1 → IsSet xs k ↔ IsFree ends marks k) (sym c.in_ok-push.ensures.items)
          (one_more (IsFree ends marks) c.loop-index.free.items c.stands_alone.result i long inv.held ((λ e. here.0 (sym alone ∙ e)), (λ h. alone ∙ here.1 h)));
    }
