use Rattle.std.proofs.Common.{Some, map, refl, ap, sym}
use Rattle.std.proofs.lemmas.Result.{err_from_is_err_and}
use Rattle.toml_tree.specs.Reads.{cursor}
use Rattle.toml_tree.specs.View.{dotted}
use Rattle.toml_tree.specs.Reading.{dotted_at, dotted_step}
use Rattle.toml_tree.proofs.Many.{loop_pushed, loop_ended, loop_failed}
use Rattle.toml_tree.proofs.reader.Reader.dotted.Goals as goal

pub returns-in_err-part : goal.returns-in_err-part
unfolding dotted_at
returns-in_err-part c =
    let p = err_from_is_err_and c.from_residual.result c.from_residual.ensures.1 in
    rw (p.1, p.2) (loop_failed dotted (λ u. u) dotted_step _ _ _ _ _ c.loop-parts.invariant c.in_err-part.ensures.reads (λ e. rw e refl))

pub loop-parts-preserved : goal.loop-parts-preserved
loop-parts-preserved c = loop_pushed dotted (λ u. u) dotted_step _ _ _ _ _ _ _ c.loop-parts.invariant c.in_ok-push_sparing-in-Next.ensures.items c.in_ok-part.ensures.reads c.in_ok-part.ensures.moves c.in-Next.is

pub returns-in-Done : goal.returns-in-Done
unfolding dotted_at
returns-in-Done c =
    let all = loop_ended dotted (λ u. u) dotted_step _ _ _ _ _ _ c.loop-parts.invariant c.in_ok-part.ensures.reads c.in-Done.is in
    (rw all.0 (ap (λ l. Some (map dotted l, cursor c.dotted_step.new.self)) (sym c.shrink_to_fit.ensures.items)), all.1)
