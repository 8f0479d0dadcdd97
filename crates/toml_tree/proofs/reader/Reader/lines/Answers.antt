use Rattle.std.proofs.Common.{Some, map, sym, ap, refl, ◌∙◌}
use Rattle.std.proofs.lemmas.Result.{err_from_is_err_and}
use Rattle.toml_tree.specs.Lines.{line}
use Rattle.toml_tree.specs.ReadingLines.{lines_at, line_step}
use Rattle.toml_tree.specs.Reads.{cursor}
use Rattle.toml_tree.proofs.Many.{loop_pushed, loop_ended, loop_failed, map_push}
use Rattle.toml_tree.proofs.reader.Reader.lines.Goals as goal

pub returns-in_err-line : goal.returns-in_err-line
unfolding lines_at
returns-in_err-line c =
    let p = err_from_is_err_and c.from_residual.result c.from_residual.ensures.1 in
    rw (p.1, p.2) (loop_failed line line (line_step c.args.profile) _ _ _ _ _ c.loop-lines.invariant c.in_err-line.ensures.reads (λ e. rw e refl))

pub loop-lines-preserved : goal.loop-lines-preserved
loop-lines-preserved c = loop_pushed line line (line_step c.args.profile) _ _ _ _ _ _ _ c.loop-lines.invariant c.in_ok-push-in-Next.ensures.items c.in_ok-line.ensures.reads c.in_ok-line.ensures.moves c.in-Next.is

pub returns-in-Done : goal.returns-in-Done
unfolding lines_at
returns-in-Done c =
    let all = loop_ended line line (line_step c.args.profile) _ _ _ _ _ _ c.loop-lines.invariant c.in_ok-line.ensures.reads c.in-Done.is in
    (rw all.0 (ap (λ l. Some (l, cursor c.line_step.new.self)) (sym (ap (map line) c.in_ok-push-in-Done.ensures.items ∙ map_push line _ _))), all.1)
