use Rattle.std.proofs.Common.{Some, refl, ap, sym, [], ◌∷◌, arith}
use Rattle.std.proofs.lemmas.Result.{err_from_is_err_and}
use Rattle.toml_tree.specs.ReadingValues.{gap_at, gap_step}
use Rattle.toml_tree.specs.Reads.{cursor}
use Rattle.toml_tree.specs.View.{gap_line, piece}
use Rattle.toml_tree.proofs.Many.{loop_start, loop_pushed, loop_ended, loop_failed}
use Rattle.toml_tree.proofs.reader.Reader.gap.Goals as goal

pub returns-in_err-line : goal.returns-in_err-line
unfolding gap_at
returns-in_err-line c =
    let p = err_from_is_err_and c.from_residual.result c.from_residual.ensures.1 in
    let none = loop_start gap_step (cursor c.args.self.now) in
    rw (p.1, p.2) (loop_failed gap_line piece gap_step [] _ _ _ _ none c.in_err-line.ensures.reads (λ e. rw e refl))

pub returns-in-Done : goal.returns-in-Done
unfolding gap_at
returns-in-Done c =
    let none = loop_start gap_step (cursor c.args.self.now) in
    let all = loop_ended gap_line piece gap_step [] _ _ _ _ _ none c.in_ok-line.ensures.reads c.in-Done.is in
    (rw all.0 refl, all.1)

pub returns-in_err-line-2 : goal.returns-in_err-line-2
unfolding gap_at
returns-in_err-line-2 c =
    let p = err_from_is_err_and c.from_residual-in_err-line-2.result c.from_residual-in_err-line-2.ensures.1 in
    let none = loop_start gap_step (cursor c.args.self.now) in
    let one = loop_pushed gap_line piece gap_step [] (c.in-Next.line ∷ []) _ _ _ _ _ none refl c.in_ok-line.ensures.reads c.in_ok-line.ensures.moves c.in-Next.is in
    rw (p.1, p.2) (loop_failed gap_line piece gap_step (c.in-Next.line ∷ []) _ _ _ _ one c.in_err-line-2.ensures.reads (λ e. rw e refl))

pub returns-in-Done-2 : goal.returns-in-Done-2
unfolding gap_at
returns-in-Done-2 c =
    let none = loop_start gap_step (cursor c.args.self.now) in
    let one = loop_pushed gap_line piece gap_step [] (c.in-Next.line ∷ []) _ _ _ _ _ none refl c.in_ok-line.ensures.reads c.in_ok-line.ensures.moves c.in-Next.is in
    let all = loop_ended gap_line piece gap_step (c.in-Next.line ∷ []) _ _ _ _ _ one c.in_ok-line-2.ensures.reads c.in-Done-2.is in
    (rw all.0 (ap (λ g. Some (g, cursor c.gap_step-2.new.self)) (sym c.in_ok-one_line-in-Done-2.ensures)), all.1)

pub loop-lines-init : goal.loop-lines-init
loop-lines-init c =
    let none = loop_start gap_step (cursor c.args.self.now) in
    let one = loop_pushed gap_line piece gap_step [] (c.in-Next.line ∷ []) _ _ _ _ _ none refl c.in_ok-line.ensures.reads c.in_ok-line.ensures.moves c.in-Next.is in
    loop_pushed gap_line piece gap_step (c.in-Next.line ∷ []) c.push-2.new.self.items _ _ _ _ _ one (grind (arith, c.in_ok-push-2.ensures.items, c.in_ok-push.ensures.items, c.in_ok-lines.ensures.items)) c.in_ok-line-2.ensures.reads c.in_ok-line-2.ensures.moves c.in-Next-2.is

pub returns-in_err-line-3 : goal.returns-in_err-line-3
unfolding gap_at
returns-in_err-line-3 c =
    let p = err_from_is_err_and c.from_residual-in_err-line-3.result c.from_residual-in_err-line-3.ensures.1 in
    rw (p.1, p.2) (loop_failed gap_line piece gap_step _ _ _ _ _ c.loop-lines.invariant c.in_err-line-3.ensures.reads (λ e. rw e refl))

pub loop-lines-preserved : goal.loop-lines-preserved
loop-lines-preserved c = loop_pushed gap_line piece gap_step _ _ _ _ _ _ _ c.loop-lines.invariant c.in_ok-push-in-Next-3.ensures.items c.in_ok-line-3.ensures.reads c.in_ok-line-3.ensures.moves c.in-Next-3.is

pub returns-in-Done-3 : goal.returns-in-Done-3
unfolding gap_at
returns-in-Done-3 c =
    let all = loop_ended gap_line piece gap_step _ _ _ _ _ _ c.loop-lines.invariant c.in_ok-line-3.ensures.reads c.in-Done-3.is in
    (rw all.0 (ap (λ g. Some (g, cursor c.gap_step-in-loop-lines.new.self)) (sym c.in_ok-gap_of-in-Done-3.ensures)), all.1)
