use Rattle.std.proofs.Common.{rules, arith, subst, ◌≡◌, ◌≤◌, ◌++◌, slice_range}
use Rattle.toml_units.specs.Pieces.{joined_text}
use Rattle.toml_units.specs.declared.piece.Piece.TheVariants.{Kept}
use Rattle.toml_working.proofs.Out.{joined_more, joined_touching}
use Rattle.toml_text.specs.Source.{text_of, IsHeld}
use Rattle.toml_working.proofs.Tidy.{kept_grown, kept_more, left_of_kept, tidy_later}
use Rattle.toml_working.specs.Tidy.{AreTidyUpTo}
use Rattle.toml_working.proofs.pieces.Pieces.keep.Goals as goal
use Rattle.toml_working.proofs.pieces.Pieces.keep.Goals.{in-Some, in-None}

pub invariant_of-self-in_err-push : goal.invariant_of-self-in_err-push
invariant_of-self-in_err-push c =
    let p = c.self.inside in
    let text = text_of p.source in
    let left = c.take_kept.new.pieces.items in
    let held : IsHeld text c.args.span = search rules in
    let later : p.end ≤ c.args.span.end = omega (arith, held.order) in
    let rest = left_of_kept text p.end c.args.span.start p.list.items left c.take_kept.result c.take_kept.ensures c.self.invariant in
    rw c.in_err-push.ensures.items (tidy_later text p.end c.args.span.end left later rest)

pub invariant_of-self-2 : goal.invariant_of-self-2
invariant_of-self-2 c =
    let p = c.self.inside in
    let text = text_of p.source in
    let left = c.take_kept.new.pieces.items in
    let held : IsHeld text c.args.span = search rules in
    rw c.in_ok-push.ensures.items
    (elim c.match-take_kept.branch [
      | in-Some w ↦
          rw w.start-is
          (kept_grown text p.end left w.in-Some.last c.args.span (subst (AreTidyUpTo text p.end) w.in-Some.ensures.1 c.self.invariant) held (omega arith))
      | in-None w ↦
          rw (w.start-is, w.in-None.ensures.0)
          (kept_more text p.end p.list.items c.self.invariant c.args.span held (omega arith) (omega (arith, held.order)) w.in-None.ensures.1)
    ])

pub returns-clause-kept : goal.returns-clause-kept
returns-clause-kept c held =
    let p = c.self.inside in
    let text = text_of p.source in
    let left = c.take_kept.new.pieces.items in
    let span = c.args.span in
    let out : joined_text text c.push.new.self.items ≡ joined_text text p.list.items ++ slice_range text span.start span.end =
    rw c.in_ok-push.ensures.items
    (elim c.match-take_kept.branch [
      | in-Some w ↦
          rw (w.start-is, w.in-Some.ensures.1)
          (joined_touching text p.end left w.in-Some.last span (subst (AreTidyUpTo text p.end) w.in-Some.ensures.1 c.self.invariant) w.in-Some.ensures.0 held.order)
      | in-None w ↦ rw (w.start-is, w.in-None.ensures.0) (joined_more text p.list.items (Kept span))
    ]) in
    (search rules, search rules)
