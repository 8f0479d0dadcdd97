use Rattle.std.proofs.Common.{◌∙◌, ◌∷◌, ◌++◌, [], List, append-nil, ap, map-id, subst, sym}
use Rattle.std.proofs.lemmas.Iterator.Adapters.{YieldsList-from_vec}
use Rattle.std.proofs.lemmas.Iterator.Consumers.{YieldsList-end}
use Rattle.toml_layout.specs.KnownLines.{lines_known}
use Rattle.toml_working.specs.declared.lines.Line.{Line}
use Rattle.toml_working.specs.RemovingIn.{LeavesLines, lines_of}
use Rattle.toml_working.proofs.Removed.{more_left}
use Rattle.toml_working.proofs.taking.remove_from.Goals as goal

pub loop-line-preserved-in-Continue-branch-3 : goal.loop-line-preserved-in-Continue-branch-3
loop-line-preserved-in-Continue-branch-3 c =
    let (same, so_far) = c.loop-line.invariant in
    let lines = lines_known c.args.known.now in
    let p = c.args.at.now in
    let here = subst (λ a. LeavesLines c.args.texts lines p a c.loop-line.parent.stays c.left_of.new.parent.stays (c.in-Some.line ∷ []) (lines_of c.in_ok-left.field-0))
    same c.in_ok-left.ensures.left in (
      c.in_ok-left.ensures.parent ∙ same,
      more_left c.args.texts lines p c.args.parent.now.address c.args.parent.now.stays c.loop-line.parent.stays c.left_of.new.parent.stays
          c.loop-line.yielded c.loop-line.lines.items _ c.in-Some.line (lines_of c.in_ok-left.field-0) so_far here
          (ap (λ o. c.loop-line.lines.items ++ lines_of o) c.in-Some-2.is ∙ sym {A = List Line} c.in_ok-push.ensures.items),
    )

pub loop-line-preserved : goal.loop-line-preserved
loop-line-preserved c =
    let (same, so_far) = c.loop-line.invariant in
    let lines = lines_known c.args.known.now in
    let p = c.args.at.now in
    let here = subst (λ a. LeavesLines c.args.texts lines p a c.loop-line.parent.stays c.left_of.new.parent.stays (c.in-Some.line ∷ []) (lines_of c.in_ok-left.field-0))
    same c.in_ok-left.ensures.left in (
      c.in_ok-left.ensures.parent ∙ same,
      more_left c.args.texts lines p c.args.parent.now.address c.args.parent.now.stays c.loop-line.parent.stays c.left_of.new.parent.stays
          c.loop-line.yielded c.loop-line.lines.items _ c.in-Some.line (lines_of c.in_ok-left.field-0) so_far here
          (ap (λ o. c.loop-line.lines.items ++ lines_of o) c.in_default.is ∙ append-nil c.loop-line.lines.items),
    )

pub returns-clause-lines : goal.returns-clause-lines
returns-clause-lines c =
    let it = c.into_iter-line-iterator.result in
    let given = c.into_iter-line-iterator.ensures.into_iter_gives in
    let all = YieldsList-from_vec {s = it} c.replace-old.result.items given.0 (given.1 ∙ c.replace-old.result.ok.0) in
    let end = YieldsList-end all c.loop-line.yielded _ c.loop-line.yielded_by _ c.next.new.self c.in-None.is c.next.ensures.steps in
    subst (λ xs. LeavesLines c.args.texts (lines_known c.args.known.now) c.args.at.now c.args.parent.now.address c.args.parent.now.stays c.loop-line.parent.stays xs c.loop-line.lines.items)
    (sym (map-id c.loop-line.yielded) ∙ end.0 ∙ ap (λ v. v.items) c.replace-old.ensures.value) c.loop-line.invariant.1
