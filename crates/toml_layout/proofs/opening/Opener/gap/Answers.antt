use Rattle.std.proofs.Common.{◌≡◌, ◌++◌, ◌∷◌, [], ◌∙◌, ap, sym, map, arith, append-nil}
use Rattle.std.proofs.lemmas.List.{drop_all}
use Rattle.std.specs.Prelude.{option_map}
use Rattle.toml_tree.specs.View.{gap, gap_line, piece}
use Rattle.toml_layout.specs.OpenOutlines.{gap_read, parts_read}
use Rattle.toml_layout.specs.Parts as outline
use Rattle.toml_layout.specs.TreeOutlines.{comment_part, ws_part}
use Rattle.toml_layout.specs.declared.tree.GapPart.TheVariants.{Comment, Newline}
use Rattle.toml_layout.proofs.Small.{dropped}
use Rattle.toml_layout.proofs.OpenedGap.{read_more, gap_line_on, gap_ended}
use Rattle.toml_layout.proofs.opening.Opener.gap.Goals as goal
use Rattle.toml_layout.proofs.opening.Opener.gap.Goals.{in-Some-comment+in_ok-push, in_default-comment}

pub loop-line-preserved : goal.loop-line-preserved
loop-line-preserved c end =
    let line = c.line-item.result in
    let old = gap_read c.loop-line.opened in
    let before = gap_read c.push_ws.new.self in
    let left = ap (map gap_line) (dropped c.lines-line-items.result.now c.loop-line.line-index line c.loop-line-test.true c.line-item.is) in
    let ws = c.in_ok-push_ws.ensures ∙ ap (λ t. old ++ ws_part t) c.leaf-in-loop-line.ensures in
    let comment : gap_read c.match-line.opened ≡ before ++ comment_part (option_map piece line.blank.comment) = elim c.match-line.branch [
      | in-Some-comment+in_ok-push w ↦
          ap gap_read w.opened-is ∙ ap parts_read w.in_ok-push.ensures.items ∙ read_more c.push_ws.new.self.parts.items (Comment w.leaf-in-Some-comment.result)
          ∙ ap (λ t. before ++ outline.Comment t ∷ []) w.leaf-in-Some-comment.ensures
          ∙ ap (λ o. before ++ comment_part (option_map piece o)) (sym w.in-Some-comment.is)
      | in_default-comment w ↦
          ap gap_read w.opened-is ∙ sym (append-nil before) ∙ ap (λ o. before ++ comment_part (option_map piece o)) (sym w.in_default-comment.is)
    ] in
    let newline = ap parts_read c.in_ok-push-2.ensures.items ∙ read_more c.match-line.opened.parts.items (Newline c.leaf-in-loop-line-2.result)
    ∙ ap (λ t. gap_read c.match-line.opened ++ outline.Newline t ∷ []) c.leaf-in-loop-line-2.ensures in
    gap_line_on (gap_line line) _ _ _ _ _ _ _ end left ws comment newline (c.loop-line.invariant end)

pub returns : goal.returns
returns c stands =
    let items = c.lines-line-items.result.now in
    let g = gap c.args.gap.now in
    let none = ap (map gap_line) (drop_all c.loop-line.line-index items (omega (arith, c.loop-line-test.false))) in
    gap_ended g (map gap_line items) _ (gap_read c.loop-line.opened) _ none c.lines-line-items.ensures
    (c.in_ok-push_ws-2.ensures ∙ ap (λ t. gap_read c.loop-line.opened ++ ws_part t) (c.leaf-2.ensures ∙ ap (λ p. p.text) c.ws-2.ensures)) (c.loop-line.invariant g.ws.text)
