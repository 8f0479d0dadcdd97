use Rattle.std.proofs.Common.{[], ◌∙◌, sym}
use Rattle.toml_layout.proofs.MarginParts.{own_no_comment, own_no_line}
use Rattle.toml_layout.proofs.gaps.comment_indent.Goals as goal
use Rattle.toml_layout.proofs.gaps.comment_indent.Goals.{then-is_comment+in_default, else-is_comment}
use Rattle.toml_layout.specs.declared.tree.GapPart.TheVariants.{Ws}
use Rattle.toml_layout.specs.declared.tree.Leaf.TheVariants.{Kept}

pub loop-index-preserved : goal.loop-index-preserved
loop-index-preserved c =
    let ps = c.args.parts.now in
    let i = c.loop-index.index in
    elim c.if-is_comment.branch [
      | then-is_comment+in_default w ↦
          own_no_line ps i (Ws (Kept 0 (record { ref_ptr = (0, 0); now = [] }))) w.split_at.result.0.now c.loop-index-test.true w.split_at.ensures.front w.in_default.ensures
          c.loop-index.invariant
      | else-is_comment w ↦ own_no_comment ps i _ c.loop-index-test.true (sym c.is_comment.ensures ∙ w.if-is_comment.false) c.loop-index.invariant
    ]
