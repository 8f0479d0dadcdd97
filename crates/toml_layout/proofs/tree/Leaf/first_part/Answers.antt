use Rattle.std.proofs.Common.{◌≡◌, ◌∙◌, IsUtf8, ap, inl, inr, length, subst, sym}
use Rattle.toml_text.proofs.Proved.{comment_unmarked}
use Rattle.toml_text.specs.Bytes.{is_comment, is_ws}
use Rattle.toml_text.specs.Runs.{newline_len, run_len}
use Rattle.toml_layout.specs.OpenOutlines.{leaf_text}
use Rattle.toml_layout.specs.Parts.{Comment, part_text}
use Rattle.toml_layout.proofs.TextParts.{IsCommentCut, behind_cut, comment_bound, cut_fits, end_bound, first_comment, newline_bound, ws_bound}
use Rattle.toml_layout.proofs.tree.Leaf.first_part.Goals as goal
use Rattle.toml_layout.proofs.tree.Leaf.first_part.Goals.{then-comment-gt0, else-comment-gt0}

pub split-requires : goal.split-requires
split-requires c =
    let text = leaf_text c.args.self in
    let is : c.ws_len-ws.result ≡ run_len is_ws text = c.ws_len-ws.ensures.run ∙ ap (run_len is_ws) (c.as_bytes.ensures.value ∙ c.text-text.ensures) in
    ws_bound text c.ws_len-ws.result (subst IsUtf8 c.text-text.ensures c.text-text.utf8) is

pub split-requires-then-newline-gt0 : goal.split-requires-then-newline-gt0
split-requires-then-newline-gt0 c =
    let text = leaf_text c.args.self in
    let is : c.newline_len-newline.result ≡ newline_len text = c.newline_len-newline.ensures.value ∙ ap newline_len (c.as_bytes-2.ensures.value ∙ c.text-text.ensures) in
    newline_bound text c.newline_len-newline.result (subst IsUtf8 c.text-text.ensures c.text-text.utf8) is

pub split-requires-2 : goal.split-requires-2
split-requires-2 c =
    let text = leaf_text c.args.self in
    let bytes = c.as_bytes-3.ensures.value ∙ c.text-text.ensures in
    let is : c.unmarked_len-comment.result ≡ run_len is_comment text = c.unmarked_len-comment.ensures.run ∙ comment_unmarked c.as_bytes-3.result.now ∙ ap (run_len is_comment) bytes in
    elim c.if-comment-gt0.branch [
      | then-comment-gt0 w ↦ comment_bound text c.if-comment-gt0.split (w.split-is ∙ is)
      | else-comment-gt0 w ↦ end_bound text c.if-comment-gt0.split (w.split-is ∙ ap length c.text-text.ensures)
    ]

pub returns-clause-front : goal.returns-clause-front
returns-clause-front c =
    let text = leaf_text c.args.self in
    let bytes = c.as_bytes.ensures.value ∙ c.text-text.ensures in
    let ws : c.ws_len-ws.result ≡ run_len is_ws text = c.ws_len-ws.ensures.run ∙ ap (run_len is_ws) bytes in
    let newline : c.newline_len-newline.result ≡ newline_len text = c.newline_len-newline.ensures.value ∙ ap newline_len (c.as_bytes-2.ensures.value ∙ c.text-text.ensures) in
    let comment : c.unmarked_len-comment.result ≡ run_len is_comment text =
    c.unmarked_len-comment.ensures.run ∙ comment_unmarked c.as_bytes-3.result.now ∙ ap (run_len is_comment) (c.as_bytes-3.ensures.value ∙ c.text-text.ensures) in
    let cut : IsCommentCut text c.unmarked_len-comment.result c.if-comment-gt0.split = elim c.if-comment-gt0.branch [
      | then-comment-gt0 w ↦ inl (w.if-comment-gt0.true, w.split-is)
      | else-comment-gt0 w ↦ inr (w.if-comment-gt0.false, w.split-is ∙ ap length c.text-text.ensures)
    ] in
    ap Comment c.split-2.ensures.front
    ∙ sym (first_comment text c.ws_len-ws.result c.newline_len-newline.result c.unmarked_len-comment.result c.if-comment-gt0.split
    ws c.if-ws-gt0.false newline c.if-newline-gt0.false comment cut)

pub returns-clause-behind : goal.returns-clause-behind
returns-clause-behind c =
    let text = leaf_text c.args.self in
    let bytes = c.as_bytes.ensures.value ∙ c.text-text.ensures in
    let ws : c.ws_len-ws.result ≡ run_len is_ws text = c.ws_len-ws.ensures.run ∙ ap (run_len is_ws) bytes in
    let newline : c.newline_len-newline.result ≡ newline_len text = c.newline_len-newline.ensures.value ∙ ap newline_len (c.as_bytes-2.ensures.value ∙ c.text-text.ensures) in
    let comment : c.unmarked_len-comment.result ≡ run_len is_comment text =
    c.unmarked_len-comment.ensures.run ∙ comment_unmarked c.as_bytes-3.result.now ∙ ap (run_len is_comment) (c.as_bytes-3.ensures.value ∙ c.text-text.ensures) in
    let cut : IsCommentCut text c.unmarked_len-comment.result c.if-comment-gt0.split = elim c.if-comment-gt0.branch [
      | then-comment-gt0 w ↦ inl (w.if-comment-gt0.true, w.split-is)
      | else-comment-gt0 w ↦ inr (w.if-comment-gt0.false, w.split-is ∙ ap length c.text-text.ensures)
    ] in
    let first = first_comment text c.ws_len-ws.result c.newline_len-newline.result c.unmarked_len-comment.result c.if-comment-gt0.split
    ws c.if-ws-gt0.false newline c.if-newline-gt0.false comment cut in
    c.split-2.ensures.behind ∙ behind_cut text c.if-comment-gt0.split (cut_fits text c.unmarked_len-comment.result c.if-comment-gt0.split comment cut) (ap part_text first)
