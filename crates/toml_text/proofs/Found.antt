-- The plain functions find the pieces of the forms.
use Rattle.std.proofs.Common.{◌≡◌, ℕ, zero, ◌<◌, [], ◌∷◌, ◌++◌, length, ◌⊎◌, refl, sym, ap, ◌∙◌, arith, inl, inr, ⊎_elim, eq-eqb}
use Rattle.std.proofs.lemmas.Bool.{cond-true, cond-false}
use Rattle.toml_text.specs.Bytes.{is_comment}
use Rattle.toml_text.specs.Laws.{RunIsPiece, RunIsFound, NewlineIsPiece, NewlineIsFound, CommentIsPiece, CommentIsFound}
use Rattle.toml_text.specs.Runs.{newline_len, comment_len}
use Rattle.toml_text.proofs.Runs.{run_len-le, run_each}
use Rattle.toml_text.proofs.Newlines.{newline_len-le, newline_piece}
use Rattle.toml_text.proofs.Comments.{comment_len-le, comment_piece}

some_or_none : (n : ℕ) → (n ≡ 0) ⊎ (0 < n)
some_or_none zero = inl refl
some_or_none n = inr (omega arith)

pub run_piece : RunIsPiece
run_piece p bs = (run_len-le p bs, run_each p bs)

pub run_found : RunIsFound
run_found p [] [] each stop = refl
run_found p [] (b ∷ bs) each stop = cond-false _ _ _ stop
run_found p (b ∷ bs) rest each stop = cond-true _ _ _ each.0 ∙ omega (arith, run_found p bs rest each.1 stop)

pub newlines_piece : NewlineIsPiece
newlines_piece bs = (newline_len-le bs, ⊎_elim (λ (z : newline_len bs ≡ 0). inl z) (λ (s : 0 < newline_len bs). inr (newline_piece bs s)) (some_or_none (newline_len bs)))

pub newline_found : NewlineIsFound
newline_found piece rest newline = ⊎_elim
    (λ (lf : piece ≡ 0x0A ∷ []). ap (λ bs. newline_len (bs ++ rest)) lf ∙ sym (ap length lf))
    (λ (crlf : piece ≡ 0x0D ∷ 0x0A ∷ []). ap (λ bs. newline_len (bs ++ rest)) crlf ∙ sym (ap length crlf))
    newline

pub comments_piece : CommentIsPiece
comments_piece bs = (comment_len-le bs, ⊎_elim (λ (z : comment_len bs ≡ 0). inl z) (λ (s : 0 < comment_len bs). inr (comment_piece bs s)) (some_or_none (comment_len bs)))

pub comment_found : CommentIsFound
comment_found [] rest comment stop = absurd comment
comment_found (b ∷ bs) rest comment stop = cond-true _ _ _ (eq-eqb b 0x23 comment.0) ∙ omega (arith, run_found is_comment bs rest comment.1 stop)
