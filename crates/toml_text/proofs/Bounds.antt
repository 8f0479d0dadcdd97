-- A text may be cut behind whitespace, a newline and a comment.
use Rattle.std.proofs.Common.{◌≡◌, ℕ, ◌+◌, ◌<◌, true, false, cond, List, [], ◌∷◌, drop, IsUtf8, IsCharBoundary, arith, add-one, eqb}
use Rattle.std.proofs.lemmas.Bool.{or_parts, leb-false}
use Rattle.std.proofs.lemmas.Bool.Decides.{nat_tests}
use Rattle.std.proofs.lemmas.Str.{IsCharBoundary-start, IsCharBoundary-from_rest, IsUtf8-drop}
use Rattle.std.proofs.iter.AsciiBoundary.{after_IsAscii, before_ascii}
use Rattle.toml_text.specs.Bytes.{is_ws, is_comment}
use Rattle.toml_text.specs.Runs.{run_len, newline_len, comment_len}
use Rattle.toml_text.proofs.Runs.{run_len-le, run_passes, run_stop}
use Rattle.toml_text.proofs.Newlines.{newline_len-le, newline_ascii}

ws_ascii : (b : ℕ) → is_ws b ≡ true → b < 128
ws_ascii b h = grind (arith, nat_tests)

comment_stop : (b : ℕ) → is_comment b ≡ false → b < 128
comment_stop b h = leb-false 128 b (or_parts _ _ h).1

ws_front : (bs : List ℕ) → IsUtf8 bs → IsCharBoundary bs (run_len is_ws bs)
ws_front bs u = after_IsAscii bs _ u (run_len-le is_ws bs) (λ l. ws_ascii _ (run_passes is_ws bs _ (omega arith)))

newline_front : (bs : List ℕ) → IsUtf8 bs → IsCharBoundary bs (newline_len bs)
newline_front bs u = after_IsAscii bs _ u (newline_len-le bs) (newline_ascii bs)

comment_front : (bs : List ℕ) → IsUtf8 bs → IsCharBoundary bs (comment_len bs)
comment_front [] u = IsCharBoundary-start [] u
comment_front (b ∷ bs) u = elim (eqb b 0x23) as (λ t. IsCharBoundary (b ∷ bs) (cond t (run_len is_comment bs + 1) 0)) [
  | true ↦ rw add-one (before_ascii (b ∷ bs) _ (omega (arith, run_len-le is_comment bs)) (λ l. comment_stop _ (run_stop is_comment bs (omega arith))))
  | false ↦ IsCharBoundary-start (b ∷ bs) u
]

module _ (text : List ℕ) (at : ℕ) (utf8 : IsUtf8 text) (bound : IsCharBoundary text at) where
  pub ws_bound : IsCharBoundary text (at + run_len is_ws (drop at text))
  ws_bound = IsCharBoundary-from_rest text at _ bound.0 (ws_front (drop at text) (IsUtf8-drop text at utf8 bound))

  pub newline_bound : IsCharBoundary text (at + newline_len (drop at text))
  newline_bound = IsCharBoundary-from_rest text at _ bound.0 (newline_front (drop at text) (IsUtf8-drop text at utf8 bound))

  pub comment_bound : IsCharBoundary text (at + comment_len (drop at text))
  comment_bound = IsCharBoundary-from_rest text at _ bound.0 (comment_front (drop at text) (IsUtf8-drop text at utf8 bound))
