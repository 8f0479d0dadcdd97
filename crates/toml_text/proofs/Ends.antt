-- What each scan answers, by the length that it found behind `at`.
use Rattle.std.proofs.Common.{◌≡◌, ℕ, ◌+◌, ◌<◌, ◌≤◌, List, drop, IsUtf8, IsCharBoundary, arith}
use Rattle.std.proofs.lemmas.Str.{IsUtf8-from_is_utf8}
use Rattle.toml_text.specs.Bytes.{is_ws}
use Rattle.toml_text.specs.Forms.{IsWs, IsNewline, IsComment}
use Rattle.toml_text.specs.Limit.{IsText, max_len}
use Rattle.toml_text.specs.Longest.{IsLongest, BeginsNone}
use Rattle.toml_text.specs.Runs.{run_len, newline_len, comment_len}
use Rattle.toml_text.proofs.Runs.{longest_at, none_at, run_longest}
use Rattle.toml_text.proofs.Newlines.{newline_longest, newline_none}
use Rattle.toml_text.proofs.Comments.{comment_longest, comment_none}
use Rattle.toml_text.proofs.Bounds.{ws_bound, newline_bound, comment_bound}

pub record Ends (text : List ℕ) (at n : ℕ) : Type 0 where
  pub bound : IsCharBoundary text (at + n)
  pub fits : at + n ≤ max_len

ends : (text : List ℕ) (at n : ℕ) → IsText text → IsCharBoundary text (at + n) → Ends text at n
ends text at n is_text bound = record { bound = bound; fits = omega (arith, bound.0, is_text.fits) }

module _ (text : List ℕ) (at n : ℕ) (is_text : IsText text) (bound : IsCharBoundary text at) where
  utf8 : IsUtf8 text
  utf8 = IsUtf8-from_is_utf8 text is_text.utf8

  pub ws_ends : n ≡ run_len is_ws (drop at text) → Ends text at n
  ws_ends is = rw is (ends text at _ is_text (ws_bound text at utf8 bound))

  pub ws_longest : n ≡ run_len is_ws (drop at text) → IsLongest IsWs text at (at + n)
  ws_longest is = rw is (longest_at IsWs text at _ bound.0 (run_longest is_ws (drop at text)))

  pub newline_ends : n ≡ newline_len (drop at text) → Ends text at n
  newline_ends is = rw is (ends text at _ is_text (newline_bound text at utf8 bound))

  pub newline_found : n ≡ newline_len (drop at text) → 0 < n → IsLongest IsNewline text at (at + n)
  newline_found is some =
      let more : 0 < newline_len (drop at text) = omega (arith, is) in
      rw is (longest_at IsNewline text at _ bound.0 (newline_longest (drop at text) more))

  pub newline_absent : n ≡ newline_len (drop at text) → n ≡ 0 → BeginsNone IsNewline text at
  newline_absent is none =
      let zero : newline_len (drop at text) ≡ 0 = omega (arith, is) in
      none_at IsNewline text at bound.0 (newline_none (drop at text) zero)

  pub comment_ends : n ≡ comment_len (drop at text) → Ends text at n
  comment_ends is = rw is (ends text at _ is_text (comment_bound text at utf8 bound))

  pub comment_found : n ≡ comment_len (drop at text) → 0 < n → IsLongest IsComment text at (at + n)
  comment_found is some =
      let more : 0 < comment_len (drop at text) = omega (arith, is) in
      rw is (longest_at IsComment text at _ bound.0 (comment_longest (drop at text) more))

  pub comment_absent : n ≡ comment_len (drop at text) → n ≡ 0 → BeginsNone IsComment text at
  comment_absent is none =
      let zero : comment_len (drop at text) ≡ 0 = omega (arith, is) in
      none_at IsComment text at bound.0 (comment_none (drop at text) zero)
