-- Laws: the plain functions of `Runs` find the pieces of the forms of `Forms`, and no others; what a first byte tells.
use Rattle.std.specs.Prelude.{◌≡◌, ◌<◌, ◌≤◌, ℕ, Bool, true, false, List, ◌++◌, length, take, get_or, ◌⊎◌}
use Rattle.toml_text.specs.Bytes.{is_comment, is_basic, is_literal, is_unmarked}
use Rattle.toml_text.specs.Forms.{Each, IsNewline, IsComment}
use Rattle.toml_text.specs.Runs.{run_len, begins, newline_len, comment_len}

-- what is found is a piece of the form at the front
abbrev pub RunIsPiece : Type 0
RunIsPiece = (p : ℕ → Bool) (bs : List ℕ) → (run_len p bs ≤ length bs) × Each p (take (run_len p bs) bs)

abbrev pub NewlineIsPiece : Type 0
NewlineIsPiece = (bs : List ℕ) → (newline_len bs ≤ length bs) × ((newline_len bs ≡ 0) ⊎ IsNewline (take (newline_len bs) bs))

abbrev pub CommentIsPiece : Type 0
CommentIsPiece = (bs : List ℕ) → (comment_len bs ≤ length bs) × ((comment_len bs ≡ 0) ⊎ IsComment (take (comment_len bs) bs))

-- a piece of the form is found, where what follows does not go on with it
abbrev pub RunIsFound : Type 0
RunIsFound = (p : ℕ → Bool) (piece rest : List ℕ) → Each p piece → begins p rest ≡ false → run_len p (piece ++ rest) ≡ length piece

abbrev pub NewlineIsFound : Type 0
NewlineIsFound = (piece rest : List ℕ) → IsNewline piece → newline_len (piece ++ rest) ≡ length piece

abbrev pub CommentIsFound : Type 0
CommentIsFound = (piece rest : List ℕ) → IsComment piece → begins is_comment rest ≡ false → comment_len (piece ++ rest) ≡ length piece

-- no front that passes is longer than the run
abbrev pub RunIsLongest : Type 0
RunIsLongest = (p : ℕ → Bool) (bs : List ℕ) (n : ℕ) → n ≤ length bs → Each p (take n bs) → n ≤ run_len p bs

-- the byte behind the run does not pass
abbrev pub RunStops : Type 0
RunStops = (p : ℕ → Bool) (bs : List ℕ) → run_len p bs < length bs → p (get_or bs (run_len p bs) 0) ≡ false

-- a first byte that passes a test does not pass one that nothing passes with it
abbrev pub BeginsApart : Type 0
BeginsApart = (p q : ℕ → Bool) (bs : List ℕ) → ((b : ℕ) → p b ≡ true → q b ≡ false) → begins p bs ≡ true → begins q bs ≡ false

-- it passes one that everything passes with it
abbrev pub BeginsWider : Type 0
BeginsWider = (p q : ℕ → Bool) (bs : List ℕ) → ((b : ℕ) → p b ≡ true → q b ≡ true) → begins p bs ≡ true → begins q bs ≡ true

-- Runs up to a mark are those of the classes: a comment has no LF, and a string's text neither its mark nor, where it
-- has escapes, `\`.
abbrev pub CommentIsUnmarked : Type 0
CommentIsUnmarked = (bs : List ℕ) → run_len (is_unmarked 0x0A 0x0A) bs ≡ run_len is_comment bs

abbrev pub BasicIsUnmarked : Type 0
BasicIsUnmarked = (bs : List ℕ) → run_len (is_unmarked 0x22 0x5C) bs ≡ run_len is_basic bs

abbrev pub LiteralIsUnmarked : Type 0
LiteralIsUnmarked = (bs : List ℕ) → run_len (is_unmarked 0x27 0x27) bs ≡ run_len is_literal bs
