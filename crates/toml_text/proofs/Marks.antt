-- Runs up to a mark are those of the classes.
use Rattle.std.proofs.Common.{◌≡◌, ℕ, Bool, cond, List, [], ◌∷◌, refl, ap₂, ◌+◌, arith}
use Rattle.std.proofs.lemmas.Bool.Decides.{nat_tests}
use Rattle.toml_text.specs.Bytes.{is_comment, is_basic, is_literal, is_unmarked}
use Rattle.toml_text.specs.Laws.{CommentIsUnmarked, BasicIsUnmarked, LiteralIsUnmarked}
use Rattle.toml_text.specs.Runs.{run_len}

run_alike : (p q : ℕ → Bool) → ((b : ℕ) → p b ≡ q b) → (bs : List ℕ) → run_len p bs ≡ run_len q bs
run_alike p q same [] = refl
run_alike p q same (b ∷ bs) = ap₂ (λ t n. cond t (n + 1) 0) (same b) (run_alike p q same bs)

comment_byte : (b : ℕ) → is_unmarked 0x0A 0x0A b ≡ is_comment b
comment_byte b = grind (arith, nat_tests)

basic_byte : (b : ℕ) → is_unmarked 0x22 0x5C b ≡ is_basic b
basic_byte b = grind (arith, nat_tests)

literal_byte : (b : ℕ) → is_unmarked 0x27 0x27 b ≡ is_literal b
literal_byte b = grind (arith, nat_tests)

pub comment_unmarked : CommentIsUnmarked
comment_unmarked = run_alike (is_unmarked 0x0A 0x0A) is_comment comment_byte

pub basic_unmarked : BasicIsUnmarked
basic_unmarked = run_alike (is_unmarked 0x22 0x5C) is_basic basic_byte

pub literal_unmarked : LiteralIsUnmarked
literal_unmarked = run_alike (is_unmarked 0x27 0x27) is_literal literal_byte
