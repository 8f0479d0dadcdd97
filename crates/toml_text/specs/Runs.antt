-- How many bytes a piece of each form has at the front of some bytes: the plain functions beside the forms.
use Rattle.std.specs.Prelude.{◌≡◌, ◌<◌, ℕ, ◌+◌, Bool, false, cond, ◌&&◌, List, [], ◌∷◌, Option, MatchOption, if◌then◌else◌, ◌==◌}
use Rattle.toml_text.specs.Bytes.{is_comment}

-- how many bytes at the front pass the test
abbrev pub run_len : (ℕ → Bool) → List ℕ → ℕ
run_len p [] = 0
run_len p (b ∷ bs) = cond (p b) (run_len p bs + 1) 0

-- whether the first byte passes the test
abbrev pub begins : (ℕ → Bool) → List ℕ → Bool
begins p [] = false
begins p (b ∷ bs) = p b

abbrev pub is_byte : ℕ → ℕ → Bool
is_byte x b = b == x

-- the length of the newline at the front, or 0
abbrev pub newline_len : List ℕ → ℕ
newline_len [] = 0
newline_len (b ∷ bs) = if b == 0x0A then 1 else (if b == 0x0D && begins (is_byte 0x0A) bs then 2 else 0)

-- the length of the longest comment at the front, or 0
abbrev pub comment_len : List ℕ → ℕ
comment_len [] = 0
comment_len (b ∷ bs) = if b == 0x23 then run_len is_comment bs + 1 else 0

-- the answer of a scan that found `len` bytes at `at`: none for 0, else `at + len`
abbrev pub EndsAfter : ℕ → ℕ → Option ℕ → Type 0
EndsAfter at len answer = MatchOption answer (len ≡ 0) (λ end. (0 < len) × (end ≡ at + len))
