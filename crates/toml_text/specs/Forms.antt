-- The forms of the smallest pieces of a text: which whole pieces, by their bytes, belong to each.
use Rattle.std.specs.Prelude.{◌≡◌, ℕ, Bool, true, List, [], ◌∷◌, ◌⊎◌}
use Rattle.toml_text.specs.Bytes.{is_ws, is_comment}

-- each byte passes the test
abbrev pub Each : (ℕ → Bool) → List ℕ → Type 0
Each p [] = Unit {0}
Each p (b ∷ bs) = (p b ≡ true) × Each p bs

-- TOML v1.0.0, Spec; `ws`: any run of tabs and spaces, also none
abbrev pub IsWs : List ℕ → Type 0
IsWs = Each is_ws

-- TOML v1.0.0, Spec; `newline`: LF, or CR LF
abbrev pub IsNewline : List ℕ → Type 0
IsNewline bs = (bs ≡ 0x0A ∷ []) ⊎ (bs ≡ 0x0D ∷ 0x0A ∷ [])

-- TOML v1.0.0, Comment; `comment`: `#` and a run of tabs, printable ASCII and characters past ASCII
abbrev pub IsComment : List ℕ → Type 0
IsComment [] = ⊥
IsComment (b ∷ bs) = (b ≡ 0x23) × Each is_comment bs
