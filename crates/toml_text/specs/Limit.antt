-- What the bytes of a text are.
use Rattle.std.specs.Prelude.{◌≡◌, ◌≤◌, ℕ, List, length, true}
use Rattle.std.specs.Str.{is_utf8}

-- the greatest number of bytes of a text: 16 MiB
abbrev pub max_len : ℕ
max_len = 16_777_216

-- TOML v1.0.0, Spec: a file is UTF-8; the limit is this profile's
pub record IsText (bytes : List ℕ) : Type 0 where
  pub utf8 : is_utf8 bytes ≡ true
  pub fits : length bytes ≤ max_len
