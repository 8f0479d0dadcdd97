-- What holds of a piece wherever it is.
use Rattle.std.specs.Prelude.{ℕ, ◌+◌, ◌≤◌, List, length}
use Rattle.toml_text.specs.Limit.{max_len}

-- a piece that begins at `start` ends within the greatest text
abbrev pub Fits : ℕ → List ℕ → Type 0
Fits start bytes = start + length bytes ≤ max_len
