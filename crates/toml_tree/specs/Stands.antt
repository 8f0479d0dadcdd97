-- Parts that stand between two places of a text.
use Rattle.std.specs.Prelude.{◌≡◌, ℕ, ◌+◌, List, [], ◌∷◌, ◌++◌, length}
use Rattle.toml_tree.specs.Spells.{Part, part_text, StartsAt}
use Rattle.toml_tree.specs.Reading.{Cursor}

-- c stands before the bytes, d behind them
pub record Behind (bytes : List ℕ) (c d : Cursor) : Type 0 where
  pub rest : c.rest ≡ bytes ++ d.rest
  pub at : d.at ≡ c.at + length bytes

-- the parts, each at its place, stand between c and d
abbrev pub Spans : List Part → Cursor → Cursor → Type 0
Spans [] c d = c ≡ d
Spans (p ∷ ps) c d = (m : Cursor) × StartsAt p c.at × Behind (part_text p) c m × Spans ps m d

-- d stands behind c in one text, or where c does
abbrev pub IsAhead : Cursor → Cursor → Type 0
IsAhead c d = (bytes : List ℕ) × Behind bytes c d
