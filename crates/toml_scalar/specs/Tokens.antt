-- Which texts are scalars' tokens of a kind, and what may stand behind a value.
use Rattle.std.specs.Prelude.{◌≡◌, ℕ, true, List, [], ◌∷◌, ◌⊎◌}
use Rattle.toml_text.specs.Bytes.{is_ws}
use Rattle.toml_scalar.specs.Booleans.{IsBool}
use Rattle.toml_scalar.specs.Floats.{IsFloat}
use Rattle.toml_scalar.specs.Integers.{IsInteger}
use Rattle.toml_scalar.specs.Moments.{IsMoment}
use Rattle.toml_scalar.specs.Strings.{IsString}
use Rattle.toml_scalar.specs.declared.strings.kind.StringKind.{StringKind}
use Rattle.toml_scalar.specs.declared.kind.ScalarKind.{ScalarKind}
use Rattle.toml_scalar.specs.declared.kind.ScalarKind.TheVariants as kinds

-- `val`, but for arrays and inline tables: the tokens of a kind
abbrev pub IsToken : ScalarKind → List ℕ → Type 0
IsToken kinds.Text bs = (kind : StringKind) × IsString kind bs
IsToken kinds.Integer bs = IsInteger bs
IsToken kinds.Float bs = IsFloat bs
IsToken kinds.Bool bs = IsBool bs
IsToken (kinds.Moment kind) bs = IsMoment kind bs

-- what may stand behind a value: whitespace, and then the end, a newline, `#`, `,`, `]` or `}`
abbrev pub Closes : List ℕ → Type 0
Closes [] = Unit {0}
Closes (b ∷ bs) = ((is_ws b ≡ true) × Closes bs) ⊎ ((b ≡ 0x0A) ⊎ (((b ≡ 0x0D) × ((r : List ℕ) × (bs ≡ 0x0A ∷ r))) ⊎ ((b ≡ 0x23) ⊎ ((b ≡ 0x2C) ⊎ ((b ≡ 0x5D) ⊎ (b ≡ 0x7D))))))
