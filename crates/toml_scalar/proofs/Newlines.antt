-- The newline at the front, where one stands there.
use Rattle.std.proofs.Common.{◌≡◌, ◌<◌, ℕ, List, take, arith, ⊎_elim}
use Rattle.toml_text.specs.Forms.{IsNewline}
use Rattle.toml_text.specs.Runs.{newline_len}
use Rattle.toml_text.proofs.Proved.{newlines_piece}

pub newline_there : (bs : List ℕ) → 0 < newline_len bs → IsNewline (take (newline_len bs) bs)
newline_there bs some = ⊎_elim (λ (none : newline_len bs ≡ 0). absurd (omega arith)) (λ (newline : IsNewline (take (newline_len bs) bs)). newline) (newlines_piece bs).1
