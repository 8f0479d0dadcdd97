-- The whitespace of a new line with a key and a value.
use Rattle.std.specs.Prelude.{ℕ, Bool, ◌&&◌, ◌||◌, List, [], ◌∷◌, if◌then◌else◌}
use Rattle.std.specs.Str.{bytes_eq}
use Rattle.toml_layout.specs.declared.layout.Layout.{Layout}
use Rattle.toml_layout.specs.declared.layout.Layout.TheVariants as layouts

-- that with which it begins, and what stands before and behind its `=`
pub record Spacing : Type 0 where
  pub ws : List ℕ
  pub before_equals : List ℕ
  pub after_equals : List ℕ

-- nothing, and one space on each side
abbrev pub plain_spacing : Spacing
plain_spacing = record { ws = []; before_equals = 0x20 ∷ []; after_equals = 0x20 ∷ [] }

-- whether it is nothing, or one space
abbrev pub is_narrow : List ℕ → Bool
is_narrow text = bytes_eq text [] || bytes_eq text (0x20 ∷ [])

-- as far in as another line, and around its `=` what stands there, where that is nothing or one space on each side; else one space on each
abbrev pub spaced_as : List ℕ → List ℕ → List ℕ → Spacing
spaced_as ws before after =
    if is_narrow before && is_narrow after then record { ws = ws; before_equals = before; after_equals = after }
    else record { ws = ws; before_equals = 0x20 ∷ []; after_equals = 0x20 ∷ [] }

-- this in layout `Follow`, and the plain one in `Plain`
abbrev pub laid_out : Layout → Spacing → Spacing
laid_out layouts.Plain s = plain_spacing
laid_out layouts.Follow s = s
