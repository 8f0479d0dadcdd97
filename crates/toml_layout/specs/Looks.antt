-- How lines look: what a new line takes of them.
use Rattle.std.specs.Prelude.{◌≡◌, ◌&&◌, ℕ, is_some, List, Option, Some, None, option_map, if◌then◌else◌}
use Rattle.toml_layout.specs.declared.looks.Equals.{Equals}
use Rattle.toml_layout.specs.declared.looks.Look.{Look}
use Rattle.toml_layout.specs.OpenOutlines.{leaf_text}
use Rattle.toml_layout.specs.Outlines as outline
use Rattle.toml_layout.specs.Outlines.{AssignOutline, ExprOutline, LineOutline}
use Rattle.toml_layout.specs.Spacings.{is_narrow}

-- what stands around an `=`, if there is one
abbrev pub around : Option Equals → Option (List ℕ × List ℕ)
around = option_map (λ e. (leaf_text e.before, leaf_text e.after))

-- what stands around the `=` of a line, if it has one
abbrev pub equals_in : ExprOutline → Option (List ℕ × List ℕ)
equals_in outline.Nothing = None
equals_in (outline.Pair a v) = Some (a.before_equals, a.after_equals)
equals_in (outline.Header opening before first rest after closing) = None

-- a line of this outline looks so
pub record LooksAs (look : Look) (l : LineOutline) : Type 0 where
  pub ws : leaf_text look.ws ≡ l.ws
  pub equals : around look.equals ≡ equals_in l.expr
  pub comment : look.has_comment ≡ is_some l.comment

-- a key with this around its `=`, where that is nothing or one space on each side
abbrev pub respaced : List ℕ → List ℕ → AssignOutline → AssignOutline
respaced before after a = if is_narrow before && is_narrow after then record a { before_equals = before; after_equals = after } else a

abbrev pub spaced_expr : Option (List ℕ × List ℕ) → ExprOutline → ExprOutline
spaced_expr None e = e
spaced_expr (Some (before, after)) outline.Nothing = outline.Nothing
spaced_expr (Some (before, after)) (outline.Pair a v) = outline.Pair (respaced before after a) v
spaced_expr (Some (before, after)) (outline.Header opening gap first rest behind closing) = outline.Header opening gap first rest behind closing

-- a line that begins so
abbrev pub begun_as : List ℕ → Option (List ℕ × List ℕ) → LineOutline → LineOutline
begun_as ws equals l = record l { ws = ws; expr = spaced_expr equals l.expr }
