-- How a new header line stands among lines.
use Rattle.std.proofs.Common.{◌≡◌, ◌⊎◌, ℕ, true, false, List, [], ◌∷◌, ◌++◌, length, Some, ◌+◌}
use Rattle.std.specs.List.{list_any}
use Rattle.toml_text.specs.Forms.{IsWs}
use Rattle.toml_tree.specs.Bare.{fresh}
use Rattle.toml_tree.specs.Spells.{AreLines}
use Rattle.toml_tree.specs.Tree.{Line}
use Rattle.toml_names.specs.mentions.Mentions.{named}
use Rattle.toml_names.specs.model.Addresses.{Address, element}
use Rattle.toml_names.specs.reader.Names.{own_address}
use Rattle.toml_layout.specs.TreeOutlines.{line_outline}
use Rattle.toml_layout.specs.declared.tree.Brackets.{Brackets}
use Rattle.toml_layout.specs.declared.tree.Brackets.TheVariants.{One, Two}
use Rattle.toml_working.specs.Heading.{header_expr, header_line}
use Rattle.toml_working.specs.Headers.{has_no_bytes}
use Rattle.toml_working.specs.Inserting.{has_pair}
use Rattle.toml_working.specs.Removing.{empty_line}
use Rattle.toml_working.specs.Standing.{is_below, standing_from}

-- a last line that gets the newline of new lines
abbrev pub ended : List ℕ → Line → Line
ended style l = record { expr = l.expr; newline = fresh style }

module _ (brackets : Brackets) (p : Address) (style ws : List ℕ) where
  -- before one of the lines
  pub record IsPutBefore (front back old new : List Line) : Type 0 where
    pub some : ¬ (back ≡ [])
    pub was : old ≡ front ++ back
    pub is : new ≡ front ++ header_line brackets p ws style ∷ back

  -- behind the last one, which has a byte and gets a newline
  pub record IsPutLast (front back old new : List Line) : Type 0 where
    pub before : List Line
    pub last : Line
    pub front_is : front ≡ before ++ last ∷ []
    pub none : back ≡ []
    pub full : has_no_bytes (line_outline last) ≡ false
    pub no_newline : last.newline.text ≡ []
    pub was : old ≡ before ++ last ∷ []
    pub is : new ≡ before ++ ended style last ∷ header_line brackets p ws [] ∷ []

  -- behind the last one, which has no byte and becomes a blank line; a new one without bytes follows
  pub record IsPutBlank (front back old new : List Line) : Type 0 where
    pub before : List Line
    pub last : Line
    pub front_is : front ≡ before ++ last ∷ []
    pub none : back ≡ []
    pub bare : has_no_bytes (line_outline last) ≡ true
    pub was : old ≡ before ++ last ∷ []
    pub is : new ≡ before ++ ended style last ∷ header_line brackets p ws style ∷ empty_line ∷ []

-- of an element: no line behind stands at its array or below it
abbrev pub IsApart : Brackets → Address → List Line → List Line → Type 0
IsApart One p front back = Unit {0}
IsApart Two p front back = (q : Address) (i : ℕ) → p ≡ element q i → list_any (is_below q) (standing_from (named front) (length front) back) ≡ false

-- The header line of what is to stand at the address is put in: at the end, or where no key comes before the next header. There its key leads
-- to the address.
pub record IsHeaderPut (brackets : Brackets) (p : Address) (style : List ℕ) (old new : List Line) : Type 0 where
  pub front : List Line
  pub back : List Line
  pub ws : List ℕ
  pub spaced : AreLines old → IsWs ws
  pub put : IsPutBefore brackets p style ws front back old new ⊎ IsPutLast brackets p style ws front back old new ⊎ IsPutBlank brackets p style ws front back old new
  pub leads : own_address (named front) (header_expr brackets p ws) ≡ Some p
  pub unkeyed : has_pair back ≡ false
  pub apart : IsApart brackets p front back

-- one line came alone
abbrev pub IsOneMore : List Line → List Line → Type 0
IsOneMore old new = length new ≡ length old + 1
