-- The lines above a place, as they are gone through from there up.
use Rattle.std.specs.Prelude.{◌≡◌, ◌≤◌, ℕ, Bool, true, false, List, [], ◌∷◌, ◌++◌, length, Option, Some, None, MatchOption, slice_get, if◌then◌else◌}
use Rattle.std.specs.Str.{bytes_eq}
use Rattle.toml_layout.specs.declared.looks.Equals.{Equals}
use Rattle.toml_layout.specs.declared.tree.Leaf.{Leaf}
use Rattle.toml_layout.specs.Looks.{around}
use Rattle.toml_layout.specs.OpenOutlines.{leaf_text}
use Rattle.toml_working.specs.declared.lines.Slot.{Slot}
use Rattle.toml_working.specs.declared.working.Position.{Position}
use Rattle.toml_working.specs.FirstKeys.{like_before, last_like, spacing_like}
use Rattle.toml_working.specs.InsertStanding.{spaced_by}
use Rattle.toml_working.specs.Placing.{lines_before, pair_at}
use Rattle.toml_working.specs.Seeing.{line_at}
use Rattle.toml_working.specs.Standing.{Standing, Read, slot_standing}

-- the place of the last one behind a line, or its own, if there is none and it has a key and a value
abbrev pub last_pair_from : Option ℕ → Position → Option Position → Option Position
last_pair_from base at (Some last) = Some last
last_pair_from base at None = pair_at base at None

-- the first, if there is one, else the other
abbrev pub line_or : Option Standing → Option Standing → Option Standing
line_or (Some s) other = Some s
line_or None other = other

-- the place is that of the line, or there is neither
abbrev pub IsPlaceOfLine : Read → List Slot → Option Standing → Option Position → Type 0
IsPlaceOfLine read slots line place = MatchOption place (line ≡ None) (λ at. (s : Standing) × (line_at read slots at ≡ Some s) × (line ≡ Some s))

-- `above` is still to be gone through, `passed` was. `line` is the last one with a key and a value in `passed` before its first header, if there
-- is one. No section whose header is in `passed` begins with the whitespace and has such a line.
pub record GoneUp (ws : List ℕ) (read : Read) (slots : List Slot) (all above : List Standing) (last : Option Position) : Type 0 where
  pub passed : List Standing
  pub is : all ≡ above ++ passed
  pub line : Option Standing
  pub there : IsPlaceOfLine read slots line last
  pub so_far : (fits : Bool) (found : Option Standing) → last_like ws fits found passed ≡ (if fits then line_or line found else found)

-- the line at the place is the one that is looked for, whatever stands above all these
abbrev pub IsLikeAt : List ℕ → Read → List Slot → List Standing → Position → Type 0
IsLikeAt ws read slots all at = (s : Standing) × (line_at read slots at ≡ Some s)
    × ((fits : Bool) (found : Option Standing) → last_like ws fits found all ≡ Some s)

-- it is found, or these lines are still above
abbrev pub GoesUp : List ℕ → Read → List Slot → List Standing → List Standing → Bool → Option Position → Type 0
GoesUp ws read slots all above true result = (at : Position) × (result ≡ Some at) × IsLikeAt ws read slots all at
GoesUp ws read slots all above false result = GoneUp ws read slots all above result

-- past the line at a place,
abbrev pub GoesUpLine : List ℕ → Read → List Slot → Position → Option Position → Bool → Option Position → Type 0
GoesUpLine ws read slots at last found result = (s : Standing) → line_at read slots at ≡ Some s → (all above : List Standing)
    → GoneUp ws read slots all (above ++ s ∷ []) last → GoesUp ws read slots all above found result

-- past the lines of a slot before a place, which is one of its lines or right behind them
pub record IsInSlot (read : Read) (slots : List Slot) (at : Position) : Type 0 where
  pub slot : Slot
  pub there : slice_get slots at.slot ≡ Some slot
  pub low : at.index ≤ length (slot_standing read slot)

abbrev pub GoesUpSlot : List ℕ → Read → List Slot → Position → Option Position → Bool → Option Position → Type 0
GoesUpSlot ws read slots at last found result = IsInSlot read slots at → (all : List Standing)
    → GoneUp ws read slots all (lines_before read slots at.slot at.index) last → GoesUp ws read slots all (lines_before read slots at.slot 0) found result

-- how many lines stand in a slot, if there is one
abbrev pub CountsLines : List Slot → ℕ → ℕ → Type 0
CountsLines slots k result = (read : Read) (slot : Slot) → slice_get slots k ≡ Some slot → result ≡ length (slot_standing read slot)

-- the line that is looked for above the one at a place, or there is none
abbrev pub FindsLike : List ℕ → Read → List Slot → Position → Option Position → Type 0
FindsLike ws read slots place result = (s : Standing) → line_at read slots place ≡ Some s
    → IsPlaceOfLine read slots (like_before ws (lines_before read slots place.slot place.index)) result

-- whether the line at a place begins with this whitespace
abbrev pub TellsBeginning : List ℕ → Read → List Slot → Position → Bool → Type 0
TellsBeginning ws read slots at result = (s : Standing) → line_at read slots at ≡ Some s → result ≡ bytes_eq s.outline.ws ws

-- a line begins with this whitespace, and has this around its `=`, as the first one in a section whose header stands at the place, or is to,
-- and begins with that whitespace
abbrev pub BeginsSection : List ℕ → Read → List Slot → Position → Leaf → Option Equals → Type 0
BeginsSection own read slots place ws equals = (s : Standing) → line_at read slots place ≡ Some s
    → spaced_by (leaf_text ws) (around equals) ≡ spacing_like own (like_before own (lines_before read slots place.slot place.index))
