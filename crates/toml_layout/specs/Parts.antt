-- What stands between values, by its parts: whitespace, newlines and comments; and the parts of a text, of which there is one list.
use Rattle.std.specs.Prelude.{◌≡◌, ◌≢◌, ℕ, zero, suc, nat_lt, Bool, true, false, if◌then◌else◌, List, [], ◌∷◌, ◌++◌, drop, length, take}
use Rattle.std.specs.List.{list_any}
use Rattle.toml_text.specs.Bytes.{is_comment, is_ws}
use Rattle.toml_text.specs.Runs.{newline_len, run_len}

-- a part by its text; lines are parts that are not taken apart
pub data PartOutline : Type 0 where
  Ws : List ℕ → PartOutline
  Comment : List ℕ → PartOutline
  Newline : List ℕ → PartOutline
  Lines : List ℕ → PartOutline

abbrev pub part_text : PartOutline → List ℕ
part_text (Ws text) = text
part_text (Comment text) = text
part_text (Newline text) = text
part_text (Lines text) = text

-- the texts of parts, one behind the other
abbrev pub parts_outlined : List PartOutline → List ℕ
parts_outlined [] = []
parts_outlined (p ∷ ps) = part_text p ++ parts_outlined ps

-- The first part of a text: a run of whitespace, a newline, else a comment up to its newline. Where a comment has no byte, as it has in no
-- gap, all is one.
abbrev pub first_part : List ℕ → PartOutline
first_part text =
    if nat_lt 0 (run_len is_ws text) then Ws (take (run_len is_ws text) text)
    else if nat_lt 0 (newline_len text) then Newline (take (newline_len text) text)
    else if nat_lt 0 (run_len is_comment text) then Comment (take (run_len is_comment text) text)
    else Comment text

-- what stands behind it
abbrev pub behind_first : List ℕ → List ℕ
behind_first text = drop (length (part_text (first_part text))) text

-- the parts of a text, one behind the other
abbrev pub AreParts : List ℕ → List PartOutline → Type 0
AreParts text [] = text ≡ []
AreParts text (p ∷ ps) = (text ≢ []) × (p ≡ first_part text) × AreParts (behind_first text) ps

-- the list of them, and that of the first so many
abbrev pub parts_upto : ℕ → List ℕ → List PartOutline
parts_upto zero text = []
parts_upto (suc n) [] = []
parts_upto (suc n) (b ∷ bs) = first_part (b ∷ bs) ∷ parts_upto n (behind_first (b ∷ bs))

abbrev pub parts_of : List ℕ → List PartOutline
parts_of text = parts_upto (length text) text

-- Law: a text has one list of parts.
abbrev pub PartsAreOne : Type 0
PartsAreOne = (text : List ℕ) (ps qs : List PartOutline) → AreParts text ps → AreParts text qs → ps ≡ qs

-- ---- lines

abbrev pub is_newline : PartOutline → Bool
is_newline (Ws text) = false
is_newline (Comment text) = false
is_newline (Newline text) = true
is_newline (Lines text) = false

-- lines, taken apart; a text without a newline is none, and stays as it is
abbrev pub lines_apart : List ℕ → List PartOutline
lines_apart text = if list_any is_newline (parts_of text) then parts_of text else Lines text ∷ []
