-- How an item begins its line that is put in by layout `Follow`, and the gaps around it there.
use Rattle.std.specs.Prelude.{◌≡◌, ◌&&◌, ◌||◌, ◌==◌, ◌⊎◌, ℕ, nat_le, Bool, true, false, List, [], ◌∷◌, ◌++◌, length, Option, Some, None, MatchOption, if◌then◌else◌}
use Rattle.std.specs.List.{list_all}
use Rattle.toml_layout.specs.declared.tree.GapPart.{GapPart}
use Rattle.toml_layout.specs.Gaps.{SplitsFirst, SplitsLast, begins_line, is_comment, is_newline, is_ws}
use Rattle.toml_layout.specs.OpenOutlines.{gap_part_text}
use Rattle.toml_layout.specs.PartOutlines.{IsParted, outlined}
use Rattle.toml_layout.specs.Parts as outline
use Rattle.toml_layout.specs.Parts.{PartOutline}

-- the last part, if there is one
abbrev pub last_of : List GapPart → List GapPart
last_of [] = []
last_of (p ∷ []) = p ∷ []
last_of (p ∷ q ∷ ps) = last_of (q ∷ ps)

-- how an item begins its line: the newline with which these lines end, and its indent
abbrev pub margin : List GapPart → List GapPart → List PartOutline
margin lines indent = outlined (last_of lines ++ indent)

abbrev pub newline_of : List GapPart → List GapPart
newline_of [] = []
newline_of (newline ∷ indent) = newline ∷ []

abbrev pub indent_of : List GapPart → List GapPart
indent_of [] = []
indent_of (newline ∷ indent) = indent

-- ---- comments on lines of their own

abbrev pub has_comment : List GapPart → Bool
has_comment [] = false
has_comment (p ∷ ps) = is_comment p || has_comment ps

-- one stands behind a newline
abbrev pub has_own_comment : List GapPart → Bool
has_own_comment [] = false
has_own_comment (p ∷ ps) = (is_newline p && has_comment ps) || has_own_comment ps

-- so far in stands the first comment on a line of its own
pub record IndentsComment (all indent : List GapPart) : Type 0 where
  pub front : List GapPart
  pub comment : GapPart
  pub behind : List GapPart
  pub is : all ≡ front ++ comment ∷ behind
  pub is_one : is_comment comment ≡ true
  pub lines : List GapPart
  pub own : SplitsLast front lines indent
  pub first : has_own_comment front ≡ false

-- ---- between brackets where no item stands

-- tabs, and nothing else
abbrev pub is_tab_run : List ℕ → Bool
is_tab_run = list_all (λ b. b == 0x09)

abbrev pub are_tabs : List GapPart → Bool
are_tabs [] = false
are_tabs (p ∷ ps) = list_all (λ q. is_tab_run (gap_part_text q)) (p ∷ ps)

-- two spaces, or one tab where tabs stand before the closing bracket
abbrev pub step : List GapPart → List ℕ
step closing = if are_tabs closing then 0x09 ∷ [] else 0x20 ∷ 0x20 ∷ []

-- as far in as the first comment on a line of its own, else a step further than the closing bracket
abbrev pub margin_alone : Option (List GapPart) → List GapPart → List GapPart → List PartOutline
margin_alone None lines closing = margin lines closing ++ outline.Ws (step closing) ∷ []
margin_alone (Some indent) lines closing = margin lines indent

pub record IsMarginAlone (all lines closing : List GapPart) (made : List PartOutline) : Type 0 where
  pub comment : Option (List GapPart)
  pub found : MatchOption comment (has_own_comment all ≡ false) (IndentsComment all)
  pub is : made ≡ margin_alone comment lines closing

-- ---- on a line of its own

-- behind the first line of the gap, and where it has none before it
pub record IsOnLine (margin line rest before behind : List GapPart) : Type 0 where
  pub before_is : before ≡ line ++ indent_of margin
  pub behind_is : behind ≡ newline_of margin ++ rest

abbrev pub IsLineIn : List GapPart → List GapPart → List GapPart → List GapPart → Type 0
IsLineIn all margin before behind =
    ((line : List GapPart) × (rest : List GapPart) × SplitsFirst all line rest × IsOnLine margin line rest before behind)
    ⊎ ((begins_line all ≡ false) × (before ≡ margin) × (behind ≡ all))

pub record PutsLine (gap margin before behind : List GapPart) : Type 0 where
  pub parts : List GapPart
  pub parted : IsParted gap parts
  pub made : IsLineIn parts margin before behind

-- ---- behind a comma

abbrev pub one_space : List PartOutline
one_space = outline.Ws (0x20 ∷ []) ∷ []

-- nothing or one character of whitespace
abbrev pub is_short : List GapPart → Bool
is_short [] = true
is_short (p ∷ []) = is_ws p && nat_le (length (gap_part_text p)) 1
is_short (p ∷ q ∷ ps) = false

-- these parts where they are so, else one space
abbrev pub parting : List GapPart → List PartOutline
parting ps = if is_short ps then outlined ps else one_space
