-- The comment lines with which lines begin, as they are gone through.
use Rattle.std.specs.Prelude.{◌≡◌, ◌<◌, ◌+◌, ◌^◌, ℕ, Bool, true, false, List, ◌∷◌, ◌++◌, Option, Some, MatchOption}
use Rattle.toml_tree.specs.Spells.{EachIs}
use Rattle.toml_layout.specs.declared.layout.Layout.{Layout}
use Rattle.toml_layout.specs.declared.layout.Layout.TheVariants as layouts
use Rattle.toml_working.specs.declared.lines.Slot.{Slot}
use Rattle.toml_working.specs.declared.working.Position.{Position}
use Rattle.toml_working.specs.InsertStanding.{comments_end, goes_below, has_comment, is_comment}
use Rattle.toml_working.specs.Placing.{lines_from}
use Rattle.toml_working.specs.Seeing.{line_at}
use Rattle.toml_working.specs.Standing.{Standing, Read, slots_standing}

abbrev pub IsComment : Standing → Type 0
IsComment s = is_comment s ≡ true

-- the line at the place is a comment line, and so are those before it; these are left
pub record IsLastComment (read : Read) (slots : List Slot) (all rest : List Standing) (at : Position) : Type 0 where
  pub front : List Standing
  pub line : Standing
  pub is : all ≡ front ++ line ∷ rest
  pub comments : EachIs IsComment front
  pub comment : IsComment line
  pub there : line_at read slots at ≡ Some line
  pub next : at.index + 1 < 2 ^ 64
  pub from : lines_from read slots at.slot at.index ≡ line ∷ rest

-- so far all lines are comment lines, and this is the last of them
abbrev pub CommentsPassed : Read → List Slot → List Standing → List Standing → Option Position → Type 0
CommentsPassed read slots all rest last = MatchOption last (all ≡ rest) (IsLastComment read slots all rest)

-- the line at the place is the last of the comment lines with which lines begin, and a blank line follows it, or none
pub record IsCommentsEnd (read : Read) (slots : List Slot) (all : List Standing) (at : Position) : Type 0 where
  pub rest : List Standing
  pub last : IsLastComment read slots all rest at
  pub none : has_comment rest ≡ false
  pub ends : comments_end rest ≡ true

-- or there is no such line
abbrev pub FindsCommentsOf : Read → List Slot → List Standing → Option Position → Type 0
FindsCommentsOf read slots all result = MatchOption result (goes_below layouts.Follow all ≡ false) (IsCommentsEnd read slots all)

-- a slot of comment lines is passed, or all was found
abbrev pub CommentsBy : Read → List Slot → List Standing → ℕ → Bool → Option Position → Type 0
CommentsBy read slots all slot true found = FindsCommentsOf read slots all found
CommentsBy read slots all slot false found = CommentsPassed read slots all (lines_from read slots (slot + 1) 0) found

abbrev pub PassesComments : Read → List Slot → ℕ → Option Position → Bool → Option Position → Type 0
PassesComments read slots slot last ends found = (all : List Standing)
    → CommentsPassed read slots all (lines_from read slots slot 0) last → CommentsBy read slots all slot ends found

abbrev pub FindsComments : Read → List Slot → Option Position → Type 0
FindsComments read slots result = FindsCommentsOf read slots (slots_standing read slots) result

-- so it is in a layout: the line below which the first one of the root goes, or none
abbrev pub FindsAbove : Layout → Read → List Slot → Option Position → Type 0
FindsAbove layout read slots result = let all = slots_standing read slots in
    MatchOption result (goes_below layout all ≡ false) (λ at. (layout ≡ layouts.Follow) × IsCommentsEnd read slots all at)
