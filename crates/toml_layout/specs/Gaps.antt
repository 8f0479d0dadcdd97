-- What stands beside the items of an array or an inline table, by the parts of the gaps there: whitespace, newlines and comments. A comment
-- ends in the newline that stands behind it in the same gap.
use Rattle.std.specs.Prelude.{◌≡◌, Bool, true, false, not, ◌&&◌, ◌||◌, List, [], ◌∷◌, ◌++◌, Option, Some, None, option_map, if◌then◌else◌}
use Rattle.std.specs.List.{list_all, list_any}
use Rattle.toml_layout.specs.declared.leaving.Around.{Around}
use Rattle.toml_layout.specs.declared.tree.GapPart.{GapPart}
use Rattle.toml_layout.specs.declared.tree.GapPart.TheVariants as parts

abbrev pub is_ws : GapPart → Bool
is_ws (parts.Ws ws) = true
is_ws (parts.Comment comment) = false
is_ws (parts.Newline newline) = false
is_ws (parts.Lines lines) = false

abbrev pub is_newline : GapPart → Bool
is_newline (parts.Ws ws) = false
is_newline (parts.Comment comment) = false
is_newline (parts.Newline newline) = true
is_newline (parts.Lines lines) = false

abbrev pub is_comment : GapPart → Bool
is_comment (parts.Ws ws) = false
is_comment (parts.Comment comment) = true
is_comment (parts.Newline newline) = false
is_comment (parts.Lines lines) = false

abbrev pub is_blank : GapPart → Bool
is_blank p = is_ws p || is_newline p

-- all of them are whitespace, or whitespace and newlines
abbrev pub are_ws : List GapPart → Bool
are_ws = list_all is_ws

abbrev pub are_blank : List GapPart → Bool
are_blank = list_all is_blank

-- what stands behind a gap with a newline begins a line
abbrev pub begins_line : List GapPart → Bool
begins_line = list_any is_newline

-- the first line of a gap, with its newline, and what stands behind
pub record SplitsFirst (all line rest : List GapPart) : Type 0 where
  pub is : all ≡ line ++ rest
  pub more : List GapPart
  pub newline : GapPart
  pub ends : line ≡ more ++ newline ∷ []
  pub is_one : is_newline newline ≡ true
  pub first : begins_line more ≡ false

-- all lines of a gap, up to the last newline, and what stands behind: how an item begins its line
pub record SplitsLast (all lines indent : List GapPart) : Type 0 where
  pub is : all ≡ lines ++ indent
  pub more : List GapPart
  pub newline : GapPart
  pub ends : lines ≡ more ++ newline ∷ []
  pub is_one : is_newline newline ≡ true
  pub last : begins_line indent ≡ false

-- without the whitespace in front, and without that at the end
abbrev pub without_ws : List GapPart → List GapPart
without_ws [] = []
without_ws (p ∷ ps) = if is_ws p then without_ws ps else p ∷ ps

abbrev pub trimmed : List GapPart → List GapPart
trimmed [] = []
trimmed (p ∷ ps) = if are_ws (p ∷ ps) then [] else p ∷ trimmed ps

-- of what there may be
abbrev pub if_any : (List GapPart → Bool) → Option (List GapPart) → Bool
if_any test None = true
if_any test (Some ps) = test ps

-- what stands around an item: behind the one before it, before and behind it, and behind its comma; whether it is the last one
pub record Beside : Type 0 where
  pub above : Option (List GapPart)
  pub before : List GapPart
  pub after : List GapPart
  pub behind : Option (List GapPart)
  pub is_last : Bool

abbrev pub around : Around → Beside
around a = record {
  above = option_map (λ p. p.now) a.above;
  before = a.before.now;
  after = a.after.now;
  behind = option_map (λ p. p.now) a.behind;
  is_last = a.is_last;
}

abbrev pub is_none : {A : Type 0} → Option A → Bool
is_none None = true
is_none (Some a) = false

-- A newline or a comment comes next: directly behind an item that has no comma, else directly behind the comma, which stands on the
-- item's own line.
abbrev pub comes_next : List GapPart → Option (List GapPart) → Bool
comes_next after None = not (are_ws after)
comes_next after (Some behind) = are_ws after && not (are_ws behind)

-- it ends a line
abbrev pub ends_line : Beside → Bool
ends_line b = comes_next b.after b.behind

-- it ends the container: so the closing bracket does
abbrev pub ends_container : Beside → Bool
ends_container b = b.is_last && (are_ws b.after && if_any are_ws b.behind)

-- it is the only item, and nothing but whitespace and newlines stands beside it
abbrev pub is_alone : Beside → Bool
is_alone b = is_none b.above && (b.is_last && (are_blank b.before && (are_blank b.after && if_any are_blank b.behind)))

-- it ends no line, or is the first and begins none; and only whitespace and newlines stand before the next one
abbrev pub gives_way : Beside → Bool
gives_way b =
    not b.is_last && ((not (ends_line b) || (is_none b.above && not (begins_line b.before))) && (are_blank b.after && if_any are_blank b.behind))

-- it begins no line, is the last, and only whitespace and newlines stand between the one before it and it
abbrev pub goes_with_comma : Beside → Bool
goes_with_comma b =
    not (begins_line b.before) && (b.is_last && (not (is_none b.above) && (if_any are_blank b.above && are_blank b.before)))

-- what a piece leaves that stands first on its line: where a newline ends that, nothing of it, else what stands behind it
abbrev pub left_of_line : List GapPart → List GapPart → List GapPart
left_of_line before (parts.Newline newline ∷ rest) = trimmed before ++ rest
left_of_line before rest = before ++ rest

-- What a piece leaves that goes. Where something stands before it on its line, the whitespace before it goes if no more than whitespace
-- stands behind it up to a newline, a comment or the closing bracket, else that behind it.
abbrev pub left_by : List GapPart → List GapPart → Bool → List GapPart
left_by before behind closed =
    if begins_line before then left_of_line before (without_ws behind)
    else if closed || not (are_ws behind) then trimmed before ++ behind
    else before ++ without_ws behind
