-- What is left where an item goes by layout `Follow`, by what stands beside it.
use Rattle.std.specs.Prelude.{◌&&◌, Bool, true, false, List, [], ◌∷◌, ◌++◌, Option, Some, None, option_map, unwrap_or, if◌then◌else◌}
use Rattle.toml_layout.specs.declared.leaving.Left.{Left}
use Rattle.toml_layout.specs.declared.tree.GapPart.{GapPart}
use Rattle.toml_layout.specs.Gaps.{Beside, are_ws, begins_line, ends_container, gives_way, goes_with_comma, is_alone, is_comment, left_by}

-- behind the item before it, where that is another gap now, and behind the comma before it, or the bracket, if there still is one
pub record Remains : Type 0 where
  pub above : Option (List GapPart)
  pub behind : Option (List GapPart)

abbrev pub remains : Left → Remains
remains l = record { above = option_map (λ g. g.parts.items) l.above; behind = option_map (λ g. g.parts.items) l.behind }

-- all lines of a gap, up to its last newline
abbrev pub lines_of : List GapPart → List GapPart
lines_of [] = []
lines_of (p ∷ ps) = if begins_line (p ∷ ps) then p ∷ lines_of ps else []

abbrev pub without_last : List GapPart → List GapPart
without_last [] = []
without_last (p ∷ []) = []
without_last (p ∷ q ∷ ps) = p ∷ without_last (q ∷ ps)

abbrev pub ends_in_comment : List GapPart → Bool
ends_in_comment [] = false
ends_in_comment (p ∷ []) = is_comment p
ends_in_comment (p ∷ q ∷ ps) = ends_in_comment (q ∷ ps)

-- The last item goes with its line, which is that of the closing bracket: so does the newline before it, but where that ends a comment all
-- goes that stands before the bracket.
abbrev pub left_of_last_line : List GapPart → Beside → List GapPart
left_of_last_line lines b = if ends_in_comment (without_last lines) then lines else without_last lines ++ unwrap_or b.behind b.after

-- an item leaves its line, and its comma too: by itself where more than whitespace stands between
abbrev pub left_with : List GapPart → List GapPart → Option (List GapPart) → Bool → List GapPart
left_with before after None closed = left_by before after closed
left_with before after (Some behind) closed =
    if are_ws after then left_by before behind closed else left_by (left_by before after false) behind closed

abbrev pub left_with_comma : Beside → List GapPart
left_with_comma b = left_with b.before b.after b.behind b.is_last

-- in the one way or the other
abbrev pub own_left : Beside → List GapPart
own_left b = if begins_line b.before && ends_container b then left_of_last_line (lines_of b.before) b else left_with_comma b

-- where the last one goes and has no comma, the one before it does
abbrev pub closed_by : Option (List GapPart) → Option (List GapPart) → List GapPart → Remains
closed_by None (Some above) own = record { above = Some (left_by above own true); behind = None }
closed_by None None own = record { above = None; behind = Some own }
closed_by (Some behind) above own = record { above = None; behind = Some own }

abbrev pub without_comma : Beside → List GapPart → Remains
without_comma b own = closed_by b.behind b.above own

-- The first rule that fits: nothing stays where it was alone; the next item takes its place; all goes from the end of the item before it to
-- its own; else it leaves its line.
abbrev pub what_is_left : Beside → Remains
what_is_left b =
    if is_alone b then record { above = None; behind = Some [] }
    else if gives_way b then record { above = None; behind = Some b.before }
    else if goes_with_comma b then record { above = Some b.after; behind = b.behind }
    else without_comma b (own_left b)
