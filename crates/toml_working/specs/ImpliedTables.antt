-- A line with a key and a value that is put in for a table which no line makes, but longer headers imply: behind a new header of it, before the
-- first header below it.
use Rattle.std.specs.Prelude.{◌≡◌, ◌⊎◌, ℕ, Bool, true, false, List, [], ◌∷◌, ◌++◌, map, Option, Some, string_bytes, if◌then◌else◌}
use Rattle.std.specs.List.{list_any}
use Rattle.std.specs.declared.alloc.Global.{Global}
use Rattle.std.specs.declared.string.String.{String}
use Rattle.toml_names.specs.model.Addresses.{Address, child}
use Rattle.toml_text.specs.Source.{text_of}
use Rattle.toml_layout.specs.declared.layout.Layout.{Layout}
use Rattle.toml_tree.specs.Spells.{EachIs}
use Rattle.toml_layout.specs.declared.layout.Layout.TheVariants as layouts
use Rattle.toml_layout.specs.declared.looks.Equals.{Equals}
use Rattle.toml_layout.specs.declared.tree.Brackets.{Brackets}
use Rattle.toml_layout.specs.declared.tree.Brackets.TheVariants.{One}
use Rattle.toml_layout.specs.declared.tree.Leaf.{Leaf}
use Rattle.toml_layout.specs.Looks.{around}
use Rattle.toml_layout.specs.OpenOutlines.{leaf_text}
use Rattle.toml_layout.specs.Outlines.{ValueOutline}
use Rattle.toml_layout.specs.Spacings.{Spacing, laid_out}
use Rattle.toml_working.specs.declared.lines.Line.{Line}
use Rattle.toml_working.specs.declared.lines.Slot.{Slot}
use Rattle.toml_working.specs.declared.lines.Sought.TheVariants as sought
use Rattle.toml_working.specs.declared.working.Position.{Position}
use Rattle.toml_working.specs.declared.working.Tree.{Tree}
use Rattle.toml_working.specs.FirstKeys.{like_before, spacing_like}
use Rattle.toml_working.specs.FollowingHeaders.{is_no_comment}
use Rattle.toml_working.specs.Headers.{new_header}
use Rattle.toml_working.specs.InsertStanding.{is_comment, new_standing_in, spaced_by}
use Rattle.toml_working.specs.LookingUp.{IsInSlot}
use Rattle.toml_working.specs.Manners.{Manner}
use Rattle.toml_working.specs.Placing.{lines_before, lines_from}
use Rattle.toml_working.specs.Putting.{manner}
use Rattle.toml_working.specs.PuttingHeaders.{AreSpellings}
use Rattle.toml_working.specs.Seeing.{IsSoughtAt, LacksSought, is_sought_line, line_at}
use Rattle.toml_working.specs.Spellings.{AreSteps}
use Rattle.toml_working.specs.Standing.{Standing, Read, AreOrdered, line_standing, slots_standing}
use Rattle.toml_working.specs.Stands.{BodyKept, SlotKept, Stands}

-- whether lines begin with a header at the address or below it; by layout `Follow` comment lines may stand before that
abbrev pub lead_below : Layout → Address → List Standing → Bool
lead_below layout q [] = false
lead_below layouts.Plain q (s ∷ ss) = is_sought_line sought.HeaderBelow q s
lead_below layouts.Follow q (s ∷ ss) = if is_comment s then lead_below layouts.Follow q ss else is_sought_line sought.HeaderBelow q s

-- the whitespace with which the new header begins: by layout `Follow` that of the header to which these lines lead
abbrev pub ws_ahead : Layout → List Standing → List ℕ
ws_ahead layout [] = []
ws_ahead layouts.Plain (s ∷ ss) = []
ws_ahead layouts.Follow (s ∷ ss) = if is_comment s then ws_ahead layouts.Follow ss else s.outline.ws

-- the whitespace of the first line of a section whose header begins with this; these lines stand before the header
abbrev pub spacing_below : Layout → List ℕ → List Standing → Spacing
spacing_below layout ws front = laid_out layout (spacing_like ws (like_before ws front))

-- the new header, and the line behind it, between lines
abbrev pub section_standing : Address → List ℕ → ValueOutline → Manner → List Standing → List Standing → List Standing
section_standing q name v manner front back = let ws = ws_ahead manner.layout back in
    new_header q One ws manner.newline ∷ new_standing_in q (spacing_below manner.layout ws front) (name ∷ []) v manner.newline ∷ []

-- a new header and the line behind it are put in before the first header at the address or below it; by layout `Follow` before the comment
-- lines directly above that
abbrev pub put_ahead : Address → List ℕ → ValueOutline → Manner → List Standing → List Standing → List Standing
put_ahead q name v manner front [] = []
put_ahead q name v manner front (s ∷ ss) =
    if lead_below manner.layout q (s ∷ ss) then section_standing q name v manner front (s ∷ ss) ++ s ∷ ss
    else s ∷ put_ahead q name v manner (front ++ s ∷ []) ss

-- lines have a header below the address, of a table or an array there, none at it, and no dotted key makes a table at it
pub record AreImplied (q : Address) (ss : List Standing) : Type 0 where
  pub below : list_any (is_sought_line sought.HeaderBelow q) ss ≡ true
  pub no_header : list_any (is_sought_line sought.Header q) ss ≡ false
  pub no_dotted : list_any (is_sought_line sought.Dotted q) ss ≡ false

-- ---- the place

-- the last of these lines, if there is one, is no comment line
abbrev pub EndsUncommented : List Standing → Type 0
EndsUncommented front = (front ≡ []) ⊎ ((above : List Standing) × (t : Standing) × (front ≡ above ++ t ∷ []) × (is_no_comment t ≡ true))

-- What stands between the lines above a place and the header ahead of which the place is, by the layout: nothing, or the comment lines directly
-- above the header.
abbrev pub LeadsAhead : Layout → List Standing → List Standing → Type 0
LeadsAhead layouts.Plain front between = between ≡ []
LeadsAhead layouts.Follow front between = (list_any is_no_comment between ≡ false) × EndsUncommented front

-- The place is ahead of the header at the other, by the layout. It is that of one of the lines of its slot, or right behind the last one.
pub record GoesAhead (layout : Layout) (read : Read) (slots : List Slot) (next at : Position) : Type 0 where
  pub inside : IsInSlot read slots at
  pub between : List Standing
  pub is : lines_before read slots next.slot next.index ≡ lines_before read slots at.slot at.index ++ between
  pub leads : LeadsAhead layout (lines_before read slots at.slot at.index) between

-- where there is a line at the first place, the other is ahead of it by layout `Follow`
abbrev pub IsAboveComments : Read → List Slot → Position → Position → Type 0
IsAboveComments read slots next at = (s : Standing) → line_at read slots next ≡ Some s → GoesAhead layouts.Follow read slots next at

-- the whitespace of a new header ahead of this one
abbrev pub ws_like : Layout → Standing → List ℕ
ws_like layouts.Plain s = []
ws_like layouts.Follow s = s.outline.ws

-- where there is a line, the place is ahead of it, and with this whitespace a header begins there
abbrev pub IsAhead : Layout → Read → List Slot → Position → Position → Leaf → Type 0
IsAhead layout read slots next at ws = (s : Standing) → line_at read slots next ≡ Some s
    → GoesAhead layout read slots next at × (leaf_text ws ≡ ws_like layout s)

-- ahead of the line at a place, if there is one, the first line of a section whose header begins with `own` has this whitespace, and this
-- around its `=`
abbrev pub LaysOutBelow : Layout → List ℕ → Read → List Slot → Position → Leaf → Option Equals → Type 0
LaysOutBelow layout own read slots next ws equals = (s : Standing) → line_at read slots next ≡ Some s
    → spaced_by (leaf_text ws) (around equals) ≡ spacing_below layout own (lines_before read slots next.slot next.index)

-- a header and a line behind it are put in at a place
abbrev pub PutsSection : Address → Brackets → List ℕ → List (String Global) → List ℕ → Line → Read → Position → List Slot → List Slot → Type 0
PutsSection q brackets ws steps style line read at old now = AreSpellings q (map string_bytes steps) → IsInSlot read old at → (text : List ℕ)
    → EachIs (SlotKept text read) old → BodyKept text read line.body
    → EachIs (SlotKept text read) now
    × (slots_standing read now
    ≡ lines_before read old at.slot at.index ++ new_header q brackets ws style ∷ line_standing read line ∷ lines_from read old at.slot at.index)

-- ---- on a tree

-- a name is put into the table, where the line at the place is the first header at it or below it
abbrev pub PutsAhead : Address → Address → List (String Global) → ValueOutline → Read → Position → Tree → Tree → Type 0
PutsAhead q at steps v read next old now = (name : List ℕ) → at ≡ child q name → AreSteps at steps → (ss : List Standing)
    → Stands (text_of old.texts.source) read old.slots.items ss
    → IsSoughtAt sought.HeaderBelow q read old.slots.items next
    → LacksSought sought.HeaderBelow q (lines_before read old.slots.items next.slot next.index)
    → Stands (text_of old.texts.source) read now.slots.items (put_ahead q name v (manner old) [] ss)

-- a name is put into the table on lines of a tree that are as the table rules have them; the root needs no header
abbrev pub TreePutsAhead : Address → Address → List (String Global) → ValueOutline → Read → Tree → Tree → Type 0
TreePutsAhead q at steps v read old now = ¬ (q ≡ []) → (name : List ℕ) → at ≡ child q name → AreSteps at steps → (ss : List Standing)
    → Stands (text_of old.texts.source) read old.slots.items ss → AreOrdered ss → AreImplied q ss
    → Stands (text_of old.texts.source) read now.slots.items (put_ahead q name v (manner old) [] ss)
