-- A header line that is put in by layout `Follow`: the lines that are looked for, and what then stands on the lines.
use Rattle.std.specs.Prelude.{◌≡◌, ◌<◌, ◌+◌, ◌^◌, ◌&&◌, ℕ, Bool, true, false, not, ◌||◌, List, [], ◌∷◌, ◌++◌, map, Option, Some, None, MatchOption, IfSome, is_some, option_map, string_bytes, if◌then◌else◌}
use Rattle.std.specs.List.{list_any}
use Rattle.std.specs.declared.alloc.Global.{Global}
use Rattle.std.specs.declared.string.String.{String}
use Rattle.toml_names.specs.model.Addresses.{Address}
use Rattle.toml_text.specs.Source.{text_of}
use Rattle.toml_tree.specs.Spells.{EachIs}
use Rattle.toml_layout.specs.declared.tree.Brackets.{Brackets}
use Rattle.toml_layout.specs.OpenOutlines.{leaf_text}
use Rattle.toml_layout.specs.declared.tree.Leaf.{Leaf}
use Rattle.toml_working.specs.declared.headers.Landmark.{Landmark}
use Rattle.toml_working.specs.declared.headers.Landmark.TheVariants as marks
use Rattle.toml_working.specs.declared.lines.Slot.{Slot}
use Rattle.toml_working.specs.declared.working.Position.{Position}
use Rattle.toml_working.specs.declared.working.Tree.{Tree}
use Rattle.toml_working.specs.Manners.{ends_in_newline}
use Rattle.toml_working.specs.FollowingHeaders.{behind_family, behind_section, blank_line, ends_empty, ends_filled, family, header_behind}
use Rattle.toml_working.specs.FollowingHeaders.{header_ws, is_close, wants_blank, put_at_end, put_following, writes_blank, has_parts, is_filled, is_header_line, is_no_comment}
use Rattle.toml_working.specs.Headers.{element_of, put_at_text_end}
use Rattle.toml_working.specs.InsertStanding.{is_bare}
use Rattle.toml_working.specs.Placing.{lines_before, lines_from}
use Rattle.toml_working.specs.PuttingHeaders.{AreSpellings}
use Rattle.toml_working.specs.Seeing.{line_at}
use Rattle.toml_working.specs.Standing.{Standing, Read, is_below, slots_standing}
use Rattle.toml_working.specs.Stands.{SlotKept, Stands}

-- ---- what is looked for

-- it is told of the line at a place whether it is so; where there is no line it is not
abbrev pub TellsAt : (Standing → Bool) → Read → List Slot → Position → Bool → Type 0
TellsAt f read slots at so = MatchOption (line_at read slots at) (so ≡ false) (λ s. so ≡ f s)

-- whether a line is what is looked for
abbrev pub is_landmark : Landmark → Standing → Bool
is_landmark (marks.Below r) s = is_below r.now s
is_landmark marks.Header s = is_header_line s
is_landmark (marks.Parts n) s = has_parts n s
is_landmark marks.NoComment s = is_no_comment s
is_landmark marks.Line s = true

-- the line at the place is the last one before another place that is so
pub record IsLastThat (f : Standing → Bool) (read : Read) (slots : List Slot) (place at : Position) : Type 0 where
  pub line : Standing
  pub between : List Standing
  pub there : line_at read slots at ≡ Some line
  pub next : at.index + 1 < 2 ^ 64
  pub so : f line ≡ true
  pub is : lines_before read slots place.slot place.index ≡ lines_before read slots at.slot at.index ++ line ∷ between
  pub none : list_any f between ≡ false

-- none of the lines from a place up to another is so
pub record NoneUpTo (f : Standing → Bool) (read : Read) (slots : List Slot) (place : Position) (slot index : ℕ) : Type 0 where
  pub between : List Standing
  pub is : lines_before read slots place.slot place.index ≡ lines_before read slots slot index ++ between
  pub none : list_any f between ≡ false

-- the last line that is so before a place is found, if there is one
abbrev pub FindsLandmark : (Standing → Bool) → Read → List Slot → Position → Option Position → Type 0
FindsLandmark f read slots place result =
    MatchOption result (list_any f (lines_before read slots place.slot place.index) ≡ false) (IsLastThat f read slots place)

-- the same in one slot, where none was found behind
abbrev pub GoesUpTo : (Standing → Bool) → Read → List Slot → Position → Option Position → Type 0
GoesUpTo f read slots at result = (place : Position) → NoneUpTo f read slots place at.slot at.index
    → MatchOption result (NoneUpTo f read slots place at.slot 0) (IsLastThat f read slots place)

-- whether something stands on one of the lines from a place on
abbrev pub FillsFrom : Read → List Slot → Position → Bool → Type 0
FillsFrom read slots at result = result ≡ list_any is_filled (lines_from read slots at.slot at.index)

-- on none of the lines of the slot does, or on one
abbrev pub FillsSlot : Read → List Slot → Position → Bool → Type 0
FillsSlot read slots at true = list_any is_filled (lines_from read slots at.slot at.index) ≡ true
FillsSlot read slots at false =
    list_any is_filled (lines_from read slots at.slot at.index) ≡ list_any is_filled (lines_from read slots (at.slot + 1) 0)

-- a header line at the address that is put in at a place begins so
abbrev pub BeginsHeader : Address → Read → List Slot → Position → Leaf → Type 0
BeginsHeader p read slots at ws = leaf_text ws ≡ header_ws p (lines_before read slots at.slot at.index)

-- ---- behind a section

-- lines with a new one behind the line at a place
abbrev pub put_behind : (List Standing → Standing) → Read → List Slot → Position → List Standing
put_behind new read slots at = let front = lines_before read slots at.slot (at.index + 1) in
    front ++ new front ∷ lines_from read slots at.slot (at.index + 1)

-- a line stands at the place
pub record IsLine (read : Read) (slots : List Slot) (at : Position) : Type 0 where
  pub line : Standing
  pub there : line_at read slots at ≡ Some line
  pub next : at.index + 1 < 2 ^ 64

-- Where a line with a key or a header stands at the first place, behind the one at the other a new line goes in the section, if something
-- stands on one of the lines that follow there.
abbrev pub EndsSectionAt : Read → List Slot → Position → Position → Type 0
EndsSectionAt read slots at end = (s : Standing) → line_at read slots at ≡ Some s → is_bare s.base s.address ≡ false → at.index + 1 < 2 ^ 64
    → IsLine read slots end × ((new : List Standing → Standing)
    → option_map (λ r. lines_before read slots at.slot at.index ++ r) (behind_section new (lines_before read slots at.slot at.index) (lines_from read slots at.slot at.index))
    ≡ (if list_any is_filled (lines_from read slots end.slot (end.index + 1)) then Some (put_behind new read slots end) else None))

-- the place behind all lines
abbrev pub IsBehindAll : Read → List Slot → Position → Type 0
IsBehindAll read slots at = lines_before read slots at.slot at.index ≡ slots_standing read slots

-- the last line at the address or below it is found, if there is one; the root is not looked for
abbrev pub FindsLastBelow : Address → Read → List Slot → Option Position → Type 0
FindsLastBelow [] read slots result = result ≡ None
FindsLastBelow (s ∷ r) read slots result =
    MatchOption result (list_any (is_below (s ∷ r)) (slots_standing read slots) ≡ false)
    (λ at. (end : Position) × IsBehindAll read slots end × IsLastThat (is_below (s ∷ r)) read slots end at)

-- an array of tables is not the root
abbrev pub ArrayIsNotRoot : Address → Address → Type 0
ArrayIsNotRoot q p = is_some (element_of p) ≡ true → ¬ (q ≡ [])

-- so it is of the family
abbrev pub FindsFamily : Address → Address → Read → List Slot → Option Position → Type 0
FindsFamily q p read slots = FindsLastBelow (family q p (slots_standing read slots)) read slots

-- the line behind which a new one goes, if there is one
abbrev pub FindsBeside : Address → Address → Read → List Slot → Option Position → Type 0
FindsBeside q p read slots result = ArrayIsNotRoot q p → let ss = slots_standing read slots in IfSome result (IsLine read slots)
    × ((new : List Standing → Standing) → behind_family (family q p ss) new ss ≡ option_map (put_behind new read slots) result)

-- ---- what then stands on the lines

-- a header line is put in behind the line at a place
abbrev pub PutsBeside : Address → Brackets → List (String Global) → List ℕ → Read → Position → List Slot → List Slot → Bool → Type 0
PutsBeside p brackets steps style read behind old now done = AreSpellings p (map string_bytes steps) → IsLine read old behind
    → (text : List ℕ) → EachIs (SlotKept text read) old → EachIs (SlotKept text read) now
    × (slots_standing read now ≡ put_behind (λ front. header_behind p brackets front style) read old behind) × (done ≡ true)

-- a blank line is put in before the last line
abbrev pub PutsBlank : List ℕ → List ℕ → Read → List Slot → List Slot → Bool → Type 0
PutsBlank style text read old now done = (ss : List Standing) → Stands text read old ss → ¬ (ss ≡ []) → ends_empty ss ≡ true
    → Stands text read now (put_at_text_end blank_line style ss) × (done ≡ true)

-- the last of the lines before a place is there and is not blank, and their last section is close to what stands above it
abbrev pub TellsFilled : Read → List Slot → Position → Bool → Type 0
TellsFilled read slots place result = result ≡ ends_filled (lines_before read slots place.slot place.index)

abbrev pub TellsClose : Read → List Slot → Position → Bool → Type 0
TellsClose read slots place result = result ≡ is_close [] (lines_before read slots place.slot place.index)

-- whether a blank line may be written: none was, and the text ended in a newline
abbrev pub may_write_blank : Tree → Bool
may_write_blank tree = not tree.has_written_blank && ends_in_newline (text_of tree.texts.source)

-- whether one goes before the last line
abbrev pub TellsBlankDue : Read → Tree → Bool → Type 0
TellsBlankDue read tree result = (ss : List Standing) → Stands (text_of tree.texts.source) read tree.slots.items ss → result ≡ (may_write_blank tree && wants_blank ss)

-- a header line is put in at the end of the text
abbrev pub PutsAtEnd : Address → Brackets → List (String Global) → Read → Tree → Tree → Bool → Type 0
PutsAtEnd p brackets steps read old now done = AreSpellings p (map string_bytes steps) → (ss : List Standing)
    → Stands (text_of old.texts.source) read old.slots.items ss → ¬ (ss ≡ [])
    → Stands (text_of old.texts.source) read now.slots.items (put_at_end p brackets (leaf_text old.style) (may_write_blank old) ss) × (done ≡ true)
    × (now.has_written_blank ≡ (old.has_written_blank || (may_write_blank old && wants_blank ss)))

-- in layout `Follow` it is put in where it goes
abbrev pub TreeFollows : Address → Address → Brackets → List (String Global) → Read → Tree → Tree → Bool → Type 0
TreeFollows q p brackets steps read old now done = ArrayIsNotRoot q p → AreSpellings p (map string_bytes steps) → (ss : List Standing)
    → Stands (text_of old.texts.source) read old.slots.items ss → ¬ (ss ≡ [])
    → Stands (text_of old.texts.source) read now.slots.items (put_following q p brackets (leaf_text old.style) (may_write_blank old) ss) × (done ≡ true)
    × (now.has_written_blank ≡ (old.has_written_blank || writes_blank q p brackets (leaf_text old.style) (may_write_blank old) ss))
