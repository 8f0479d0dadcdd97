-- A line that gets another newline, and one that is put in, by what then stands on the lines.
use Rattle.std.specs.Prelude.{◌≡◌, ◌<◌, ◌+◌, ◌^◌, ◌↔◌, ℕ, Bool, false, List, [], ◌∷◌, ◌++◌, IsTrue, Some, length, slice_get, take, drop, map, string_bytes}
use Rattle.std.specs.declared.alloc.Global.{Global}
use Rattle.std.specs.declared.string.String.{String}
use Rattle.toml_scalar.specs.Spelling.{spelled}
use Rattle.toml_names.specs.declared.model.address.Step.TheVariants.{Name}
use Rattle.toml_names.specs.mentions.Keys.{Key}
use Rattle.toml_names.specs.model.Addresses.{Address, below}
use Rattle.toml_text.specs.Source.{text_of}
use Rattle.toml_tree.specs.Spells.{EachIs}
use Rattle.toml_tree.specs.Tree as tree
use Rattle.toml_working.specs.declared.lines.Line.{Line}
use Rattle.toml_working.specs.declared.lines.Slot.{Slot}
use Rattle.toml_layout.specs.declared.texts.Texts.{Texts}
use Rattle.toml_working.specs.declared.working.Position.{Position}
use Rattle.toml_working.specs.declared.working.Tree.{Tree}
use Rattle.toml_working.specs.Becoming.{LineBecomes}
use Rattle.toml_working.specs.FirstKeys.{spacing_put}
use Rattle.toml_working.specs.Following.{may_write_blank}
use Rattle.toml_working.specs.InsertStanding.{AreRooted, end_in, has_pair, insert_first, insert_standing, line_put, new_outline}
use Rattle.toml_working.specs.LookingUp.{IsInSlot}
use Rattle.toml_working.specs.Manners.{Manner}
use Rattle.toml_working.specs.OpeningLines.{HasOutline}
use Rattle.toml_layout.specs.OpenOutlines.{leaf_text}
use Rattle.toml_layout.specs.Outlines.{ValueOutline}
use Rattle.toml_working.specs.Placing.{lines_before, lines_from}
use Rattle.toml_working.specs.Seeing.{line_at}
use Rattle.toml_layout.specs.Spacings.{plain_spacing}
use Rattle.toml_working.specs.Standing.{Standing, Read, line_standing, slot_standing, slots_standing}
use Rattle.toml_working.specs.Stands.{BodyKept, SlotKept, Stands}
use Rattle.toml_working.specs.Turning.{OneTurns, SlotTurns}

-- whether a line is the last one, which ends in no newline
abbrev pub TellsLast : Bool → Standing → Type 0
TellsLast result s = IsTrue result ↔ (s.outline.newline ≡ [])

abbrev pub LineIsLast : Line → Bool → Type 0
LineIsLast l result = (text : List ℕ) (read : Read) → BodyKept text read l.body → TellsLast result (line_standing read l)

abbrev pub SlotIsLast : Slot → ℕ → Bool → Type 0
SlotIsLast slot index result = (text : List ℕ) (read : Read) → SlotKept text read slot
    → (s : Standing) → slice_get (slot_standing read slot) index ≡ Some s → TellsLast result s

abbrev pub IsLastAt : List Slot → Position → Bool → Type 0
IsLastAt slots at result = (text : List ℕ) (read : Read) → EachIs (SlotKept text read) slots
    → (s : Standing) → line_at read slots at ≡ Some s → TellsLast result s

-- the line with the index gets the newline, and no other; or there is none
abbrev pub EndsOne : List ℕ → Texts → List tree.Line → ℕ → List Line → List Line → Type 0
EndsOne newline texts lines = OneTurns (LineBecomes texts lines (end_in newline))

abbrev pub EndsSlot : List ℕ → Texts → Read → ℕ → Slot → Slot → Type 0
EndsSlot newline texts read = SlotTurns texts read (λ s t. t ≡ end_in newline s)

-- the line at the place has become another, and those before and behind it stay
pub record Becomes (read : Read) (at : Position) (old now : List Slot) (s : Standing) : Type 0 where
  pub count : length now ≡ length old
  pub before : lines_before read now at.slot (at.index + 1) ≡ lines_before read old at.slot at.index ++ s ∷ []
  pub behind : lines_from read now at.slot (at.index + 1) ≡ lines_from read old at.slot (at.index + 1)

abbrev pub EndsSlots : List ℕ → Texts → Read → Position → List Slot → List Slot → Type 0
EndsSlots newline texts read at old now = EachIs (SlotKept (text_of texts.source) read) old
    → EachIs (SlotKept (text_of texts.source) read) now
    × ((s : Standing) → line_at read old at ≡ Some s → Becomes read at old now (end_in newline s))

-- what a line is before a new one, and the newline of the new one, by its own newline
abbrev pub ended_before : List ℕ → Standing → List ℕ → Standing
ended_before style s [] = end_in style s
ended_before style s (b ∷ bs) = s

abbrev pub newline_behind : List ℕ → List ℕ → List ℕ
newline_behind style [] = []
newline_behind style (b ∷ bs) = style

-- a line is made ready for one behind it, which is to end in the newline
abbrev pub EndsBefore : List ℕ → Texts → Read → Position → List Slot → List Slot → List ℕ → Type 0
EndsBefore style texts read at old now newline = EachIs (SlotKept (text_of texts.source) read) old
    → EachIs (SlotKept (text_of texts.source) read) now
    × ((s : Standing) → line_at read old at ≡ Some s
    → Becomes read at old now (ended_before style s s.outline.newline) × (newline ≡ newline_behind style s.outline.newline))

-- so it is of the lines of a tree
abbrev pub TreeEndsBefore : Read → Position → Tree → Tree → List ℕ → Type 0
TreeEndsBefore read at old now = EndsBefore (leaf_text old.style) old.texts read at old.slots.items now.slots.items

-- a line is put in among those of a slot, and at a place
abbrev pub PutsSlot : Read → ℕ → Line → Slot → Slot → Type 0
PutsSlot read index line old now = (text : List ℕ) → SlotKept text read old → BodyKept text read line.body
    → SlotKept text read now
    × (slot_standing read now ≡ take index (slot_standing read old) ++ line_standing read line ∷ drop index (slot_standing read old))

abbrev pub PutsSlots : Read → Position → Line → List Slot → List Slot → Type 0
PutsSlots read at line old now = at.slot < length old → (text : List ℕ) → EachIs (SlotKept text read) old → BodyKept text read line.body
    → EachIs (SlotKept text read) now
    × (slots_standing read now ≡ lines_before read old at.slot at.index ++ line_standing read line ∷ lines_from read old at.slot at.index)

-- where the place is that of one of the lines of its slot, or right behind the last one, the new line is then the first one from there on, and
-- those before stay
abbrev pub PutsThere : Read → Position → Line → List Slot → List Slot → Type 0
PutsThere read at line old now = IsInSlot read old at → (text : List ℕ) → EachIs (SlotKept text read) old → BodyKept text read line.body
    → (at.slot < length now) × (lines_before read now at.slot at.index ≡ lines_before read old at.slot at.index)
    × (lines_from read now at.slot at.index ≡ line_standing read line ∷ lines_from read old at.slot at.index)

-- the address of a name at the root is not this one
abbrev pub IsElsewhere : Address → Type 0
IsElsewhere at = (name : List ℕ) → ¬ (at ≡ Name name ∷ [])

-- the address is that of this key in the table at the other, and these are the spellings of its last steps
pub record IsKeyIn (q : Address) (key : Key) (at : Address) (steps : List (String Global)) : Type 0 where
  pub some : ¬ (key ≡ [])
  pub at_is : at ≡ below q key
  pub steps_is : drop (length q) (map string_bytes steps) ≡ map spelled key

-- that of a name
abbrev pub IsNameIn : Address → List ℕ → Address → List (String Global) → Type 0
IsNameIn q name = IsKeyIn q (name ∷ [])

-- at the root
abbrev pub IsRootName : List ℕ → Address → List (String Global) → Type 0
IsRootName = IsNameIn []

-- what is written by on a tree
abbrev pub manner : Tree → Manner
manner tree = record { newline = leaf_text tree.style; layout = tree.texts.layout; may_blank = may_write_blank tree }

-- the line of a key in a table, in the plain layout
abbrev pub IsPairLine : Address → ℕ → List (String Global) → ValueOutline → List ℕ → Line → Type 0
IsPairLine at base steps v newline l = (q : Address) → base ≡ length q → (key : Key) → IsKeyIn q key at steps
    → (l.address ≡ Some (below q key)) × (l.base ≡ Some (length q)) × HasOutline (new_outline plain_spacing key v newline) l.body

-- it is put in behind the line at the place
abbrev pub PutsBehind : Address → ℕ → List (String Global) → ValueOutline → Manner → Texts → Read → Position → List Slot → List Slot
    → Type 0
PutsBehind at base steps v manner texts read place old now = (q : Address) → base ≡ length q → (key : Key) → IsKeyIn q key at steps
    → place.index + 1 < 2 ^ 64 → EachIs (SlotKept (text_of texts.source) read) old
    → (s : Standing) → line_at read old place ≡ Some s
    → let front = lines_before read old place.slot place.index in EachIs (SlotKept (text_of texts.source) read) now
    × (slots_standing read now ≡ front ++ (line_put q (spacing_put manner front s) key v manner s s.outline.newline ++ lines_from read old place.slot (place.index + 1)))

-- so it is of the lines of a tree
abbrev pub TreePutsBehind : Address → ℕ → List (String Global) → ValueOutline → Read → Position → Tree → Tree → Type 0
TreePutsBehind at base steps v read place old now =
    PutsBehind at base steps v (manner old) old.texts read place old.slots.items now.slots.items

-- behind the last line of the root, or as its first one
abbrev pub InsertsLines : Address → List (String Global) → ValueOutline → Manner → List ℕ → Read → List Slot → List Slot → Type 0
InsertsLines at steps v manner text read old now = (name : List ℕ) → IsRootName name at steps → (ss : List Standing)
    → Stands text read old ss → AreRooted ss → Stands text read now (insert_standing name v manner ss)

-- so it is of the lines of a tree
abbrev pub TreeInserts : Address → List (String Global) → ValueOutline → Read → Tree → Tree → Type 0
TreeInserts at steps v read old now =
    InsertsLines at steps v (manner old) (text_of old.texts.source) read old.slots.items now.slots.items

-- where the root has no line with a key and a value, its first one is put in
abbrev pub InsertsFirst : Address → List (String Global) → ValueOutline → Manner → List ℕ → Read → List Slot → List Slot → Type 0
InsertsFirst at steps v manner text read old now = (name : List ℕ) → IsRootName name at steps → (ss : List Standing)
    → Stands text read old ss → AreRooted ss → has_pair ss ≡ false → Stands text read now (insert_first name v manner ss)

-- so it is of the lines of a tree
abbrev pub TreeInsertsFirst : Address → List (String Global) → ValueOutline → Read → Tree → Tree → Type 0
TreeInsertsFirst at steps v read old now =
    InsertsFirst at steps v (manner old) (text_of old.texts.source) read old.slots.items now.slots.items
