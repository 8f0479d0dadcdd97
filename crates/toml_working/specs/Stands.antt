-- The working tree stands for lines.
use Rattle.std.specs.Prelude.{◌≡◌, ◌↔◌, ℕ, Bool, List, [], ◌∷◌, Some, IsTrue, map, slice_get, slice_range}
use Rattle.std.specs.List.{list_any}
use Rattle.toml_text.specs.Source.{IsHeld, text_of}
use Rattle.std.specs.declared.vec.Vec.{Vec}
use Rattle.std.specs.declared.alloc.Global.{Global}
use Rattle.toml_names.specs.model.Addresses.{Address}
use Rattle.toml_tree.specs.Spells.{EachIs}
use Rattle.toml_tree.specs.Tree as tree
use Rattle.toml_units.specs.declared.unit.Unit.{Unit as ReadUnit}
use Rattle.toml_working.specs.declared.lines.Body.{Body}
use Rattle.toml_working.specs.declared.lines.Body.TheVariants as bodies
use Rattle.toml_working.specs.declared.lines.Kept.{Kept}
use Rattle.toml_working.specs.declared.lines.Line.{Line}
use Rattle.toml_working.specs.declared.lines.Slot.{Slot}
use Rattle.toml_working.specs.declared.lines.Slot.TheVariants as slots
use Rattle.toml_working.specs.declared.working.Tree.{Tree}
use Rattle.toml_layout.specs.Opening.{LineStands}
use Rattle.toml_layout.specs.Outlines.{ValueOutline, line_outlined}
use Rattle.toml_working.specs.Seeing.{kept_found}
use Rattle.toml_working.specs.Standing.{Standing, Read, AreOrdered, slots_standing, set_standing, has}
use Rattle.toml_layout.specs.TreeOutlines.{line_outline}

-- it is a line of the document that stands in the text where its span says, and what it says of that line is so
pub record IsKept (text : List ℕ) (read : Read) (kept : Kept) : Type 0 where
  pub line : tree.Line
  pub is : slice_get read.lines kept.line ≡ Some line
  pub stands : LineStands text line
  pub held : IsHeld text kept.span
  pub spells : slice_range text kept.span.start kept.span.end ≡ line_outlined (line_outline line)
  pub last : IsTrue kept.is_last ↔ (line.newline.text ≡ [])

abbrev pub BodyKept : List ℕ → Read → Body → Type 0
BodyKept text read (bodies.Kept kept) = IsKept text read kept
BodyKept text read (bodies.Open opened) = Unit {0}

abbrev pub SlotKept : List ℕ → Read → Slot → Type 0
SlotKept text read (slots.Kept kept) = IsKept text read kept
SlotKept text read (slots.Lines lines) = EachIs (λ (l : Line). BodyKept text read l.body) lines.items

-- a line that is as it was, with its address and base by the units
abbrev pub kept_line : List ReadUnit → Kept → Line
kept_line units kept = record { address = (kept_found units kept).address; base = (kept_found units kept).base; body = bodies.Kept kept }

-- a slot of one line that is as it was gets this as one of its own
abbrev pub OpensSlot : List ReadUnit → Slot → Slot → Type 0
OpensSlot units (slots.Lines lines) new = new ≡ slots.Lines lines
OpensSlot units (slots.Kept kept) new =
    (lines : Vec Line Global) × (new ≡ slots.Lines lines) × (lines.items ≡ kept_line units kept ∷ [])

-- the slots stand for the lines: those that are as they were are kept so, and all are these
pub record Stands (text : List ℕ) (read : Read) (slots : List Slot) (ss : List Standing) : Type 0 where
  pub kept : EachIs (SlotKept text read) slots
  pub are : slots_standing read slots ≡ ss

-- the texts, the elements that are gone, and the newline of new lines stay
pub record KeepsTexts (old new : Tree) : Type 0 where
  pub texts : new.texts ≡ old.texts
  pub elements : new.elements ≡ old.elements
  pub style : new.style ≡ old.style

-- and no blank line is written before a header line
pub record KeepsRest (old new : Tree) : Type 0 where
  pub texts : new.texts ≡ old.texts
  pub elements : new.elements ≡ old.elements
  pub style : new.style ≡ old.style
  pub blank : new.has_written_blank ≡ old.has_written_blank

-- a `set` on lines, below the root
abbrev pub SetsLines : Address → ValueOutline → List ℕ → Read → List Slot → List Slot → Bool → Type 0
SetsLines p new text read old now done =
    ¬ (p ≡ []) → (ss : List Standing) → Stands text read old ss → AreOrdered ss
    → Stands text read now (map (set_standing p new) ss) × (done ≡ list_any (has p) ss)

-- so it is of the lines of a tree
abbrev pub TreeSets : Address → ValueOutline → Read → Tree → Tree → Bool → Type 0
TreeSets p new read old now = SetsLines p new (text_of old.texts.source) read old.slots.items now.slots.items
