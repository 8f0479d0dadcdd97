-- What lines of the working tree become, by what stands on them.
use Rattle.std.specs.Prelude.{◌≡◌, ℕ, List, [], Option, map}
use Rattle.std.specs.Global.{Box}
use Rattle.toml_names.specs.model.Addresses.{Address}
use Rattle.toml_text.specs.Source.{text_of}
use Rattle.toml_tree.specs.Tree as tree
use Rattle.toml_working.specs.declared.lines.Body.{Body}
use Rattle.toml_working.specs.declared.lines.Body.TheVariants as bodies
use Rattle.toml_working.specs.declared.lines.Line.{Line}
use Rattle.toml_working.specs.declared.lines.Slot.{Slot}
use Rattle.toml_working.specs.declared.renaming.Renaming.{Renaming}
use Rattle.toml_layout.specs.declared.texts.Texts.{Texts}
use Rattle.toml_layout.specs.declared.tree.OpenLine.{OpenLine}
use Rattle.toml_working.specs.declared.working.Tree.{Tree}
use Rattle.toml_layout.specs.OpenOutlines.{line}
use Rattle.toml_layout.specs.Outlines.{LineOutline}
use Rattle.toml_layout.specs.RenamedPairs.{line_part_with}
use Rattle.toml_working.specs.RenameStanding.{rename_below, rename_own, rename_standing}
use Rattle.toml_working.specs.Together.{GoTogether}
use Rattle.toml_working.specs.Standing.{Standing, Read, AreOrdered, body_outline, slot_standing}
use Rattle.toml_working.specs.Stands.{BodyKept, SlotKept, Stands}
use Rattle.toml_working.specs.Turning.{LineTurns, OneTurns}

-- by a renaming, a line at its address or below it, and one that may stand elsewhere and then stays
abbrev pub renamed_own : Renaming → Standing → Standing
renamed_own r = rename_own r.at.now r.name.now r.spelled.now

abbrev pub renamed_below : Renaming → Standing → Standing
renamed_below r = rename_below r.at.now r.name.now r.spelled.now

-- what is opened gets another outline
abbrev pub OpenBecomes : (LineOutline → LineOutline) → Body → Body → Type 0
OpenBecomes f (bodies.Open old) now = (opened : Box OpenLine) × (now ≡ bodies.Open opened) × (line opened.value ≡ f (line old.value))
OpenBecomes f (bodies.Kept kept) now = now ≡ bodies.Kept kept

-- what is on a line gets another outline, kept or opened
abbrev pub BodyBecomes : Texts → List tree.Line → (LineOutline → LineOutline) → Body → Body → Type 0
BodyBecomes texts lines f old now = (read : Read) → read.lines ≡ lines → BodyKept (text_of texts.source) read old
    → BodyKept (text_of texts.source) read now × (body_outline read now ≡ f (body_outline read old))

-- its key gets this text in one part, if it has that
abbrev pub PartBecomes : Option ℕ → List ℕ → Texts → List tree.Line → Body → Body → Type 0
PartBecomes part text texts lines = BodyBecomes texts lines (line_part_with part text)

-- a line stands for another one, and so do lines, one by one
abbrev pub LineBecomes : Texts → List tree.Line → (Standing → Standing) → Line → Line → Type 0
LineBecomes texts lines f = LineTurns texts lines (λ s t. t ≡ f s)

abbrev pub LinesBecome : Texts → List tree.Line → (Standing → Standing) → List Line → List Line → Type 0
LinesBecome texts lines f old now = GoTogether (LineBecomes texts lines f) old now

-- so does each line of a slot, of the slot with the index, or of slots
abbrev pub SlotBecomes : Texts → Read → (Standing → Standing) → Slot → Slot → Type 0
SlotBecomes texts read f old now = SlotKept (text_of texts.source) read old
    → SlotKept (text_of texts.source) read now × (slot_standing read now ≡ map f (slot_standing read old))

abbrev pub SlotAtBecomes : Texts → Read → (Standing → Standing) → ℕ → List Slot → List Slot → Type 0
SlotAtBecomes texts read f = OneTurns (SlotBecomes texts read f)

abbrev pub SlotsBecome : Texts → Read → (Standing → Standing) → List Slot → List Slot → Type 0
SlotsBecome texts read f old now = GoTogether (SlotBecomes texts read f) old now

-- and of a tree
abbrev pub TreeBecomes : Read → (Standing → Standing) → Tree → Tree → Type 0
TreeBecomes read f old now = SlotsBecome old.texts read f old.slots.items now.slots.items

-- a `rename` on lines, below the root, to a name that is spelled by the text
abbrev pub RenamesLines : Address → List ℕ → List ℕ → List ℕ → Read → List Slot → List Slot → Type 0
RenamesLines p to spelled text read old now =
    ¬ (p ≡ []) → (ss : List Standing) → Stands text read old ss → AreOrdered ss
    → Stands text read now (map (rename_standing p to spelled) ss)

-- so it is of the lines of a tree
abbrev pub TreeRenames : Address → List ℕ → List ℕ → Read → Tree → Tree → Type 0
TreeRenames p to spelled read old now = RenamesLines p to spelled (text_of old.texts.source) read old.slots.items now.slots.items
