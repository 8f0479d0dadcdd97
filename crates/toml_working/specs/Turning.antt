-- One of the lines of the working tree turns into another, and no other does.
use Rattle.std.specs.Prelude.{◌≡◌, ℕ, List, Some, set, slice_get, MatchOption}
use Rattle.toml_text.specs.Source.{text_of}
use Rattle.toml_tree.specs.Tree as tree
use Rattle.toml_working.specs.declared.lines.Line.{Line}
use Rattle.toml_working.specs.declared.lines.Slot.{Slot}
use Rattle.toml_layout.specs.declared.texts.Texts.{Texts}
use Rattle.toml_working.specs.Standing.{Standing, Read, line_standing, slot_standing}
use Rattle.toml_working.specs.Stands.{BodyKept, SlotKept}

-- the one with the index turns into another, or there is none
abbrev pub OneTurns : {A : Type 0} → (A → A → Type 0) → ℕ → List A → List A → Type 0
OneTurns {A} R index old now = MatchOption (slice_get old index) (now ≡ old) (λ x. (y : A) × (now ≡ set old index y) × R x y)

-- what stands on a line turns into something else
abbrev pub LineTurns : Texts → List tree.Line → (Standing → Standing → Type 0) → Line → Line → Type 0
LineTurns texts lines R old now = (read : Read) → read.lines ≡ lines → BodyKept (text_of texts.source) read old.body
    → BodyKept (text_of texts.source) read now.body × R (line_standing read old) (line_standing read now)

-- so it does on the line with the index of a slot
abbrev pub SlotTurns : Texts → Read → (Standing → Standing → Type 0) → ℕ → Slot → Slot → Type 0
SlotTurns texts read R index old now = SlotKept (text_of texts.source) read old
    → SlotKept (text_of texts.source) read now
    × ((s : Standing) → slice_get (slot_standing read old) index ≡ Some s
    → (t : Standing) × (slot_standing read now ≡ set (slot_standing read old) index t) × R s t)
