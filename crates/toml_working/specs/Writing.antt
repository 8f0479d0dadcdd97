-- What is written of the working tree.
use Rattle.std.specs.Prelude.{◌≡◌, ℕ, List, [], ◌∷◌, ◌++◌, map, Result, OnOk, slice_range}
use Rattle.std.specs.declared.alloc.AllocError.{AllocError}
use Rattle.toml_text.specs.Source.{IsHeld}
use Rattle.toml_tree.specs.Spells.{Spells, joined, lines_parts}
use Rattle.toml_tree.specs.Tree as tree
use Rattle.toml_working.specs.declared.lines.Body.TheVariants as bodies
use Rattle.toml_working.specs.declared.lines.Kept.{Kept}
use Rattle.toml_working.specs.declared.lines.Line.{Line}
use Rattle.toml_working.specs.declared.lines.Slot.{Slot}
use Rattle.toml_working.specs.declared.lines.Slot.TheVariants as slots
use Rattle.toml_layout.specs.OpenOutlines.{line}
use Rattle.toml_layout.specs.Outlines.{line_outlined, lines_outlined}
use Rattle.toml_working.specs.Standing.{Read, Standing, standing}
use Rattle.toml_working.specs.Stands.{Stands}

-- the text before the edits, and what is written so far
pub record Written : Type 0 where
  pub before : List ℕ
  pub out : List ℕ

-- the text is written behind what was
abbrev pub Writes : List ℕ → Written → Written → Result (Unit {0}) AllocError → Type 0
Writes text old new result = (new.before ≡ old.before) × OnOk result (new.out ≡ old.out ++ text)

-- a line that is as it was spells what stands there in the text before the edits
abbrev pub SpellsKept : List ℕ → Kept → List ℕ → Type 0
SpellsKept before kept text = IsHeld before kept.span × (text ≡ slice_range before kept.span.start kept.span.end)

-- a line of the working tree spells the text
abbrev pub SpellsLine : List ℕ → Line → List ℕ → Type 0
SpellsLine before l text = elim l.body [
  | bodies.Kept kept ↦ SpellsKept before kept text
  | bodies.Open opened ↦ text ≡ line_outlined (line opened.value)
]

-- things spell the text, one behind the other
abbrev pub SpellAll : {A : Type 0} → (A → List ℕ → Type 0) → List A → List ℕ → Type 0
SpellAll P [] text = text ≡ []
SpellAll P (x ∷ xs) text = (front : List ℕ) × (back : List ℕ) × P x front × SpellAll P xs back × (text ≡ front ++ back)

abbrev pub SpellsSlot : List ℕ → Slot → List ℕ → Type 0
SpellsSlot before (slots.Kept kept) text = SpellsKept before kept text
SpellsSlot before (slots.Lines lines) text = SpellAll (SpellsLine before) lines.items text

-- All is written: the mark, and the lines that the slots stand for.
abbrev pub WritesOut : List ℕ → List ℕ → List Slot → List ℕ → Type 0
WritesOut before mark slots out =
    (read : Read) (ss : List Standing) → Stands before read slots ss → out ≡ mark ++ lines_outlined (map (λ (s : Standing). s.outline) ss)

-- Laws: where the slots stand for the lines of a tree, the mark and the text of these lines are written;
abbrev pub LinesAreWritten : Type 0
LinesAreWritten = (before mark : List ℕ) (read : Read) (slots : List Slot) (lines : List tree.Line) (out : List ℕ)
    → WritesOut before mark slots out → Stands before read slots (standing lines) → out ≡ mark ++ joined (lines_parts lines)

-- where they stand for the lines of the text, the text.
abbrev pub TextIsWritten : Type 0
TextIsWritten = (text : List ℕ) (d : tree.Doc) (read : Read) (slots : List Slot) (out : List ℕ) → Spells d text
    → WritesOut text d.mark.text slots out → Stands text read slots (standing d.lines) → out ≡ text
