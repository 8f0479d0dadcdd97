-- How lines of the working tree look: what a new line takes of them.
use Rattle.std.specs.Prelude.{◌≡◌, ℕ, List, Option, Some, slice_get}
use Rattle.toml_tree.specs.Tree as tree
use Rattle.toml_units.specs.declared.unit.Unit.{Unit as ReadUnit}
use Rattle.toml_layout.specs.declared.layout.Layout.{Layout}
use Rattle.toml_layout.specs.Looks.{LooksAs, around, begun_as}
use Rattle.toml_working.specs.declared.lines.Body.{Body}
use Rattle.toml_working.specs.declared.lines.Body.TheVariants as bodies
use Rattle.toml_working.specs.declared.lines.Kept.{Kept}
use Rattle.toml_working.specs.declared.lines.Slot.{Slot}
use Rattle.toml_layout.specs.declared.looks.Equals.{Equals}
use Rattle.toml_layout.specs.declared.looks.Look.{Look}
use Rattle.toml_layout.specs.declared.tree.Leaf.{Leaf}
use Rattle.toml_working.specs.declared.working.Position.{Position}
use Rattle.toml_working.specs.FirstKeys.{spacing_after}
use Rattle.toml_working.specs.InsertStanding.{spaced_by}
use Rattle.toml_working.specs.OpeningLines.{HasOutline}
use Rattle.toml_layout.specs.OpenOutlines.{leaf_text, line}
use Rattle.toml_working.specs.Placing.{lines_before}
use Rattle.toml_working.specs.Seeing.{line_at, read_by}
use Rattle.toml_layout.specs.Spacings.{laid_out}
use Rattle.toml_working.specs.Standing.{Standing, Read, body_outline, outline_of, slot_standing}

-- so a line of the document looks, if there is one, what stands on a line, the line of a slot with the index, and one at a place
abbrev pub KeptLooks : List tree.Line → Kept → Look → Type 0
KeptLooks lines kept look = LooksAs look (outline_of (slice_get lines kept.line))

abbrev pub BodyLooks : List tree.Line → Body → Look → Type 0
BodyLooks lines body look = (units : List ReadUnit) → LooksAs look (body_outline (read_by units lines) body)

abbrev pub SlotLooks : List tree.Line → Slot → ℕ → Look → Type 0
SlotLooks lines slot index look = (units : List ReadUnit) (s : Standing) → slice_get (slot_standing (read_by units lines) slot) index ≡ Some s
    → LooksAs look s.outline

abbrev pub LooksAt : Read → List Slot → Position → Look → Type 0
LooksAt read slots at look = (s : Standing) → line_at read slots at ≡ Some s → LooksAs look s.outline

-- by `Follow` a line behind the one at the place begins with this whitespace, and has this around its `=`
abbrev pub BeginsBehind : Read → List Slot → Position → Leaf → Option Equals → Type 0
BeginsBehind read slots at ws equals = (s : Standing) → line_at read slots at ≡ Some s
    → spaced_by (leaf_text ws) (around equals) ≡ spacing_after (lines_before read slots at.slot at.index) s.base s.address s.outline

-- the same by the layout
abbrev pub LaysOut : Layout → Read → List Slot → Position → Leaf → Option Equals → Type 0
LaysOut layout read slots at ws equals = (s : Standing) → line_at read slots at ≡ Some s
    → spaced_by (leaf_text ws) (around equals) ≡ laid_out layout (spacing_after (lines_before read slots at.slot at.index) s.base s.address s.outline)

-- what stands on a line begins so, if it is opened
abbrev pub BodyBegins : List ℕ → Option (List ℕ × List ℕ) → Body → Body → Type 0
BodyBegins ws equals (bodies.Open opened) new = HasOutline (begun_as ws equals (line opened.value)) new
BodyBegins ws equals (bodies.Kept kept) new = new ≡ bodies.Kept kept
