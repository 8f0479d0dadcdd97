-- What an edit changes inside the value of a line, by outlines, and by what then stands on the lines.
use Rattle.std.specs.Prelude.{◌≡◌, true, false, Bool, List, ◌∷◌, ◌++◌, ℕ, Some}
use Rattle.std.specs.Global.{Box}
use Rattle.toml_names.specs.model.Addresses.{Address}
use Rattle.toml_text.specs.Source.{text_of}
use Rattle.toml_tree.specs.Spells.{EachIs}
use Rattle.toml_tree.specs.Tree as tree
use Rattle.toml_layout.specs.declared.changing.Inside.{Inside}
use Rattle.toml_layout.specs.declared.layout.Layout.{Layout}
use Rattle.toml_layout.specs.ChangingIn.{Changes}
use Rattle.toml_layout.specs.Holding.{HolderChange, HoldsBy}
use Rattle.toml_working.specs.declared.lines.Body.{Body}
use Rattle.toml_working.specs.declared.lines.Body.TheVariants as bodies
use Rattle.toml_working.specs.declared.lines.Line.{Line}
use Rattle.toml_working.specs.declared.lines.Slot.{Slot}
use Rattle.toml_layout.specs.declared.texts.Texts.{Texts}
use Rattle.toml_layout.specs.declared.tree.OpenLine.{OpenLine}
use Rattle.toml_working.specs.declared.working.Position.{Position}
use Rattle.toml_working.specs.declared.working.Tree.{Tree}
use Rattle.toml_layout.specs.OpenOutlines.{line}
use Rattle.toml_layout.specs.Outlines.{ValueOutline, LineOutline}
use Rattle.toml_working.specs.HeldLines.{expr_has_container, has_container_at}
use Rattle.toml_working.specs.RenameStanding.{rename_inside, rename_line_outline}
use Rattle.toml_working.specs.Seeing.{found, line_at}
use Rattle.toml_working.specs.Standing.{Standing, Read, IsApart, expr_has, has, holds, set_line_outline, set_standing, slots_standing}
use Rattle.toml_working.specs.Stands.{SlotKept}
use Rattle.toml_working.specs.Turning.{LineTurns, OneTurns, SlotTurns}

-- in the value of a line
abbrev pub SetsOpen : Address → ValueOutline → LineOutline → LineOutline → Bool → Type 0
SetsOpen steps new old now done =
    IsApart old.expr → (at : Address) → (now ≡ set_line_outline (at ++ steps) new at old) × (done ≡ expr_has (at ++ steps) at old.expr)

abbrev pub RenamesOpen : Address → List ℕ → LineOutline → LineOutline → Type 0
RenamesOpen steps text old now = IsApart old.expr → (at : Address) → now ≡ rename_line_outline (at ++ steps) text at old

pub record HoldsOpen (steps : Address) (makes : HolderChange) (old now : LineOutline) (done : Bool) : Type 0 where
  pub made : HoldsBy SetsOpen steps makes old now done
  pub stays : done ≡ false → now ≡ old
  pub tells : IsApart old.expr → done ≡ expr_has_container old.expr steps

abbrev pub ChangesOpen : Layout → Address → Inside → LineOutline → LineOutline → Bool → Type 0
ChangesOpen layout steps = Changes layout (SetsOpen steps) (RenamesOpen steps) (HoldsOpen steps)

-- what is opened is changed, and no other
abbrev pub ChangesBody : Layout → Address → Inside → Body → Body → Bool → Type 0
ChangesBody layout steps change (bodies.Open old) now done =
    (opened : Box OpenLine) × (now ≡ bodies.Open opened) × ChangesOpen layout steps change (line old.value) (line opened.value) done
ChangesBody layout steps change (bodies.Kept kept) now done = now ≡ bodies.Kept kept

-- by what stands on the line, where its value is what stands at the address, or holds it
abbrev pub SetsStanding : Address → ValueOutline → Standing → Standing → Bool → Type 0
SetsStanding p new old now done = IsApart old.outline.expr → holds p old ≡ true → (now ≡ set_standing p new old) × (done ≡ has p old)

abbrev pub RenamesStanding : Address → List ℕ → Standing → Standing → Type 0
RenamesStanding p text old now = IsApart old.outline.expr → holds p old ≡ true → now ≡ rename_inside p text old

abbrev pub SetsThere : Address → ValueOutline → Standing → Standing → Bool → Type 0
SetsThere p new old now done = (holds p old ≡ true) × SetsStanding p new old now done

pub record HoldsStanding (p : Address) (makes : HolderChange) (old now : Standing) (done : Bool) : Type 0 where
  pub made : holds p old ≡ true → HoldsBy SetsThere p makes old now done
  pub stays : done ≡ false → now ≡ old
  pub tells : IsApart old.outline.expr → holds p old ≡ true → done ≡ has_container_at p old

abbrev pub ChangesAs : Layout → Address → Inside → Standing → Standing → Bool → Type 0
ChangesAs layout p = Changes layout (SetsStanding p) (RenamesStanding p) (HoldsStanding p)

-- it stays where it is
abbrev pub ChangesStanding : Layout → Address → Inside → Standing → Standing → Bool → Type 0
ChangesStanding layout p change old now done = (found now ≡ found old) × ChangesAs layout p change old now done

-- a line that is kept as its document has it stays so, or is opened
abbrev pub ChangesLine : Texts → List tree.Line → Address → Inside → Line → Line → Bool → Type 0
ChangesLine texts lines p change old now done = LineTurns texts lines (λ s t. ChangesStanding texts.layout p change s t done) old now

-- the line with the index is changed, and no other; or there is none
abbrev pub ChangesOne : Texts → List tree.Line → ℕ → Address → Inside → List Line → List Line → Bool → Type 0
ChangesOne texts lines index p change old now done = OneTurns (λ l m. ChangesLine texts lines p change l m done) index old now

-- the line with the index is changed, and no other
abbrev pub ChangesSlot : Texts → Read → ℕ → Address → Inside → Slot → Slot → Bool → Type 0
ChangesSlot texts read index p change old now done = SlotTurns texts read (λ s t. ChangesStanding texts.layout p change s t done) index old now

-- the line at the place is changed, and no other
abbrev pub ChangesSlots : Texts → Read → Position → Address → Inside → List Slot → List Slot → Bool → Type 0
ChangesSlots texts read at p change old now done =
    EachIs (SlotKept (text_of texts.source) read) old
    → EachIs (SlotKept (text_of texts.source) read) now
    × ((s : Standing) → line_at read old at ≡ Some s
    → (front : List Standing) × (back : List Standing) × (t : Standing)
    × (slots_standing read old ≡ front ++ s ∷ back) × (slots_standing read now ≡ front ++ t ∷ back) × ChangesStanding texts.layout p change s t done)

-- so it is of the lines of a tree
abbrev pub TreeChanges : Read → Position → Address → Inside → Tree → Tree → Bool → Type 0
TreeChanges read at p change old now = ChangesSlots old.texts read at p change old.slots.items now.slots.items
