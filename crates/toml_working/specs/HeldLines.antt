-- Something is put into the value of a line, or taken out of one, by what then stands on the lines.
use Rattle.std.specs.Prelude.{◌≡◌, ◌&&◌, ◌∷◌, ◌++◌, ℕ, Bool, true, false, List, [], drop, is_some, map, length, string_bytes}
use Rattle.std.specs.Bool.{nat_lt}
use Rattle.std.specs.List.{list_any}
use Rattle.std.specs.declared.alloc.Global.{Global}
use Rattle.std.specs.declared.string.String.{String}
use Rattle.toml_names.specs.declared.model.address.Step.{Step}
use Rattle.toml_names.specs.model.Addresses.{Address}
use Rattle.toml_text.specs.Source.{text_of}
use Rattle.toml_layout.specs.declared.layout.Layout.{Layout}
use Rattle.toml_layout.specs.declared.tree.Value.{Value}
use Rattle.toml_layout.specs.Holders.{has_holder}
use Rattle.toml_layout.specs.Holding.{HolderChange, ChangesHolder, PutsHeld, TakesHeld}
use Rattle.toml_layout.specs.OpenOutlines.{value}
use Rattle.toml_layout.specs.Outlines.{ExprOutline, Header, Nothing, Pair, ValueOutline}
use Rattle.toml_working.specs.declared.lines.Slot.{Slot}
use Rattle.toml_working.specs.declared.working.Tree.{Tree}
use Rattle.toml_working.specs.Headers.{element_of}
use Rattle.toml_working.specs.RemoveStanding.{is_pair}
use Rattle.toml_working.specs.Seeing.{steps_to}
use Rattle.toml_working.specs.Standing.{Standing, Read, AreOrdered, has, holds, set_standing}
use Rattle.toml_working.specs.Stands.{Stands}

-- a `set` on lines, and whether a value stood there
abbrev pub SetsEach : Address → ValueOutline → List Standing → List Standing → Bool → Type 0
SetsEach p new old now done = (now ≡ map (set_standing p new) old) × (done ≡ list_any (has p) old)

-- whether an array or an inline table in the value of a line holds what the steps below the line name, or would hold it
abbrev pub expr_has_container : ExprOutline → Address → Bool
expr_has_container Nothing steps = false
expr_has_container (Pair assign held) steps = has_holder held steps
expr_has_container (Header opening before first rest after closing) steps = false

-- the same of what stands at an address
abbrev pub has_container_at : Address → Standing → Bool
has_container_at p s = holds p s && expr_has_container s.outline.expr (drop (steps_to s.address) p)

-- The tree stands for lines. Where an array or an inline table in the value of one holds what stands at the address, or would hold it, the
-- tree now stands for others, in which that one has changed so; else for the same.
pub record HoldsLines (p : Address) (makes : HolderChange) (text : List ℕ) (read : Read) (old now : List Slot) (ss : List Standing) (done : Bool) : Type 0 where
  pub made : done ≡ true → (ts : List Standing) × Stands text read now ts × ChangesHolder SetsEach makes p ss ts
  pub stays : done ≡ false → Stands text read now ss
  pub tells : done ≡ list_any (has_container_at p) ss

-- whether the value of the line holds what stands at the address, and does not stand there itself
abbrev pub holds_inside : Address → Standing → Bool
holds_inside p s = holds p s && nat_lt (steps_to s.address) (length p)

-- an `insert` at an address whose parent is the value of a line, or in one; these are the spellings of its steps
abbrev pub PutsInValue : Address → Address → List (String Global) → Value → Read → Tree → Tree → Bool → Type 0
PutsInValue parent at spelled new read old now done =
    (last : Step) → at ≡ parent ++ last ∷ [] → ¬ (parent ≡ [])
    → (ss : List Standing) → Stands (text_of old.texts.source) read old.slots.items ss → AreOrdered ss → list_any (holds parent) ss ≡ true
    → HoldsLines at (PutsHeld old.texts.layout spelled new) (text_of old.texts.source) read old.slots.items now.slots.items ss done

-- what is to stand at the address is not made where that is an element
abbrev pub RefusesElement : Address → Bool → Type 0
RefusesElement at done = is_some (element_of at) ≡ true → done ≡ false

-- so it is of an `insert` whose parent is no line's value, and in none
abbrev pub PutsNoElement : Address → Address → Read → Tree → Bool → Type 0
PutsNoElement parent at read old done =
    (ss : List Standing) → Stands (text_of old.texts.source) read old.slots.items ss → AreOrdered ss → list_any (holds parent) ss ≡ false
    → RefusesElement at done

-- a `remove` at an address in the value of a line
abbrev pub TakesFromValue : Address → Read → Tree → Tree → Bool → Type 0
TakesFromValue at read old now done =
    ¬ (at ≡ []) → (ss : List Standing) → Stands (text_of old.texts.source) read old.slots.items ss → AreOrdered ss
    → list_any (holds_inside at) ss ≡ true
    → HoldsLines at (TakesHeld old.texts.layout) (text_of old.texts.source) read old.slots.items now.slots.items ss done

-- Laws: what an `insert` and a `remove` make of lines that are as the table rules have them is one in a layout.
abbrev pub TakenLinesAreOne : Type 0
TakenLinesAreOne = (layout : Layout) (p : Address) (ss now new : List Standing) → AreOrdered ss → ChangesHolder SetsEach (TakesHeld layout) p ss now
    → ChangesHolder SetsEach (TakesHeld layout) p ss new → now ≡ new

-- values of one outline are put in, the steps being spelled in one way
abbrev pub PutLinesAreOne : Type 0
PutLinesAreOne = (layout : Layout) (spelled twin : List (String Global)) (p : Address) (put same : Value) (ss now new : List Standing) → AreOrdered ss
    → map string_bytes spelled ≡ map string_bytes twin → value put ≡ value same → ChangesHolder SetsEach (PutsHeld layout spelled put) p ss now
    → ChangesHolder SetsEach (PutsHeld layout twin same) p ss new → now ≡ new

-- Laws: where an array or an inline table in the value of a line holds what stands at an address, the value of a line is the parent or holds
-- it, and what stands at the address lies in the value of a line.
abbrev pub ParentIsHeld : Type 0
ParentIsHeld = (q : Address) (last : Step) (ss : List Standing) → list_any (has_container_at (q ++ last ∷ [])) ss ≡ true → list_any (holds q) ss ≡ true

abbrev pub HeldIsInside : Type 0
HeldIsInside = (p : Address) (ss : List Standing) → list_any (has_container_at p) ss ≡ true → (¬ (p ≡ [])) × (list_any (holds_inside p) ss ≡ true)

-- Law: what is so held is no line's own value, of lines as the table rules have them.
abbrev pub HeldIsNoLine : Type 0
HeldIsNoLine = (p : Address) (ss : List Standing) → AreOrdered ss → list_any (has_container_at p) ss ≡ true → list_any (is_pair p) ss ≡ true → ⊥
