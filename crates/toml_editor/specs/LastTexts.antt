-- What is written where, behind plain edits, the last one changes an array or an inline table in the value of a line, or removes a table.
use Rattle.std.specs.Prelude.{◌≡◌, ◌⊎◌, true, false, ℕ, List, [], ◌∷◌, ◌++◌, map}
use Rattle.std.specs.List.{list_any}
use Rattle.std.specs.declared.alloc.Global.{Global}
use Rattle.std.specs.declared.string.String.{String}
use Rattle.toml_tree.specs.Profiles.{IsValueIn, SpellsIn}
use Rattle.toml_tree.specs.Tree.{Doc, Line, Value}
use Rattle.toml_tree.specs.declared.profile.Profile.{Profile}
use Rattle.toml_names.specs.declared.model.address.Step.{Step}
use Rattle.toml_names.specs.declared.model.address.Step.TheVariants.{Index, Name}
use Rattle.toml_names.specs.model.Addresses.{Address, child}
use Rattle.toml_edits.specs.Edits.{Change, insert, remove}
use Rattle.toml_checker.specs.Documents.{OfTree}
use Rattle.toml_layout.specs.declared.layout.Layout.{Layout}
use Rattle.toml_layout.specs.declared.tree.Value.{Value as OpenValue}
use Rattle.toml_layout.specs.Holding.{ChangesHolder, PutsHeld, TakesHeld}
use Rattle.toml_layout.specs.OpenOutlines.{value}
use Rattle.toml_layout.specs.Outlines.{lines_outlined}
use Rattle.toml_layout.specs.TreeOutlines.{value_outline}
use Rattle.toml_working.specs.HeldLines.{SetsEach, has_container_at}
use Rattle.toml_working.specs.Standing.{AreOrdered, Standing, holds, standing}
use Rattle.toml_working.specs.Manners.{manner_of}
use Rattle.toml_working.specs.Premises.{IsInNoValue}
use Rattle.toml_working.specs.RemovingTables.{remove_below}
use Rattle.toml_editor.specs.CertifiedLists.{ArePlain}
use Rattle.toml_working.specs.Spellings.{AreSteps}
use Rattle.toml_editor.specs.Steps.{AreWritten}

-- on lines the value of this text was put in at the address, by the rules of the layout, and nothing else has changed
pub record PutsValue (layout : Layout) (profile : Profile) (p : Address) (text : List ℕ) (old now : List Standing) : Type 0 where
  pub steps : List (String Global)
  pub spelled : AreSteps p steps
  pub tree : Value
  pub is_value : IsValueIn profile tree text
  pub new : OpenValue
  pub outlined : value new ≡ value_outline tree
  pub put : ChangesHolder SetsEach (PutsHeld layout steps new) p old now

-- the array or the inline table that holds what stands at the address loses it, by the rules of the layout, and nothing else has changed
abbrev pub TakesValue : Layout → Address → List Standing → List Standing → Type 0
TakesValue layout p old now = (list_any (has_container_at p) old ≡ true) × ChangesHolder SetsEach (TakesHeld layout) p old now

-- a table, an array of tables or an element of one, which is no line's value and in none, goes with all lines there and below, and nothing else
-- has changed but that the table right above may come to be empty
abbrev pub TakesTable : Address → List Standing → List Standing → Type 0
TakesTable p old now = (list_any (holds p) old ≡ false) × (now ≡ remove_below p old)

-- what the edit makes of lines
abbrev pub ChangesLines : Layout → Profile → Change → List Standing → List Standing → Type 0
ChangesLines layout profile (insert p text) old now = PutsValue layout profile p text old now
ChangesLines layout profile (remove p) old now = TakesValue layout p old now ⊎ TakesTable p old now
ChangesLines layout profile _ old now = ⊥

-- Law: what such an edit makes of lines that are as the table rules have them is one thing.
abbrev pub OneChange : Type 0
OneChange = (layout : Layout) (profile : Profile) (c : Change) (old now new : List Standing) → AreOrdered old
    → ChangesLines layout profile c old now → ChangesLines layout profile c old new → now ≡ new

-- an array or an inline table in the value of a line holds what stands at the address, or would hold it
abbrev pub HasContainerAt : List Line → Address → Type 0
HasContainerAt lines p = list_any (has_container_at p) (standing lines) ≡ true

-- An array or an inline table holds what is to be put in below the address; of an element that its array is the value of a line, or stands in
-- one, is enough, since an `insert` of one that is not made is refused.
abbrev pub IsPutThere : List Line → Address → Step → Type 0
IsPutThere lines q (Name name) = HasContainerAt lines (child q name)
IsPutThere lines q (Index i) = list_any (holds q) (standing lines) ≡ true

-- the edit puts an element or a pair into an array or an inline table in the value of a line, or takes one out, or removes what is no line's
-- value and in none
abbrev pub IsOneChange : List Line → Change → Type 0
IsOneChange lines (insert p text) = (q : Address) × (last : Step) × (p ≡ q ++ last ∷ []) × (¬ (q ≡ [])) × IsPutThere lines q last
IsOneChange lines (remove p) = HasContainerAt lines p ⊎ IsInNoValue lines p
IsOneChange lines _ = ⊥

-- the text of what stands on lines
abbrev pub standing_text : List Standing → List ℕ
standing_text ss = lines_outlined (map (λ (s : Standing). s.outline) ss)

-- Where the edits before the last one are plain, and the last one changes an array or an inline table in a value of the text that they write, or
-- removes a table, an array of tables or an element of one, the text is the mark and what that makes of the lines.
abbrev pub WritesLast : Layout → Profile → List ℕ → List Change → List ℕ → Type 0
WritesLast layout profile before cs after = OfTree before (λ d. (front : List Change) (c : Change) → cs ≡ front ++ c ∷ []
    → ArePlain profile front (manner_of layout d.lines) before
    → (between : List ℕ) → AreWritten profile front (manner_of layout d.lines) before between
    → (e : Doc) → SpellsIn profile e between → IsOneChange e.lines c
    → (now : List Standing) × ChangesLines layout profile c (standing e.lines) now × (after ≡ e.mark.text ++ standing_text now))
