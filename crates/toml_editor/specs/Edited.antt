-- What the editor answers.
use Rattle.std.specs.Prelude.{◌≡◌, ◌⊎◌, ◌↔◌, ◌<◌, ◌∷◌, ◌++◌, ℕ, List, length, take, Some, None, IsSome, slice_get}
use Rattle.toml_text.specs.Limit.{IsText, max_len}
use Rattle.toml_text.specs.Source.{IsFaultOf}
use Rattle.toml_tree.specs.Profiles.{IsOfProfile}
use Rattle.toml_tree.specs.Document.{Refuses}
use Rattle.toml_tree.specs.declared.profile.Profile.{Profile}
use Rattle.toml_names.specs.declared.model.address.Step.{Step}
use Rattle.toml_names.specs.model.Addresses.{Address, element}
use Rattle.toml_names.specs.model.Data.{Kinds}
use Rattle.toml_names.specs.model.Documents.{IsDocumentIn}
use Rattle.toml_names.specs.mentions.Mentions.{a_table, an_array}
use Rattle.toml_names.specs.reader.Names.{RefusesNames}
use Rattle.toml_edits.specs.Edits.{Change, set, insert, remove, new_section, new_element}
use Rattle.toml_edits.specs.Faults.{IsFault}
use Rattle.toml_edits.specs.Lists.{Lead}
use Rattle.toml_units.specs.declared.piece.Piece.{Piece}
use Rattle.toml_units.specs.Units.{units}
use Rattle.toml_checker.specs.Demands.{Certified}
use Rattle.toml_checker.specs.Documents.{AreDefined, OfTree, OfData}
use Rattle.toml_checker.specs.Findings.{IsFirstUnmet}
use Rattle.toml_checker.specs.Outer.{IsOuter}
use Rattle.toml_checker.specs.Pairs.{IsFirst}
use Rattle.toml_editor.specs.LastTexts.{WritesLast}
use Rattle.toml_editor.specs.PlainTexts.{IsNoPlainList, IsNeitherPlainNorHeld, NoneIsRefused, WritesPlain}
use Rattle.toml_working.specs.Tidy.{ArePieces}
use Rattle.toml_layout.specs.declared.layout.Layout.{Layout}
use Rattle.toml_layout.specs.declared.layout.Layout.TheVariants as layouts
use Rattle.toml_editor.specs.declared.fault.EditorFault.{EditorFault}
use Rattle.toml_editor.specs.declared.fault.EditorFault.TheVariants.{Text, Syntax, Names, Edit, Spread, LastElement, TooLong, Unverified, NoMemory}

-- the pairs name first the outer protected units of the text, and no others
abbrev pub NamesOuter : List ℕ → List Change → List (ℕ × ℕ) → Type 0
NamesOuter before cs ps = OfTree before (λ d. (i : ℕ) → IsFirst ps i ↔ IsOuter cs (units d.lines) i)

-- The text is certified to be what the edits make of the first one, by pairs that name the outer protected units. Of plain edits it is
-- the one that they write in the layout, and none of the edits, where those before it are plain, is refused (`IsRefusedIn`). Of a last edit
-- behind plain ones, which changes an array or an inline table in the value of a line, or removes a table, it is told what is written.
pub record IsEditedWith (layout : Layout) (profile : Profile) (before : List ℕ) (cs : List Change) (after : List ℕ) (ps : List (ℕ × ℕ)) : Type 0
  where
    pub certified : Certified profile before cs after ps
    pub outer : NamesOuter before cs ps
    pub plain : WritesPlain layout profile before cs after
    pub passed : NoneIsRefused layout profile before cs (length cs)
    pub last : WritesLast layout profile before cs after

-- in layout `Plain`
abbrev pub IsEdited : Profile → List ℕ → List Change → List ℕ → List (ℕ × ℕ) → Type 0
IsEdited = IsEditedWith layouts.Plain

-- the same as pieces, which are tidy
pub record IsEditedInPieces (profile : Profile) (before : List ℕ) (cs : List Change) (list : List Piece) (ps : List (ℕ × ℕ)) : Type 0 where
  pub after : List ℕ
  pub edited : IsEdited profile before cs after ps
  pub pieces : ArePieces before after list

-- so it is of the edit with this number and of the data to which the edits before it lead
abbrev pub SoFar : Profile → List Change → Kinds → ℕ → (Change → Kinds → Type 0) → Type 0
SoFar profile cs old index P = (mid : Kinds) × Lead profile (take index cs) old mid × (c : Change) × (slice_get cs index ≡ Some c) × P c mid

-- the same of the data of a text
abbrev pub OnDataSoFar : Profile → List ℕ → List Change → ℕ → (Change → Kinds → Type 0) → Type 0
OnDataSoFar profile before cs index P = OfData before (λ old. SoFar profile cs old index P)

-- A text may have no one place for the edit: it sets a table or an array, or puts in an element of an array, or a header line.
abbrev pub MayBeSpread : Change → Kinds → Type 0
MayBeSpread (set p value) kinds = (kinds p ≡ Some a_table) ⊎ (kinds p ≡ Some an_array)
MayBeSpread (insert p value) kinds = (q : Address) × (i : ℕ) × (p ≡ element q i)
MayBeSpread (new_section p) kinds = Unit {0}
MayBeSpread (new_element p) kinds = Unit {0}
MayBeSpread _ kinds = ⊥

-- the removal of the only element of an array
abbrev pub TakesLastElement : Change → Kinds → Type 0
TakesLastElement (remove at) kinds = (q : Address) × (at ≡ element q 0) × IsSome (kinds at) × (kinds (element q 1) ≡ None)
TakesLastElement _ kinds = ⊥

-- no table stands in what the edit removes
abbrev pub RemovesFlat : Change → Kinds → Type 0
RemovesFlat (remove p) kinds = (s : Step) (a : Address) → ¬ (kinds (p ++ s ∷ a) ≡ Some a_table)
RemovesFlat _ kinds = ⊥

-- by the data an edit that is not made may be refused for it: its place is spread, or it takes a last element
abbrev pub MayBeRefused : Change → Kinds → Type 0
MayBeRefused c kinds = MayBeSpread c kinds ⊎ TakesLastElement c kinds

-- the edit is defined on the data, and P holds of it
abbrev pub OfDefined : Profile → (Change → Kinds → Type 0) → Change → Kinds → Type 0
OfDefined profile P c kinds = IsFault profile c kinds None × P c kinds

-- what is told of a text that the edits make: of plain ones, and of a last one behind plain ones
pub record IsTextOf (layout : Layout) (profile : Profile) (before : List ℕ) (cs : List Change) (after : List ℕ) : Type 0 where
  pub plain : WritesPlain layout profile before cs after
  pub last : WritesLast layout profile before cs after

-- why the text is no document; want of memory tells nothing of it
abbrev pub RefusesText : Profile → List ℕ → EditorFault → Type 0
RefusesText profile before (Text fault) = (¬ IsDocumentIn profile before) × IsFaultOf before fault
RefusesText profile before (Syntax fault) = (¬ IsDocumentIn profile before) × IsText before × Refuses profile before fault
RefusesText profile before (Names fault) =
    (¬ IsDocumentIn profile before) × IsText before × OfTree before (λ d. IsOfProfile profile d × RefusesNames d.lines fault)
RefusesText profile before NoMemory = Unit {0}
RefusesText profile before _ = ⊥

-- the text is a document, and each edit is defined on the data so far
abbrev pub AreDefinedOn : Profile → List ℕ → List Change → Type 0
AreDefinedOn profile before cs = IsDocumentIn profile before × OfData before (AreDefined profile cs)

-- What a fault of the editor tells in a layout. Of an edit: that the text is a document, and the fault is the edit's on the data so far. That its
-- place is spread, or that it takes a last element: that it is defined on these data, and if those before it are plain, it is not plain, and
-- no array and no inline table in the value of a line holds what it puts in or takes out. That the result is too long: all edits are
-- defined, and the text is longer. That the judge refuses it: all edits are defined, the list is not one of plain edits, and the reason is the
-- first demand that no certificate meets of the text. Where all edits before the last one are plain, there is one such text (`IsTextOf`); of
-- others `certify` alone says which it is, and `AfterRefused` can always be told, by the text `=`. And each time that no edit before, or of the list,
-- is refused (`IsRefusedIn`), if those before it are plain. Of want of memory: nothing.
abbrev pub TellsWith : Layout → Profile → List ℕ → List Change → EditorFault → Type 0
TellsWith layout profile before cs (Edit index fault) =
    IsDocumentIn profile before × OnDataSoFar profile before cs index (λ c kinds. IsFault profile c kinds (Some fault))
    × NoneIsRefused layout profile before cs index
TellsWith layout profile before cs (Spread index) =
    IsDocumentIn profile before × OnDataSoFar profile before cs index (OfDefined profile MayBeSpread)
    × IsNeitherPlainNorHeld layout profile before cs index × NoneIsRefused layout profile before cs index
TellsWith layout profile before cs (LastElement index) =
    IsDocumentIn profile before × OnDataSoFar profile before cs index (OfDefined profile TakesLastElement)
    × IsNeitherPlainNorHeld layout profile before cs index × NoneIsRefused layout profile before cs index
TellsWith layout profile before cs TooLong =
    AreDefinedOn profile before cs × ((after : List ℕ) × IsTextOf layout profile before cs after × (max_len < length after))
    × NoneIsRefused layout profile before cs (length cs)
TellsWith layout profile before cs (Unverified reason) =
    AreDefinedOn profile before cs × IsNoPlainList layout profile before cs × NoneIsRefused layout profile before cs (length cs)
    × ((after : List ℕ) × IsText after × IsTextOf layout profile before cs after × IsFirstUnmet profile before cs after reason)
TellsWith layout profile before cs fault = RefusesText profile before fault

-- in layout `Plain`
abbrev pub Tells : Profile → List ℕ → List Change → EditorFault → Type 0
Tells = TellsWith layouts.Plain
