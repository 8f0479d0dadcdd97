-- The text that is handed out of plain edits in a layout: the one that they write, byte for byte.
use Rattle.std.specs.Prelude.{◌≡◌, ◌⊎◌, ◌<◌, ℕ, List, [], ◌∷◌, ◌++◌, take, Some, None, Any, slice_get}
use Rattle.toml_tree.specs.Profiles.{SpellsIn}
use Rattle.toml_tree.specs.Tree.{Doc, Line}
use Rattle.toml_tree.specs.declared.profile.Profile.{Profile}
use Rattle.toml_names.specs.mentions.Mentions.{named}
use Rattle.toml_names.specs.declared.model.address.Step.{Step}
use Rattle.toml_names.specs.model.Addresses.{Address, element}
use Rattle.toml_names.specs.model.Data.{IsDataOf, Kinds}
use Rattle.toml_checker.specs.Documents.{OfTree}
use Rattle.toml_edits.specs.After.{IsAfter}
use Rattle.toml_edits.specs.Edits.{Change, insert, new_element, new_section, remove, set}
use Rattle.toml_edits.specs.Faults.{IsFault}
use Rattle.toml_edits.specs.Lists.{Lead}
use Rattle.toml_editor.specs.CertifiedLists.{ArePlain}
use Rattle.toml_editor.specs.LastTexts.{HasContainerAt}
use Rattle.toml_editor.specs.Steps.{AreWritten, IsPlain}
use Rattle.toml_layout.specs.declared.layout.Layout.{Layout}
use Rattle.toml_working.specs.Manners.{manner_of}
use Rattle.toml_working.specs.Premises.{HasValue, IsInNoValue}

-- where each edit is plain on the text written so far, the text is the one that they write of the first
abbrev pub WritesPlain : Layout → Profile → List ℕ → List Change → List ℕ → Type 0
WritesPlain layout profile before cs after =
    OfTree before (λ d. ArePlain profile cs (manner_of layout d.lines) before → AreWritten profile cs (manner_of layout d.lines) before after)

-- an edit has a fault on the data of the text so far, or one is not plain
abbrev pub IsNoPlainList : Layout → Profile → List ℕ → List Change → Type 0
IsNoPlainList layout profile before cs =
    OfTree before (λ d. (old now : Kinds) → IsDataOf (named d.lines) old → Lead profile cs old now
    → ¬ ArePlain profile cs (manner_of layout d.lines) before)

-- the edit is plain on the lines of the text
abbrev pub IsPlainOn : Profile → List ℕ → Change → Type 0
IsPlainOn profile text c = (d : Doc) → SpellsIn profile d text → IsPlain d.lines c

-- The text has no one place for the edit, or the edit takes a last element. A `set`: no single value stands at its address, as where headers,
-- dotted keys or lines of a table make what is there. An `insert` at an index: no line's value stands at the array or above it. A `section`
-- and an `element`: a line's value stands above the address. A `remove` of the only element of an array of tables: no line's value stands at
-- the array or above it, and the lines name no second element.
abbrev pub IsRefusedIn : Profile → List ℕ → Change → Type 0
IsRefusedIn profile text (set p value) = (d : Doc) → SpellsIn profile d text → ¬ HasValue d.lines p
IsRefusedIn profile text (insert p value) = (q : Address) × (i : ℕ) × (p ≡ element q i) × ((d : Doc) → SpellsIn profile d text → IsInNoValue d.lines q)
IsRefusedIn profile text (new_section p) = (q : Address) × (s : Step) × (p ≡ q ++ s ∷ []) × ((d : Doc) → SpellsIn profile d text → ¬ IsInNoValue d.lines q)
IsRefusedIn profile text (new_element p) = (q : Address) × (s : Step) × (p ≡ q ++ s ∷ []) × ((d : Doc) → SpellsIn profile d text → ¬ IsInNoValue d.lines q)
IsRefusedIn profile text (remove p) = (q : Address) × (p ≡ element q 0) × ((d : Doc) → SpellsIn profile d text
    → IsInNoValue d.lines q × (¬ Any (λ m. m.address ≡ element q 1) (named d.lines)))
IsRefusedIn profile text _ = ⊥

-- `P` holds of the edit with this number and of the text before it, if the edit is defined and those before it are defined and plain.
abbrev pub AfterPlain : Layout → Profile → List ℕ → List Change → Doc → ℕ → (Change → List ℕ → Type 0) → Type 0
AfterPlain layout profile before cs d k P = (c : Change) → slice_get cs k ≡ Some c → (old mid now : Kinds) → IsDataOf (named d.lines) old
    → Lead profile (take k cs) old mid → IsFault profile c mid None → IsAfter profile c mid now
    → ArePlain profile (take k cs) (manner_of layout d.lines) before
    → (between : List ℕ) → AreWritten profile (take k cs) (manner_of layout d.lines) before between → P c between

-- of the first so many edits none, where those before it are plain, is so refused
abbrev pub NoneIsRefused : Layout → Profile → List ℕ → List Change → ℕ → Type 0
NoneIsRefused layout profile before cs n =
    OfTree before (λ d. (k : ℕ) → k < n → AfterPlain layout profile before cs d k (λ c text. ¬ IsRefusedIn profile text c))

-- an array or an inline table in the value of a line holds what the edit puts in or takes out; what is put in at the root is in none
abbrev pub HasContainerFor : List Line → Change → Type 0
HasContainerFor lines (insert p value) = (q : Address) × (last : Step) × (p ≡ q ++ last ∷ []) × (¬ (q ≡ [])) × HasContainerAt lines p
HasContainerFor lines (remove p) = HasContainerAt lines p
HasContainerFor lines _ = ⊥

-- on the lines of the text the edit is plain, or an array or an inline table holds what it puts in or takes out
abbrev pub IsPlainOrHeld : Profile → List ℕ → Change → Type 0
IsPlainOrHeld profile text c = (d : Doc) → SpellsIn profile d text → IsPlain d.lines c ⊎ HasContainerFor d.lines c

-- the edit with this number, where those before it are plain, is neither of these on the text that they write
abbrev pub IsNeitherPlainNorHeld : Layout → Profile → List ℕ → List Change → ℕ → Type 0
IsNeitherPlainNorHeld layout profile before cs j = OfTree before (λ d. AfterPlain layout profile before cs d j (λ c text. ¬ IsPlainOrHeld profile text c))
