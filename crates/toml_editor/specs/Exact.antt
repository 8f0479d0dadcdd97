-- What the making of plain edits gives: the working tree stands for the text that they write.
use Rattle.std.specs.Prelude.{◌≡◌, ◌<◌, ℕ, Bool, true, List, [], ◌∷◌, ◌++◌, length, take, Some, None, slice_get}
use Rattle.std.specs.List.{list_any}
use Rattle.std.specs.declared.alloc.Global.{Global}
use Rattle.std.specs.declared.string.String.{String}
use Rattle.toml_text.specs.Forms.{IsNewline}
use Rattle.toml_text.specs.Limit.{IsText}
use Rattle.toml_text.specs.Source.{text_of}
use Rattle.toml_scalar.specs.Spelling.{spelled}
use Rattle.toml_tree.specs.Profiles.{IsValueIn, SpellsIn}
use Rattle.toml_tree.specs.Tree.{Doc, Value}
use Rattle.toml_tree.specs.declared.profile.Profile.{Profile}
use Rattle.toml_names.specs.declared.model.address.Step.{Step}
use Rattle.toml_names.specs.model.Addresses.{Address}
use Rattle.toml_names.specs.model.Data.{Kinds}
use Rattle.toml_edits.specs.After.{IsAfter}
use Rattle.toml_edits.specs.Edits.{Change, insert, rename, set, remove, new_section, new_element}
use Rattle.toml_edits.specs.Faults.{IsFault}
use Rattle.toml_edits.specs.Lists.{Lead}
use Rattle.toml_editor.specs.Edited.{MayBeRefused, RemovesFlat}
use Rattle.toml_editor.specs.declared.fault.EditorFault.{EditorFault}
use Rattle.toml_editor.specs.declared.fault.EditorFault.TheVariants.{Edit, LastElement, Spread}
use Rattle.toml_working.specs.declared.working.Tree.{Tree}
use Rattle.toml_working.specs.Becoming.{TreeRenames}
use Rattle.toml_editor.specs.CertifiedLists.{ArePlain}
use Rattle.toml_editor.specs.LastTexts.{ChangesLines, IsOneChange}
use Rattle.toml_layout.specs.declared.tree.Value.{Value as OpenValue}
use Rattle.toml_layout.specs.Holding.{PutsHeld}
use Rattle.toml_layout.specs.declared.tree.Brackets.{Brackets}
use Rattle.toml_layout.specs.declared.tree.Brackets.TheVariants.{One, Two}
use Rattle.toml_layout.specs.OpenOutlines.{leaf_text, value as open_outline}
use Rattle.toml_working.specs.AddingHeaders.{TreeAddsHeader}
use Rattle.toml_working.specs.Headers.{innermost}
use Rattle.toml_working.specs.HeldLines.{HoldsLines, PutsNoElement, TakesFromValue}
use Rattle.toml_editor.specs.PlainTexts.{IsPlainOrHeld, IsPlainOn, IsRefusedIn}
use Rattle.toml_working.specs.Putting.{TreeInserts, manner}
use Rattle.toml_working.specs.InTables.{TreePutsIn}
use Rattle.toml_working.specs.RemovingIn.{RemovesLines, TakesElement}
use Rattle.toml_working.specs.RemovingTables.{RemovesTable}
use Rattle.toml_working.specs.Spellings.{AreSteps}
use Rattle.toml_working.specs.Standing.{AreOrdered, Read, Standing, holds, standing}
use Rattle.toml_working.specs.Stands.{KeepsRest, KeepsTexts, Stands, TreeSets}
use Rattle.toml_working.specs.Starting.{NoneIsGone}
use Rattle.toml_editor.specs.Steps.{IsGoodText, AreWritten, last_manner}
use Rattle.toml_layout.specs.TreeOutlines.{value_outline}
use Rattle.toml_editor.specs.EditedLines.{IsWritten, manner_after}

-- the working tree stands for a text with these data, and no element of an array of tables is gone
pub record IsAt (profile : Profile) (read : Read) (tree : Tree) (text : List ℕ) (kinds : Kinds) : Type 0 where
  pub good : IsGoodText profile text kinds
  pub stands : Stands (text_of tree.texts.source) read tree.slots.items (standing good.tree.lines)
  pub whole : NoneIsGone tree.elements
  pub newline : IsNewline (leaf_text tree.style)

-- the second tree has the first one's texts, and what is written by
pub record KeepsSource (old new : Tree) : Type 0 where
  pub texts : new.texts ≡ old.texts
  pub mannered : manner new ≡ manner old

-- the tree now stands for the text that the edit writes of the one for which it stood
pub record Follows (profile : Profile) (read : Read) (c : Change) (old new : Tree) (text : List ℕ) (now : Kinds) : Type 0 where
  pub after : List ℕ
  pub written : IsWritten profile c (manner old) text after
  pub at : IsAt profile read new after now
  pub texts : new.texts ≡ old.texts
  pub mannered : manner new ≡ manner_after c (manner old) written.0.lines

-- so it does where the edit is plain
abbrev pub MakesOne : Profile → Read → Change → Tree → Tree → Type 0
MakesOne profile read c old new = (text : List ℕ) (kinds now : Kinds) → IsAt profile read old text kinds
    → IsFault profile c kinds None → IsAfter profile c kinds now → IsPlainOn profile text c
    → Follows profile read c old new text now

-- the same of edits one after the other
pub record FollowAll (profile : Profile) (read : Read) (cs : List Change) (old new : Tree) (text : List ℕ) (now : Kinds) : Type 0 where
  pub after : List ℕ
  pub written : AreWritten profile cs (manner old) text after
  pub at : IsAt profile read new after now
  pub texts : new.texts ≡ old.texts
  pub mannered : manner new ≡ last_manner profile cs (manner old) text after written

abbrev pub MakesAll : Profile → Read → List Change → Tree → Tree → Type 0
MakesAll profile read cs old new = (text : List ℕ) (kinds now : Kinds) → IsAt profile read old text kinds
    → Lead profile cs kinds now → ArePlain profile cs (manner old) text → FollowAll profile read cs old new text now

-- a `set` of a value's text
abbrev pub WritesSet : Profile → Read → Address → List ℕ → Tree → Tree → Bool → Type 0
WritesSet profile read p text old new done = IsText text → (v : Value) → IsValueIn profile v text
    → TreeSets p (value_outline v) read old new done

-- an `insert` of a value's text, the steps of its address spelled so
abbrev pub WritesInsert : Profile → Read → Address → List ℕ → List (String Global) → Tree → Tree → Type 0
WritesInsert profile read p text steps old new = IsText text → (v : Value) → IsValueIn profile v text
    → TreeInserts p steps (value_outline v) read old new

-- of one into the value of a line, which is or holds the parent: if it is made
abbrev pub WritesInside : Profile → Read → Address → List ℕ → List (String Global) → Tree → Tree → Bool → Type 0
WritesInside profile read p text steps old new done = IsText text → (v : Value) → IsValueIn profile v text
    → (made : OpenValue) × (open_outline made ≡ value_outline v) × ((q : Address) (last : Step) → p ≡ q ++ last ∷ [] → ¬ (q ≡ [])
    → (ss : List Standing) → Stands (text_of old.texts.source) read old.slots.items ss → AreOrdered ss → list_any (holds q) ss ≡ true
    → HoldsLines p (PutsHeld old.texts.layout steps made) (text_of old.texts.source) read old.slots.items new.slots.items ss done)

-- of one of a name into a table that is not the root, is no value and lies in none
abbrev pub WritesBelow : Profile → Read → Address → List ℕ → List (String Global) → Tree → Tree → Type 0
WritesBelow profile read p text steps old new = IsText text → (v : Value) → IsValueIn profile v text → (q : Address) (last : Step) → p ≡ q ++ last ∷ []
    → TreePutsIn q p steps (value_outline v) read old new

-- of one of a name in a table that is no value and lies in none: at the root, and below it
pub record WritesLine (profile : Profile) (read : Read) (p : Address) (text : List ℕ) (steps : List (String Global)) (old new : Tree) : Type 0 where
  pub root : WritesInsert profile read p text steps old new
  pub below : WritesBelow profile read p text steps old new

-- of one of an element whose array is no line's value, and in none: it is not made
abbrev pub WritesNoElement : Profile → Read → Address → List ℕ → Tree → Bool → Type 0
WritesNoElement profile read p text old done = IsText text → (v : Value) → IsValueIn profile v text → (q : Address) (last : Step) → p ≡ q ++ last ∷ []
    → PutsNoElement q p read old done

-- the header line of what is to stand at the address, the steps of which are spelled so: whether it is put in
abbrev pub WritesHeader : Brackets → Read → Address → List (String Global) → Tree → Tree → Bool → Type 0
WritesHeader brackets read p steps old new done = (q : Address) (last : Step) → p ≡ q ++ last ∷ []
    → TreeAddsHeader q (innermost q) p brackets steps read old new done

-- a `rename` to a name
pub record WritesRename (read : Read) (p : Address) (to : List ℕ) (old new : Tree) : Type 0 where
  pub lines : TreeRenames p to (spelled to) read old new
  pub source : KeepsSource old new
  pub whole : NoneIsGone new.elements

-- What an edit makes of the working tree, where no element is gone: a `set` puts the value in, if one stands there, and tells whether;
-- an `insert` of a name in a table that is no value and lies in none puts its line in, a `remove` takes out the line of a value, or makes it
-- the empty table right above where that would go with it, a `rename` gives lines the new name, a `section` and an `element` put their header
-- line in. Where an array or an inline table in the value of a line holds it, an `insert` and a `remove` change that. A `remove` of an element of
-- an array of tables tells whether it is made, and an `insert` of one is not. A `remove` of what is no line's value and in none takes out its lines
-- and those below, where these stand together; `flat` is told it where no table stands in it.
abbrev pub WritesEdit : Profile → Read → Bool → Change → Tree → Tree → Bool → Type 0
WritesEdit profile read flat (set p text) old new done = NoneIsGone old.elements → KeepsRest old new × WritesSet profile read p text old new done
WritesEdit profile read flat (insert p text) old new done = NoneIsGone old.elements
    → (steps : List (String Global)) × KeepsRest old new × AreSteps p steps × WritesLine profile read p text steps old new
    × WritesInside profile read p text steps old new done × WritesNoElement profile read p text old done
WritesEdit profile read flat (remove p) old new done = NoneIsGone old.elements
    → RemovesLines p read old new × TakesFromValue p read old new done × TakesElement p read old done × RemovesTable p flat read old new done
WritesEdit profile read flat (rename p to) old new done = NoneIsGone old.elements → WritesRename read p to old new
WritesEdit profile read flat (new_section p) old new done = NoneIsGone old.elements
    → (steps : List (String Global)) × AreSteps p steps × KeepsTexts old new × WritesHeader One read p steps old new done
WritesEdit profile read flat (new_element p) old new done = NoneIsGone old.elements
    → (steps : List (String Global)) × AreSteps p steps × KeepsTexts old new × WritesHeader Two read p steps old new done

-- the tree stands for no text on which the edit, without a fault, is plain, or held by an array or an inline table in a value
abbrev pub IsNeitherOn : Profile → Read → Change → Tree → Type 0
IsNeitherOn profile read c tree = (text : List ℕ) (kinds now : Kinds) → IsAt profile read tree text kinds
    → IsFault profile c kinds None → IsAfter profile c kinds now → ¬ IsPlainOrHeld profile text c

-- Where by the data near the edit it may be refused, the tree stands for no text in which the edit, without a fault, is refused.
abbrev pub PassesOne : Profile → Read → Kinds → Change → Tree → Type 0
PassesOne profile read near c tree = (text : List ℕ) (kinds now : Kinds) → IsAt profile read tree text kinds
    → IsFault profile c kinds None → IsAfter profile c kinds now → MayBeRefused c near → ¬ IsRefusedIn profile text c

-- So it is of the edit with this number, if there is one without a fault and those before it are plain: of the text that these write of
-- one for which the tree stands, and of its data.
abbrev pub OfPlain : Profile → Read → List Change → Tree → ℕ → (Change → List ℕ → Kinds → Type 0) → Type 0
OfPlain profile read cs tree k P = (c : Change) → slice_get cs k ≡ Some c → (text : List ℕ) (kinds mid now : Kinds)
    → IsAt profile read tree text kinds → Lead profile (take k cs) kinds mid → IsFault profile c mid None → IsAfter profile c mid now
    → ArePlain profile (take k cs) (manner tree) text
    → (between : List ℕ) → AreWritten profile (take k cs) (manner tree) text between → P c between mid

-- the edit with this number, where those before it are plain, is not refused, if by the data near the edits it may be
abbrev pub PassesAt : Profile → Read → List Change → Kinds → Tree → ℕ → Type 0
PassesAt profile read cs near tree k = (part : Kinds) × Lead profile (take k cs) near part
    × OfPlain profile read cs tree k (λ c text kinds. MayBeRefused c part → ¬ IsRefusedIn profile text c)

-- and of each of the first so many
abbrev pub PassesAll : Profile → Read → List Change → Kinds → ℕ → Tree → Type 0
PassesAll profile read cs near n tree = (k : ℕ) → k < n → PassesAt profile read cs near tree k

-- what the data near the edit tell of it is so by other data
pub record ShowsEdit (c : Change) (near kinds : Kinds) : Type 0 where
  pub flat : RemovesFlat c near → RemovesFlat c kinds
  pub refused : MayBeRefused c kinds → MayBeRefused c near

-- of an edit that changes an array or an inline table in the value of a line, or removes a table: the tree then stands for what that makes of the lines
abbrev pub HoldsOne : Profile → Read → Kinds → Change → Tree → Tree → Type 0
HoldsOne profile read near c old new = (text : List ℕ) (kinds now : Kinds) → (at : IsAt profile read old text kinds) → IsFault profile c kinds None
    → IsAfter profile c kinds now → ShowsEdit c near kinds → IsOneChange at.good.tree.lines c
    → (ts : List Standing) × Stands (text_of old.texts.source) read new.slots.items ts
    × ChangesLines (manner old).layout profile c (standing at.good.tree.lines) ts

-- the same of the last edit of a list, where those before it are plain
abbrev pub HoldsLast : Profile → Read → Kinds → List Change → Tree → Tree → Type 0
HoldsLast profile read near cs old new = (front : List Change) (c : Change) → cs ≡ front ++ c ∷ [] → (text : List ℕ) (kinds mid now : Kinds)
    → IsAt profile read old text kinds → Lead profile front kinds mid → IsFault profile c mid None → IsAfter profile c mid now
    → ((part : Kinds) → Lead profile front near part → ShowsEdit c part mid) → ArePlain profile front (manner old) text
    → (between : List ℕ) → AreWritten profile front (manner old) text between → (e : Doc) → SpellsIn profile e between → IsOneChange e.lines c
    → (ts : List Standing) × Stands (text_of old.texts.source) read new.slots.items ts
    × ChangesLines (manner old).layout profile c (standing e.lines) ts

-- Of an edit that is made: what it makes where it is plain, and that it is not refused;
pub record DoneOne (profile : Profile) (read : Read) (near : Kinds) (c : Change) (old new : Tree) : Type 0 where
  pub makes : MakesOne profile read c old new
  pub holds : HoldsOne profile read near c old new
  pub passes : PassesOne profile read near c old

-- of edits that are made one after the other.
pub record DoneAll (profile : Profile) (read : Read) (near : Kinds) (cs : List Change) (old new : Tree) : Type 0 where
  pub makes : MakesAll profile read cs old new
  pub holds : HoldsLast profile read near cs old new
  pub passes : PassesAll profile read cs near (length cs) old

-- the edit with this number, where those before it are plain, is neither of these on the text that they write
abbrev pub IsNeitherAt : Profile → Read → List Change → ℕ → Tree → Type 0
IsNeitherAt profile read cs j tree = OfPlain profile read cs tree j (λ c text kinds. ¬ IsPlainOrHeld profile text c)

-- this holds of the number of the edit that has the fault, if it is one of an edit
abbrev pub OfNumber : (ℕ → Type 0) → EditorFault → Type 0
OfNumber P (Edit i fault) = P i
OfNumber P (Spread i) = P i
OfNumber P (LastElement i) = P i
OfNumber P _ = Unit {0}

-- and this of its number, where it is told to be spread, or to take a last element
abbrev pub OfNoPlaceAt : (ℕ → Type 0) → EditorFault → Type 0
OfNoPlaceAt P (Spread i) = P i
OfNoPlaceAt P (LastElement i) = P i
OfNoPlaceAt P _ = Unit {0}

-- no edit before the one with the fault is refused, and that one is neither plain nor held, if it is told to be spread or to take a last
-- element
pub record Stops (profile : Profile) (read : Read) (cs : List Change) (near : Kinds) (tree : Tree) (fault : EditorFault) : Type 0 where
  pub passed : OfNumber (λ n. PassesAll profile read cs near n tree) fault
  pub neither : OfNoPlaceAt (λ j. IsNeitherAt profile read cs j tree) fault
