-- The form of an edit list, over the JSON value that `serde_json` reads. Of two equal members it keeps the last, and members stand in
-- the order of their names.
use Rattle.std.specs.Prelude.{◌≡◌, ◌==◌, Bool, ℕ, zero, suc, List, [], ◌∷◌, codes, Option, Some, None, option_map, option_and_then, map, Vec, Result, Ok, Err, ◌||◌, if◌then◌else◌}
use Rattle.std.specs.Str.{IsUtf8, bytes_eq}
use Rattle.serde_json.specs.Data.{Data, number, string, array, object, unsigned, Items, no_items, item, Members, no_members, member}
use Rattle.serde_json.specs.Find.{as_str, get}
use Rattle.serde_json.specs.Read.{read}
use Rattle.std.specs.declared.alloc.Global.{Global}
use Rattle.toml_names.specs.declared.model.address.Step.{Step}
use Rattle.toml_names.specs.declared.model.address.Step.TheVariants.{Name, Index}
use Rattle.toml_names.specs.model.Addresses.{Address}
use Rattle.toml_edits.specs.declared.fault.EditsFault.{EditsFault}
use Rattle.toml_edits.specs.declared.fault.EditsFault.TheVariants as faults
use Rattle.toml_edits.specs.declared.edit.Edit.{Edit}
use Rattle.toml_edits.specs.Edits.{Change, set, insert, rename, remove, new_section, new_element, change}

-- a step: a text is a name, a whole number from 0 an index
abbrev pub step_of : Data → Option Step
step_of (string s) = Some (Name s)
step_of (number (unsigned n)) = Some (Index n)
step_of _ = None

abbrev pub then_step : Option Step → Option Address → Option Address
then_step (Some s) (Some at) = Some (s ∷ at)
then_step _ _ = None

abbrev pub steps_of : Items → Option Address
steps_of no_items = Some []
steps_of (item d ds) = then_step (step_of d) (steps_of ds)

abbrev pub address_of : Data → Option Address
address_of (array ds) = steps_of ds
address_of _ = None

-- the text of a member
abbrev pub text_at : List ℕ → Data → Option (List ℕ)
text_at key d = option_and_then as_str (get key d)

abbrev pub address_at : Data → Option Address
address_at d = option_and_then address_of (get (codes "at") d)

abbrev pub size : Members → ℕ
size no_members = 0
size (member k d ms) = suc (size ms)

-- how many members an object has
abbrev pub count : Data → ℕ
count (object ms) = size ms
count _ = 0

-- the operations that have no text
abbrev pub has_no_text : List ℕ → Bool
has_no_text op = bytes_eq op (codes "remove") || bytes_eq op (codes "section") || bytes_eq op (codes "element")

-- how many members an entry has by its operation: `at` and `op`, and one more where it has a text
abbrev pub members_of : List ℕ → ℕ
members_of op = if has_no_text op then 2 else 3

abbrev pub edit_of : List ℕ → Address → Data → Option Change
edit_of op at d =
    if bytes_eq op (codes "set") then option_map (set at) (text_at (codes "value") d)
    else if bytes_eq op (codes "insert") then option_map (insert at) (text_at (codes "value") d)
    else if bytes_eq op (codes "rename") then option_map (rename at) (text_at (codes "to") d)
    else if bytes_eq op (codes "remove") then Some (remove at)
    else if bytes_eq op (codes "section") then Some (new_section at)
    else if bytes_eq op (codes "element") then Some (new_element at)
    else None

-- An entry is an object with `at`, `op` and, where its operation has one, `value` or `to`, and no other member.
abbrev pub entry_of : Data → Option Change
entry_of d = option_and_then (λ op. option_and_then (λ at. if count d == members_of op then edit_of op at d else None) (address_at d)) (text_at (codes "op") d)

-- the bytes are JSON with these items as a list
abbrev pub IsList : List ℕ → Items → Type 0
IsList bytes ds = IsUtf8 bytes × (read bytes ≡ Some (array ds))

-- the items are these edits
abbrev pub AreEdits : Items → List Change → Type 0
AreEdits no_items [] = Unit {0}
AreEdits (item d ds) (c ∷ cs) = (entry_of d ≡ Some c) × AreEdits ds cs
AreEdits _ _ = ⊥

-- the bytes are the list of these edits
abbrev pub IsEditList : List ℕ → List Change → Type 0
IsEditList bytes cs = (ds : Items) × IsList bytes ds × AreEdits ds cs

-- the first item that is no edit, counted from 0
abbrev pub IsFirstBad : Items → ℕ → Type 0
IsFirstBad no_items i = ⊥
IsFirstBad (item d ds) zero = entry_of d ≡ None
IsFirstBad (item d ds) (suc i) = (c : Change) × (entry_of d ≡ Some c) × IsFirstBad ds i

-- what the items are read as; want of memory says nothing of them
abbrev pub ReadsItems : Items → Result (Vec Edit Global) EditsFault → Type 0
ReadsItems ds (Ok es) = AreEdits ds (map change es.items)
ReadsItems ds (Err faults.NotAList) = ⊥
ReadsItems ds (Err (faults.BadEdits index)) = IsFirstBad ds index
ReadsItems ds (Err faults.NoMemory) = Unit {0}

-- what bytes are read as
abbrev pub ReadsEdits : List ℕ → Result (Vec Edit Global) EditsFault → Type 0
ReadsEdits bytes (Ok es) = (ds : Items) × IsList bytes ds × ReadsItems ds (Ok es)
ReadsEdits bytes (Err faults.NotAList) = (ds : Items) → ¬ IsList bytes ds
ReadsEdits bytes (Err (faults.BadEdits index)) = (ds : Items) × IsList bytes ds × IsFirstBad ds index
ReadsEdits bytes (Err faults.NoMemory) = Unit {0}

-- Laws: bytes are at most one list of edits; where the first entry that is none is found they are none.
abbrev pub OneEditList : Type 0
OneEditList = (bytes : List ℕ) (cs ds : List Change) → IsEditList bytes cs → IsEditList bytes ds → cs ≡ ds

abbrev pub BadListIsNone : Type 0
BadListIsNone = (bytes : List ℕ) (ds : Items) (i : ℕ) (cs : List Change) → IsList bytes ds → IsFirstBad ds i → ¬ IsEditList bytes cs
