-- Why bytes are no edit list.
use Rattle.std.specs.Prelude.{◌≡◌, ◌⊎◌, ℕ, List, []}
use Rattle.serde_json.specs.Data.{Items}
use Rattle.toml_edits.specs.EditList.{IsEditList, IsList, IsFirstBad}
use Rattle.toml_edits.specs.Edits.{Change}
use Rattle.toml_delivery.specs.declared.ending.Ending.{Ending}
use Rattle.toml_delivery.specs.declared.ending.Ending.TheVariants.{Refused, NoMemory}
use Rattle.toml_delivery.specs.declared.refusal.Refusal.{Refusal}

-- 321: no JSON list; 320: the first entry that is no edit, by its number from 0
abbrev pub IsListRefusal : List ℕ → Refusal → Type 0
IsListRefusal edits r = ((r.code ≡ 321) × (r.place ≡ 0) × ((ds : Items) → ¬ IsList edits ds)) ⊎ ((r.code ≡ 320) × (ds : Items) × IsList edits ds × IsFirstBad ds r.place)

-- no edits, where something is refused; want of memory is no refusal
abbrev pub IsRefusedList : Ending → List Change → Type 0
IsRefusedList (Refused r) cs = cs ≡ []
IsRefusedList NoMemory cs = ⊥

-- the bytes are the list of these edits; or they are none, and there are no edits
abbrev pub AreListedOrNone : List ℕ → List Change → Type 0
AreListedOrNone edits cs = IsEditList edits cs ⊎ ((r : Refusal) × IsListRefusal edits r × (cs ≡ []))
