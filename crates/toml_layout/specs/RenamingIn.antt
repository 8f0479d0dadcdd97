-- `rename` in a value of the working tree, by the steps below the value.
use Rattle.std.specs.Prelude.{◌≡◌, ℕ, zero, suc, ◌-◌, Bool, List, [], ◌∷◌, ◌++◌, length, map, option_map, if◌then◌else◌}
use Rattle.toml_names.specs.declared.model.address.Step.TheVariants.{Name}
use Rattle.toml_names.specs.mentions.Keys.{Key}
use Rattle.toml_names.specs.model.Addresses.{Address, same_step}
use Rattle.toml_layout.specs.Apart.{HasKeysApart}
use Rattle.toml_layout.specs.Beginnings.{begins_by}
use Rattle.toml_layout.specs.Leading.{ChangesEntry}
use Rattle.toml_lists.specs.declared.gap_list.GapList.{GapList}
use Rattle.toml_layout.specs.declared.tree.Entry.{Entry as OpenEntry}
use Rattle.toml_layout.specs.OpenOutlines.{Enclosed, EntryOutline, entry}
use Rattle.toml_layout.specs.Outlines.{DottedOutline, AssignOutline, ValueOutline, EntriesOutline, End, Entry}
use Rattle.toml_layout.specs.RenameOutlines.{rename_outline}
use Rattle.toml_layout.specs.SetOutlines.{outlined_names}

-- whether all steps are the first names of a key
abbrev pub reaches : Key → Address → Bool
reaches k steps = begins_by (λ s n. same_step (Name n) s) steps k

-- the parts of a key, the one with the number from 0 on changed: the first one, and those behind it
abbrev pub first_with : ℕ → List ℕ → List ℕ → List ℕ
first_with zero text first = text
first_with (suc i) text first = first

abbrev pub dotted_with : ℕ → List ℕ → List DottedOutline → List DottedOutline
dotted_with i text [] = []
dotted_with zero text (d ∷ ds) = record { before_dot = d.before_dot; after_dot = d.after_dot; part = text } ∷ ds
dotted_with (suc i) text (d ∷ ds) = d ∷ dotted_with i text ds

abbrev pub rest_with : ℕ → List ℕ → List DottedOutline → List DottedOutline
rest_with zero text ds = ds
rest_with (suc i) text ds = dotted_with i text ds

abbrev pub part_with : ℕ → List ℕ → AssignOutline → AssignOutline
part_with i text a = record {
  first = first_with i text a.first;
  rest = rest_with i text a.rest;
  before_equals = a.before_equals;
  after_equals = a.after_equals;
}

-- a key, whose part that stands for the steps is changed, if one does; and so in a pair, and in pairs
abbrev pub key_with : Address → List ℕ → AssignOutline → AssignOutline
key_with steps text a = if reaches (outlined_names a) steps then part_with (length steps - 1) text a else a

abbrev pub pair_with : Address → List ℕ → EntryOutline → EntryOutline
pair_with steps text e = record { before = e.before; assign = option_map (key_with steps text) e.assign; value = e.value; after = e.after }

abbrev pub pairs_with : Address → List ℕ → EntriesOutline → EntriesOutline
pairs_with steps text (End gap) = End gap
pairs_with steps text (Entry before a v after es) = Entry before (option_map (key_with steps text) a) v after (pairs_with steps text es)

abbrev pub KeysRenamed : Address → List ℕ → Enclosed → Enclosed → Type 0
KeysRenamed steps text old now = now ≡ record { opening = old.opening; entries = pairs_with steps text old.entries }

-- so it is with the pairs of a list, on both sides of its gap
pub record AreRenamed (steps : Address) (text : List ℕ) (old now : GapList OpenEntry) : Type 0 where
  pub before : map entry now.before.items ≡ map (pair_with steps text) (map entry old.before.items)
  pub behind : map entry now.behind.items ≡ map (pair_with steps text) (map entry old.behind.items)

-- a `rename` in a value, and in that of the entry with the index
abbrev pub RenamesIn : Address → List ℕ → ValueOutline → ValueOutline → Type 0
RenamesIn steps text old now = HasKeysApart old → (at : Address) → now ≡ rename_outline (at ++ steps) text at old

abbrev pub RenamesEntry : ℕ → Address → List ℕ → Enclosed → Enclosed → Type 0
RenamesEntry i steps text old now = ChangesEntry (RenamesIn steps text) (Unit {0}) i old now
