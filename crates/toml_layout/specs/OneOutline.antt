-- Laws: what an `insert` and a `remove` make of a value whose keys are apart is one in a layout, and so it has one text.
use Rattle.std.specs.Prelude.{◌≡◌, Bool, List, map, string_bytes}
use Rattle.std.specs.declared.alloc.Global.{Global}
use Rattle.std.specs.declared.string.String.{String}
use Rattle.toml_names.specs.model.Addresses.{Address}
use Rattle.toml_layout.specs.declared.layout.Layout.{Layout}
use Rattle.toml_layout.specs.declared.tree.Value.{Value}
use Rattle.toml_layout.specs.Apart.{HasKeysApart}
use Rattle.toml_layout.specs.Holding.{ChangesHolder, PutsHeld, TakesHeld}
use Rattle.toml_layout.specs.OpenOutlines.{value}
use Rattle.toml_layout.specs.Outlines.{ValueOutline}
use Rattle.toml_layout.specs.SettingIn.{SetsIn}

-- an element goes, or pairs
abbrev pub TakenIsOne : Type 0
TakenIsOne = (layout : Layout) (steps : Address) (old now new : ValueOutline) → HasKeysApart old → ChangesHolder SetsIn (TakesHeld layout) steps old now
    → ChangesHolder SetsIn (TakesHeld layout) steps old new → now ≡ new

-- values of one outline are put in, the steps being spelled in one way
abbrev pub PutIsOne : Type 0
PutIsOne = (layout : Layout) (spelled twin : List (String Global)) (steps : Address) (put same : Value) (old now new : ValueOutline) → HasKeysApart old
    → map string_bytes spelled ≡ map string_bytes twin → value put ≡ value same → ChangesHolder SetsIn (PutsHeld layout spelled put) steps old now
    → ChangesHolder SetsIn (PutsHeld layout twin same) steps old new → now ≡ new

-- and a `set` makes something of each value
abbrev pub SetIsMade : Type 0
SetIsMade = (to : Address) (new old : ValueOutline) → (now : ValueOutline) × (done : Bool) × SetsIn to new old now done
