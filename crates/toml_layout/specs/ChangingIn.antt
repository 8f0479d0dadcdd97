-- What an edit changes in a value, by outlines.
use Rattle.std.specs.Prelude.{Bool, List, ℕ}
use Rattle.toml_names.specs.model.Addresses.{Address}
use Rattle.toml_layout.specs.declared.changing.Inside.{Inside}
use Rattle.toml_layout.specs.declared.changing.Inside.TheVariants as changes
use Rattle.toml_layout.specs.declared.layout.Layout.{Layout}
use Rattle.toml_layout.specs.Holding.{HolderChange, HoldsIn, PutsHeld, TakesHeld}
use Rattle.toml_layout.specs.OpenOutlines.{value}
use Rattle.toml_layout.specs.Outlines.{ValueOutline}
use Rattle.toml_layout.specs.RenamingIn.{RenamesIn}
use Rattle.toml_layout.specs.SettingIn.{SetsIn}

-- By these words: of a `set` what it writes, and whether it did, of a `rename` what it writes, and of an `insert` and a `remove`, where
-- they are made, what becomes of the array or the inline table that holds what the steps name.
abbrev pub Changes : {A : Type 0} → Layout → (ValueOutline → A → A → Bool → Type 0) → (List ℕ → A → A → Type 0) → (HolderChange → A → A → Bool → Type 0)
    → Inside → A → A → Bool → Type 0
Changes layout Sets Renames Holds (changes.Set new) old now done = Sets (value new) old now done
Changes layout Sets Renames Holds (changes.Insert spelled new) old now done = Holds (PutsHeld layout spelled.now new) old now done
Changes layout Sets Renames Holds (changes.Rename to) old now done = Renames to.now old now
Changes layout Sets Renames Holds changes.Remove old now done = Holds (TakesHeld layout) old now done

-- in a value
abbrev pub ChangesIn : Layout → Address → Inside → ValueOutline → ValueOutline → Bool → Type 0
ChangesIn layout steps = Changes layout (SetsIn steps) (RenamesIn steps) (HoldsIn steps)
