-- The items of a list with a gap.
use Rattle.std.specs.Prelude.{◌≡◌, ◌+◌, ◌<◌, ℕ, List, ◌++◌, length, reverse}
use Rattle.toml_lists.specs.declared.gap_list.GapList.{GapList}
use Rattle.toml_lists.specs.declared.gap_list.Side.{Side}
use Rattle.toml_lists.specs.declared.gap_list.Side.TheVariants.{Before, Behind}

-- those before the gap, and those behind it, of which the last one lies first
abbrev pub items : {T : Type 0} → GapList T → List T
items g = g.before.items ++ reverse g.behind.items

-- the item with the index lies there
abbrev pub LiesAt : {T : Type 0} → GapList T → ℕ → Side → Type 0
LiesAt g i (Before place) = (place ≡ i) × (i < length g.before.items)
LiesAt g i (Behind place) = (place < length g.behind.items) × (i + place + 1 ≡ length g.before.items + length g.behind.items)
