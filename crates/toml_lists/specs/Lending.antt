-- What a list with a gap ends as, where one of its items is lent.
use Rattle.std.specs.Prelude.{◌≡◌, ℕ, Option, OnSome, slice_set}
use Rattle.std.specs.Borrow.{LendsSo, Fml, RattleType, MutBor}
use Rattle.toml_lists.specs.Gaps.{items}
use Rattle.toml_lists.specs.contracts.gap_list.GapList.{the_row}
use Rattle.toml_lists.specs.declared.gap_list.GapList.{GapList}

-- the item with the index ends as the last one that is written there, and the others stay; where none is lent, all stay
abbrev pub LendsItem : (T : RattleType) → MutBor (GapList T.Denot) → ℕ → Option (MutBor T.Denot) → Fml
LendsItem T g index r = LendsSo (the_row T) T g r (λ new item. OnSome r (items new ≡ slice_set (items g.now) index item)) (λ new. items new ≡ items g.now)
