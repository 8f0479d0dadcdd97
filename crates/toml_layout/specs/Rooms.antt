-- How room is made for an item that is put in, by either layout.
use Rattle.std.specs.Prelude.{◌≡◌, ◌-◌, ℕ, min, Bool, true, false, List, [], ◌∷◌, length, Option, Some, None, is_some, slice_get, unwrap_or}
use Rattle.std.specs.Global.{Box}
use Rattle.toml_layout.specs.declared.layout.Layout.{Layout}
use Rattle.toml_layout.specs.declared.layout.Layout.TheVariants as layouts
use Rattle.toml_layout.specs.declared.tree.Assign.{Assign}
use Rattle.toml_layout.specs.declared.tree.Entries.{Entries}
use Rattle.toml_layout.specs.declared.tree.Gap.{Gap}
use Rattle.toml_layout.specs.declared.tree.GapPart.{GapPart}
use Rattle.toml_layout.specs.declared.tree.Value.{Value}
use Rattle.toml_layout.specs.Gaps.{SplitsLast, begins_line}
use Rattle.toml_layout.specs.Items.{Item, Items, gap_parts, items_of, last_item, with_after, with_before, with_end, with_item}
use Rattle.toml_layout.specs.Margins.{IsMarginAlone, IsOnLine, PutsLine, margin, one_space, parting}
use Rattle.toml_layout.specs.PartOutlines.{IsParted, outlined}
use Rattle.toml_layout.specs.Parts.{PartOutline}

-- the items then, and the gaps around the new one
pub record Room : Type 0 where
  pub items : Items
  pub before : List GapPart
  pub after : List GapPart

abbrev pub room_of : Entries → (Gap × Gap) → Room
room_of e around = record { items = items_of e; before = gap_parts around.0; after = gap_parts around.1 }

-- ---- next to another

-- It takes the place of the item with the index, and behind the new comma stands the space; so it does behind the last one. Alone it has
-- nothing before it, and behind it all that stood there.
abbrev pub room_by : Items → ℕ → List GapPart → Option Item → Option Item → Room
room_by m i space (Some other) last = record { items = with_before m i other space; before = other.before; after = [] }
room_by m i space None (Some last) = record { items = with_after m (length m.list - 1) last []; before = space; after = last.after }
room_by m i space None None = record { items = with_end m None; before = []; after = unwrap_or m.end [] }

abbrev pub room : Items → ℕ → List GapPart → Room
room m i space = room_by m i space (slice_get m.list i) (last_item m)

-- what stands behind the first comma that an item follows
abbrev pub behind_comma : List Item → List PartOutline
behind_comma [] = one_space
behind_comma (one ∷ []) = one_space
behind_comma (one ∷ two ∷ items) = parting two.before

-- ---- on a line of its own

-- before the item with the index, before the closing bracket and behind the last comma, or behind the last item
abbrev pub OnLineBy : Items → ℕ → List GapPart → Room → Option Item → Option (List GapPart) → Option Item → Type 0
OnLineBy m i margin r (Some other) end last =
    (behind : List GapPart) × PutsLine other.before margin r.before behind × (r.items ≡ with_before m i other behind) × (r.after ≡ [])
OnLineBy m i margin r None (Some end) last = (behind : List GapPart) × PutsLine end margin r.before behind × (r.items ≡ with_end m (Some behind)) × (r.after ≡ [])
OnLineBy m i margin r None None (Some last) = PutsLine last.after margin r.before r.after × (r.items ≡ with_after m (length m.list - 1) last [])
OnLineBy m i margin r None None None = r ≡ record { items = m; before = []; after = [] }

abbrev pub RoomOnLine : Items → ℕ → List GapPart → Room → Type 0
RoomOnLine m i margin r = OnLineBy m i margin r (slice_get m.list i) m.end (last_item m)

-- ---- between brackets where no item stands

-- on a line of its own before the last newline
pub record AloneOnLine (m : Items) (parts : List GapPart) (r : Room) : Type 0 where
  pub lines : List GapPart
  pub closing : List GapPart
  pub split : SplitsLast parts lines closing
  pub own : List GapPart
  pub begins : IsMarginAlone parts lines closing (outlined own)
  pub behind : List GapPart
  pub around : IsOnLine own lines closing r.before behind
  pub items_are : r.items ≡ with_end m (Some behind)
  pub after_is : r.after ≡ []

-- between two spaces, or the whitespace that stood there
abbrev pub IsBetween : Bool → List GapPart → List GapPart → List GapPart → Type 0
IsBetween true parts before after = (outlined before ≡ one_space) × (outlined after ≡ one_space)
IsBetween false parts before after = (before ≡ parts) × (outlined after ≡ outlined parts)

abbrev pub AloneBy : Bool → Items → List GapPart → Bool → Room → Type 0
AloneBy true m parts is_pair r = AloneOnLine m parts r
AloneBy false m parts is_pair r = (r.items ≡ with_end m None) × IsBetween is_pair parts r.before r.after

abbrev pub RoomAlone : Items → Bool → Room → Type 0
RoomAlone m is_pair r = (parts : List GapPart) × IsParted (unwrap_or m.end []) parts × AloneBy (begins_line parts) m parts is_pair r

-- ---- as the item beside it is written

pub record BesideOnLine (m : Items) (i : ℕ) (parts : List GapPart) (r : Room) : Type 0 where
  pub lines : List GapPart
  pub indent : List GapPart
  pub split : SplitsLast parts lines indent
  pub own : List GapPart
  pub begins : outlined own ≡ margin lines indent
  pub made : RoomOnLine m i own r

-- or behind the comma as behind the first one
abbrev pub BesideBy : Bool → Items → ℕ → List GapPart → Room → Type 0
BesideBy true m i parts r = BesideOnLine m i parts r
BesideBy false m i parts r = (space : List GapPart) × (outlined space ≡ behind_comma m.list) × (r ≡ room m i space)

-- the item with the index, or the last one, if there is one
abbrev pub beside : Items → ℕ → Option Item
beside m i = slice_get m.list (min i (length m.list - 1))

abbrev pub RoomBesideOf : Items → ℕ → Bool → Room → Option Item → Type 0
RoomBesideOf m i is_pair r None = RoomAlone m is_pair r
RoomBesideOf m i is_pair r (Some beside) = (parts : List GapPart) × IsParted beside.before parts × BesideBy (begins_line parts) m i parts r

abbrev pub RoomBeside : Items → ℕ → Bool → Room → Type 0
RoomBeside m i is_pair r = RoomBesideOf m i is_pair r (beside m i)

-- ---- in a layout

abbrev pub RoomFor : Layout → Items → ℕ → Bool → Room → Type 0
RoomFor layouts.Plain m i is_pair r = (space : List GapPart) × (outlined space ≡ one_space) × (r ≡ room m i space)
RoomFor layouts.Follow m i is_pair r = RoomBeside m i is_pair r

-- an item is put in before the one with the index, or behind the last one
pub record PutsItem (layout : Layout) (i : ℕ) (own : Option (Box Assign)) (value : Value) (old new : Items) : Type 0 where
  pub room : Room
  pub made : RoomFor layout old i (is_some own) room
  pub now : new ≡ with_item room.items i (record { before = room.before; assign = own; value = value; after = room.after })
