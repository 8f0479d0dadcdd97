-- The room that is made for an item.
use Rattle.std.proofs.Common.{◌≡◌, ◌∙◌, ℕ, Bool, List, [], Option, Some, None, ap, sym, subst}
use Rattle.std.specs.Prelude.{option_map, unwrap_or}
use Rattle.toml_layout.specs.declared.tree.Gap.{Gap}
use Rattle.toml_layout.specs.declared.tree.GapPart.{GapPart}
use Rattle.toml_layout.specs.Gaps.{SplitsLast}
use Rattle.toml_layout.specs.Items.{Item, Items, gap_parts, with_end}
use Rattle.toml_layout.specs.Margins.{IsMarginAlone, IsOnLine, margin}
use Rattle.toml_layout.specs.PartOutlines.{IsParted, outlined}
use Rattle.toml_layout.specs.Rooms.{AloneBy, BesideBy, Room, RoomAlone, RoomBeside, RoomBesideOf, RoomOnLine, beside}
use Rattle.toml_layout.proofs.LeftParts.{begins_so}

abbrev room_with : Items → List GapPart → List GapPart → Room
room_with i before after = record { items = i; before = before; after = after }

made : (a b : Items) (x y z w : List GapPart) → a ≡ b → x ≡ y → z ≡ w → ◌≡◌ {A = Room} (record { items = a; before = x; after = z }) (record { items = b; before = y; after = w })
made a b x y z w same before after =
    ap (λ (i : Items). room_with i x z) same ∙ ap (λ t. room_with b t z) before ∙ ap (λ t. room_with b y t) after

pub unwrapped : (o : Option Gap) (d r : Gap) (end : Option (List GapPart)) → r ≡ unwrap_or o d → gap_parts d ≡ [] → option_map gap_parts o ≡ end
    → gap_parts r ≡ unwrap_or end []
unwrapped None d r end is none stood = ap gap_parts is ∙ none ∙ ap (λ (o : Option (List GapPart)). unwrap_or o []) stood
unwrapped (Some g) d r end is none stood = ap gap_parts is ∙ ap (λ (o : Option (List GapPart)). unwrap_or o []) stood

-- ---- between brackets where no item stands

pub alone_on_line : (m mid new : Items) (is_pair : Bool) (end all lines closing own before behind after : List GapPart) → end ≡ unwrap_or m.end [] → IsParted end all
    → SplitsLast all lines closing → IsMarginAlone all lines closing (outlined own) → IsOnLine own lines closing before behind → mid ≡ with_end m None
    → new ≡ with_end mid (Some behind) → after ≡ [] → RoomAlone m is_pair (record { items = new; before = before; after = after })
alone_on_line m mid new is_pair end all lines closing own before behind after end_is parted split begins around took now none = (
  all,
  subst (λ e. IsParted e all) end_is parted,
  subst (λ b. AloneBy b m all is_pair (record { items = new; before = before; after = after })) (sym (begins_so all lines closing split)) (record {
    lines = lines;
    closing = closing;
    split = split;
    own = own;
    begins = begins;
    behind = behind;
    around = around;
    items_are = now ∙ ap (λ (k : Items). with_end k (Some behind)) took;
    after_is = none;
  }),
)

-- ---- as the item beside it is written

pub beside_on_line : (m : Items) (i : ℕ) (is_pair : Bool) (r : Room) (it : Item) (all lines indent own : List GapPart) → Some it ≡ beside m i → IsParted it.before all
    → SplitsLast all lines indent → outlined own ≡ margin lines indent → RoomOnLine m i own r → RoomBeside m i is_pair r
beside_on_line m i is_pair r it all lines indent own is parted split begins made =
    subst (RoomBesideOf m i is_pair r) is (
      all,
      parted,
      subst (λ b. BesideBy b m i all r) (sym (begins_so all lines indent split)) (record {
        lines = lines;
        indent = indent;
        split = split;
        own = own;
        begins = begins;
        made = made;
      }),
    )
