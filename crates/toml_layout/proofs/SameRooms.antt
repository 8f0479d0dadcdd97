-- The room that is made for an item, and the items when it is put in: of items that read alike they read alike.
use Rattle.std.proofs.Common.{◌≡◌, ◌∙◌, ◌-◌, ℕ, min, Bool, true, false, cond, ◌&&◌, List, [], ◌∷◌, ◌++◌, Option, Some, None, Box, length, map, refl, ap, ap₂, sym, subst, subst₂, append-nil}
use Rattle.std.proofs.lemmas.Bool.{false≢true}
use Rattle.std.specs.Global.{Global}
use Rattle.std.specs.List.{insert, list_any}
use Rattle.std.specs.Prelude.{is_some, nat_le, option_map, slice_get, unwrap_or}
use Rattle.toml_layout.specs.declared.layout.Layout.{Layout}
use Rattle.toml_layout.specs.declared.layout.Layout.TheVariants as layouts
use Rattle.toml_layout.specs.declared.tree.Assign.{Assign}
use Rattle.toml_layout.specs.declared.tree.GapPart.{GapPart}
use Rattle.toml_layout.specs.declared.tree.GapPart.TheVariants as parts
use Rattle.toml_layout.specs.declared.tree.Value.{Value}
use Rattle.toml_layout.specs.Gaps.{begins_line}
use Rattle.toml_layout.specs.Items.{Item, Items, last_item, with_item}
use Rattle.toml_layout.specs.Margins.{is_short, one_space, parting}
use Rattle.toml_layout.specs.OpenOutlines.{EntryOutline, assign, leaf_text, part_read, parts_read, value}
use Rattle.toml_layout.specs.PartOutlines.{outlined}
use Rattle.toml_layout.specs.Parts as outline
use Rattle.toml_layout.specs.Parts.{PartOutline, Ws, Comment, Newline, Lines, lines_apart, part_text, parts_of}
use Rattle.toml_layout.specs.Rooms.{AloneBy, BesideBy, IsBetween, OnLineBy, PutsItem, Room, RoomAlone, RoomBesideOf, RoomFor, behind_comma, beside, room, room_by}
use Rattle.toml_layout.proofs.SameEntries.{outlines_same}
use Rattle.toml_layout.proofs.SameItems.{SameItems, after_same, before_same, count_same, end_same, got_same, in_both, item_outline, last_same}
use Rattle.toml_layout.proofs.SameMargins.{alone_same, line_same, margin_same, on_line_same}
use Rattle.toml_layout.proofs.SameMargins as margins
use Rattle.toml_layout.proofs.SameParts.{begins_same, parted_same, read_same, ws_one}
use Rattle.toml_layout.proofs.TakenParts.{inserted_mapped}

pub record SameRooms (r s : Room) : Type 0 where
  pub items : SameItems r.items s.items
  pub before : parts_read r.before ≡ parts_read s.before
  pub after : parts_read r.after ≡ parts_read s.after

-- ---- next to another

end_read : (o p : Option (List GapPart)) → option_map parts_read o ≡ option_map parts_read p → parts_read (unwrap_or o []) ≡ parts_read (unwrap_or p [])
end_read = in_both parts_read (λ o p. parts_read (unwrap_or o []) ≡ parts_read (unwrap_or p [])) refl (λ x y end. end)

room_by_same : (a b : Items) → SameItems a b → (i : ℕ) (g h : List GapPart) → parts_read g ≡ parts_read h → (o p : Option Item)
    → option_map item_outline o ≡ option_map item_outline p → SameRooms (room_by a i g o (last_item a)) (room_by b i h p (last_item b))
room_by_same a b same i g h space = in_both item_outline (λ o p. SameRooms (room_by a i g o (last_item a)) (room_by b i h p (last_item b)))
    (in_both item_outline (λ k l. SameRooms (room_by a i g None k) (room_by b i h None l))
    (record { items = end_same a b None None same refl; before = refl; after = end_read a.end b.end same.end })
    (λ x y one. record {
      items = after_same a b (length a.list - 1) (length b.list - 1) x y [] [] same (ap (λ n. n - 1) (count_same a b same)) one refl;
      before = space;
      after = ap (λ (e : EntryOutline). e.after) one;
    })
    (last_item a) (last_item b) (last_same a b same))
    (λ x y one. record { items = before_same a b i x y g h same one space; before = ap (λ (e : EntryOutline). e.before) one; after = refl })

room_same : (a b : Items) → SameItems a b → (i : ℕ) (g h : List GapPart) → parts_read g ≡ parts_read h → SameRooms (room a i g) (room b i h)
room_same a b same i g h space = room_by_same a b same i g h space (slice_get a.list i) (slice_get b.list i) (got_same a b same i i refl)

-- ---- behind the first comma

short_read : List PartOutline → Bool
short_read [] = true
short_read (p ∷ []) = ws_one p && nat_le (length (part_text p)) 1
short_read (p ∷ q ∷ ps) = false

long_lines : (ps : List PartOutline) → list_any outline.is_newline ps ≡ true → short_read ps ≡ false
unfolding short_read
long_lines [] some = absurd (false≢true some)
long_lines (Ws text ∷ []) some = absurd (false≢true some)
long_lines (Comment text ∷ []) some = refl
long_lines (Newline text ∷ []) some = refl
long_lines (Lines text ∷ []) some = refl
long_lines (p ∷ q ∷ ps) some = refl

-- a part reads as one part at least
some_part : (ps : List PartOutline) → list_any outline.is_newline ps ≡ true → (p : PartOutline) × (qs : List PartOutline) × (ps ≡ p ∷ qs)
some_part [] some = absurd (false≢true some)
some_part (p ∷ ps) some = (p, ps, refl)

some_read : (p : GapPart) → (q : PartOutline) × (qs : List PartOutline) × (part_read p ≡ q ∷ qs)
some_read (parts.Ws ws) = (Ws (leaf_text ws), [], refl)
some_read (parts.Comment comment) = (Comment (leaf_text comment), [], refl)
some_read (parts.Newline newline) = (Newline (leaf_text newline), [], refl)
some_read (parts.Lines lines) = by (list_any outline.is_newline (parts_of (leaf_text lines))) (some_part (parts_of (leaf_text lines)))
  where
    by : (b : Bool) → (b ≡ true → (p : PartOutline) × (qs : List PartOutline) × (parts_of (leaf_text lines) ≡ p ∷ qs))
        → (p : PartOutline) × (qs : List PartOutline) × (cond b (parts_of (leaf_text lines)) (Lines (leaf_text lines) ∷ []) ≡ p ∷ qs)
    by true some = some refl
    by false some = (Lines (leaf_text lines), [], refl)

lines_long : (text : List ℕ) → short_read (lines_apart text ++ []) ≡ false
unfolding short_read
lines_long text = ap short_read (append-nil (lines_apart text)) ∙ by (list_any outline.is_newline (parts_of text)) (long_lines (parts_of text))
  where
    by : (b : Bool) → (b ≡ true → short_read (parts_of text) ≡ false) → short_read (cond b (parts_of text) (Lines text ∷ [])) ≡ false
    by true some = some refl
    by false some = refl

two_long : (p : PartOutline) (ps : List PartOutline) (q : PartOutline) (qs rest : List PartOutline) → short_read ((p ∷ ps) ++ ((q ∷ qs) ++ rest)) ≡ false
unfolding short_read
two_long p [] q qs rest = refl
two_long p (r ∷ ps) q qs rest = refl

short_so : (ps : List GapPart) → is_short ps ≡ short_read (parts_read ps)
unfolding short_read
short_so [] = refl
short_so (parts.Ws ws ∷ []) = refl
short_so (parts.Comment comment ∷ []) = refl
short_so (parts.Newline newline ∷ []) = refl
short_so (parts.Lines lines ∷ []) = sym (lines_long (leaf_text lines))
short_so (p ∷ q ∷ ps) =
    let one = some_read p in
    let other = some_read q in
    sym (ap₂ (λ l r. short_read (l ++ (r ++ parts_read ps))) one.2 other.2 ∙ two_long one.0 one.1 other.0 other.1 (parts_read ps))

parting_so : (ps : List GapPart) → parting ps ≡ cond (is_short ps) (parts_read ps) one_space
parting_so [] = refl
parting_so (parts.Ws ws ∷ []) = refl
parting_so (parts.Comment comment ∷ []) = refl
parting_so (parts.Newline newline ∷ []) = refl
parting_so (parts.Lines lines ∷ []) = refl
parting_so (p ∷ q ∷ ps) = refl

parting_same : (ps qs : List GapPart) → parts_read ps ≡ parts_read qs → parting ps ≡ parting qs
parting_same ps qs same =
    parting_so ps ∙ ap₂ (λ b r. cond b r one_space) (short_so ps ∙ ap short_read same ∙ sym (short_so qs)) same ∙ sym (parting_so qs)

behind_second : Option Item → List PartOutline
behind_second None = one_space
behind_second (Some x) = parting x.before

comma_so : (items : List Item) → behind_comma items ≡ behind_second (slice_get items 1)
unfolding behind_second
comma_so [] = refl
comma_so (x ∷ []) = refl
comma_so (x ∷ y ∷ items) = refl

comma_same : (a b : Items) → SameItems a b → behind_comma a.list ≡ behind_comma b.list
unfolding behind_second
comma_same a b same =
    comma_so a.list ∙ second (slice_get a.list 1) (slice_get b.list 1) (got_same a b same 1 1 refl) ∙ sym (comma_so b.list)
  where
    second : (o p : Option Item) → option_map item_outline o ≡ option_map item_outline p → behind_second o ≡ behind_second p
    second = in_both item_outline (λ o p. behind_second o ≡ behind_second p) refl
        (λ x y one. parting_same x.before y.before (ap (λ (e : EntryOutline). e.before) one))

-- ---- on a line of its own

module _ (a b : Items) (same : SameItems a b) (i : ℕ) (m n : List GapPart) (begun : outlined m ≡ outlined n) (r s : Room) where
  line_last : (k l : Option Item) → option_map item_outline k ≡ option_map item_outline l → OnLineBy a i m r None None k → OnLineBy b i n s None None l → SameRooms r s
  line_last = in_both item_outline (λ k l. OnLineBy a i m r None None k → OnLineBy b i n s None None l → SameRooms r s)
      (λ one other. subst₂ SameRooms (sym one) (sym other) (record { items = same; before = refl; after = refl }))
      (λ x y last (one, now) (other, too).
      let put = line_same x.after y.after m n r.before s.before r.after s.after (ap (λ (e : EntryOutline). e.after) last) begun one other in
      record {
        items = subst₂ SameItems (sym now) (sym too)
            (after_same a b (length a.list - 1) (length b.list - 1) x y [] [] same (ap (λ n. n - 1) (count_same a b same)) last refl);
        before = read_same r.before s.before put.0;
        after = read_same r.after s.after put.1;
      })

  line_end : (k l : Option Item) → option_map item_outline k ≡ option_map item_outline l → (g h : Option (List GapPart)) → option_map parts_read g ≡ option_map parts_read h
      → OnLineBy a i m r None g k → OnLineBy b i n s None h l → SameRooms r s
  line_end k l last = in_both parts_read (λ g h. OnLineBy a i m r None g k → OnLineBy b i n s None h l → SameRooms r s) (line_last k l last)
      (λ g h end (behind, one, now, none) (second, other, too, never).
      let put = line_same g h m n r.before s.before behind second end begun one other in
      record {
        items = subst₂ SameItems (sym now) (sym too) (end_same a b (Some behind) (Some second) same (ap Some (read_same behind second put.1)));
        before = read_same r.before s.before put.0;
        after = ap parts_read (none ∙ sym never);
      })

  line_next : (o p : Option Item) → option_map item_outline o ≡ option_map item_outline p
      → OnLineBy a i m r o a.end (last_item a) → OnLineBy b i n s p b.end (last_item b) → SameRooms r s
  line_next = in_both item_outline (λ o p. OnLineBy a i m r o a.end (last_item a) → OnLineBy b i n s p b.end (last_item b) → SameRooms r s)
      (line_end (last_item a) (last_item b) (last_same a b same) a.end b.end same.end)
      (λ x y next (behind, one, now, none) (second, other, too, never).
      let put = line_same x.before y.before m n r.before s.before behind second (ap (λ (e : EntryOutline). e.before) next) begun one other in
      record {
        items = subst₂ SameItems (sym now) (sym too) (before_same a b i x y behind second same next (read_same behind second put.1));
        before = read_same r.before s.before put.0;
        after = ap parts_read (none ∙ sym never);
      })

-- ---- between brackets where no item stands

between_same : (is_pair : Bool) (ps qs before first after second : List GapPart) → outlined ps ≡ outlined qs → IsBetween is_pair ps before after
    → IsBetween is_pair qs first second → (parts_read before ≡ parts_read first) × (parts_read after ≡ parts_read second)
between_same true ps qs before first after second same one other =
    (read_same before first (one.0 ∙ sym other.0), read_same after second (one.1 ∙ sym other.1))
between_same false ps qs before first after second same one other =
    (read_same before first (ap outlined one.0 ∙ same ∙ sym (ap outlined other.0)), read_same after second (one.1 ∙ same ∙ sym other.1))

alone_by_same : (a b : Items) → SameItems a b → (ps qs : List GapPart) (is_pair : Bool) (r s : Room) → outlined ps ≡ outlined qs → (k : Bool)
    → AloneBy k a ps is_pair r → AloneBy k b qs is_pair s → SameRooms r s
alone_by_same a b same ps qs is_pair r s gaps true one other =
    let split = margins.last_same ps qs one.lines other.lines one.closing other.closing gaps one.split other.split in
    let own = alone_same ps qs one.lines other.lines one.closing other.closing one.own other.own gaps split.0 split.1 one.begins other.begins in
    let put = on_line_same one.own other.own one.lines other.lines one.closing other.closing r.before s.before one.behind other.behind own split.0 split.1 one.around other.around in
    record {
      items = subst₂ SameItems (sym one.items_are) (sym other.items_are)
          (end_same a b (Some one.behind) (Some other.behind) same (ap Some (read_same one.behind other.behind put.1)));
      before = read_same r.before s.before put.0;
      after = ap parts_read (one.after_is ∙ sym other.after_is);
    }
alone_by_same a b same ps qs is_pair r s gaps false (now, one) (too, other) =
    let put = between_same is_pair ps qs r.before s.before r.after s.after gaps one other in
    record { items = subst₂ SameItems (sym now) (sym too) (end_same a b None None same refl); before = put.0; after = put.1 }

room_alone_same : (a b : Items) → SameItems a b → (is_pair : Bool) (r s : Room) → RoomAlone a is_pair r → RoomAlone b is_pair s → SameRooms r s
room_alone_same a b same is_pair r s (ps, parted, one) (qs, too, other) =
    let gaps = parted_same (unwrap_or a.end []) (unwrap_or b.end []) ps qs (end_read a.end b.end same.end) parted too in
    alone_by_same a b same ps qs is_pair r s gaps (begins_line ps) one (subst (λ k. AloneBy k b qs is_pair s) (sym (begins_same ps qs gaps)) other)

-- ---- as the item beside it is written

beside_by_same : (a b : Items) → SameItems a b → (i : ℕ) (ps qs : List GapPart) (r s : Room) → outlined ps ≡ outlined qs → (k : Bool) → BesideBy k a i ps r → BesideBy k b i qs s
    → SameRooms r s
beside_by_same a b same i ps qs r s gaps true one other =
    let split = margins.last_same ps qs one.lines other.lines one.indent other.indent gaps one.split other.split in
    let own = one.begins ∙ margin_same one.lines other.lines one.indent other.indent split.0 split.1 ∙ sym other.begins in
    line_next a b same i one.own other.own own r s (slice_get a.list i) (slice_get b.list i) (got_same a b same i i refl) one.made other.made
beside_by_same a b same i ps qs r s gaps false (g, space, one) (h, too, other) =
    subst₂ SameRooms (sym one) (sym other) (room_same a b same i g h (read_same g h (space ∙ comma_same a b same ∙ sym too)))

room_beside_same : (a b : Items) → SameItems a b → (i : ℕ) (is_pair : Bool) (r s : Room) (o p : Option Item) → option_map item_outline o ≡ option_map item_outline p
    → RoomBesideOf a i is_pair r o → RoomBesideOf b i is_pair s p → SameRooms r s
room_beside_same a b same i is_pair r s = in_both item_outline (λ o p. RoomBesideOf a i is_pair r o → RoomBesideOf b i is_pair s p → SameRooms r s)
    (room_alone_same a b same is_pair r s)
    (λ x y beside (ps, parted, one) (qs, too, other).
    let gaps = parted_same x.before y.before ps qs (ap (λ (e : EntryOutline). e.before) beside) parted too in
    beside_by_same a b same i ps qs r s gaps (begins_line ps) one (subst (λ k. BesideBy k b i qs s) (sym (begins_same ps qs gaps)) other))

room_for_same : (layout : Layout) (a b : Items) → SameItems a b → (i : ℕ) (is_pair : Bool) (r s : Room) → RoomFor layout a i is_pair r → RoomFor layout b i is_pair s → SameRooms r s
room_for_same layouts.Plain a b same i is_pair r s (g, space, one) (h, too, other) =
    subst₂ SameRooms (sym one) (sym other) (room_same a b same i g h (read_same g h (space ∙ sym too)))
room_for_same layouts.Follow a b same i is_pair r s one other =
    room_beside_same a b same i is_pair r s (beside a i) (beside b i)
    (got_same a b same (min i (length a.list - 1)) (min i (length b.list - 1)) (ap (λ n. min i (n - 1)) (count_same a b same))) one other

-- ---- put in

with_item_same : (a b : Items) → SameItems a b → (i : ℕ) (x y : Item) → item_outline x ≡ item_outline y → SameItems (with_item a i x) (with_item b i y)
with_item_same a b same i x y one = record {
  opening = same.opening;
  list = inserted_mapped item_outline a.list (min i (length a.list)) x
      ∙ ap₂ (λ l n. insert l (min i n) (item_outline x)) same.list (count_same a b same)
      ∙ ap (insert (map item_outline b.list) (min i (length b.list))) one
      ∙ sym (inserted_mapped item_outline b.list (min i (length b.list)) y);
  end = same.end;
}

pub putting_same : (layout : Layout) (i : ℕ) (own too : Option (Box Assign Global)) (v w : Value) (a b c d : Items) → PutsItem layout i own v a c
    → PutsItem layout i too w b d → option_map (λ k. assign k.value) own ≡ option_map (λ k. assign k.value) too → value v ≡ value w → SameItems a b → SameItems c d
putting_same layout i own too v w a b c d one other key new same =
    let pairs : is_some own ≡ is_some too = in_both (λ (k : Box Assign Global). assign k.value) (λ o p. is_some o ≡ is_some p) refl (λ x y k. refl) own too key in
    let rooms = room_for_same layout a b same i (is_some own) one.room other.room one.made (subst (λ k. RoomFor layout b i k other.room) (sym pairs) other.made) in
    let x : Item = record { before = one.room.before; assign = own; value = v; after = one.room.after } in
    let y : Item = record { before = other.room.before; assign = too; value = w; after = other.room.after } in
    subst₂ SameItems (sym one.now) (sym other.now)
    (with_item_same one.room.items other.room.items rooms.items i x y (outlines_same (item_outline x) (item_outline y) rooms.before key new rooms.after))
