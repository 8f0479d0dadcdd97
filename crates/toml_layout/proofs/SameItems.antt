-- Items that read alike: where one is taken out of them by a layout, what is left reads alike.
use Rattle.std.proofs.Common.{◌≡◌, ◌∙◌, ◌-◌, ℕ, zero, suc, cond, List, ◌++◌, Option, Some, None, length, map, set, refl, ap, ap₂, sym, subst₂}
use Rattle.std.proofs.lemmas.List.{length-map, map-set}
use Rattle.std.proofs.lemmas.Option.{none-some, same_Some, slice_get-map}
use Rattle.std.specs.List.{remove}
use Rattle.std.specs.Prelude.{option_map, slice_get}
use Rattle.toml_layout.specs.declared.layout.Layout.{Layout}
use Rattle.toml_layout.specs.declared.layout.Layout.TheVariants as layouts
use Rattle.toml_layout.specs.declared.tree.GapPart.{GapPart}
use Rattle.toml_layout.specs.Gaps.{Beside, are_ws, is_none}
use Rattle.toml_layout.specs.Items.{Item, Items, last_item, with_after, with_before, with_end}
use Rattle.toml_layout.specs.Leaving.{Remains, what_is_left}
use Rattle.toml_layout.specs.OpenOutlines.{EntryOutline, assign, leaf_text, parts_read, value}
use Rattle.toml_layout.specs.PartOutlines.{outlined}
use Rattle.toml_layout.specs.Parts.{PartOutline}
use Rattle.toml_layout.specs.Takings.{ClosedIf, ClosesUp, StandsBeside, TakesOne, around_item, closed, followed, gap_behind, item_above, put_above, put_behind, put_left, taken_by, taken_if, without}
use Rattle.toml_layout.proofs.SameLeft.{SameBeside, left_outline, left_same}
use Rattle.toml_layout.proofs.SameParts.{parted_same, parted_same_if, read_joined, read_same, read_ws_same, same_cond}
use Rattle.toml_layout.proofs.TakenParts.{removed_mapped}

-- an item, by what an entry reads
abbrev pub item_outline : Item → EntryOutline
item_outline it = record {
  before = parts_read it.before;
  assign = option_map (λ a. assign a.value) it.assign;
  value = value it.value;
  after = parts_read it.after;
}

pub record SameItems (a b : Items) : Type 0 where
  pub opening : leaf_text a.opening ≡ leaf_text b.opening
  pub list : map item_outline a.list ≡ map item_outline b.list
  pub end : option_map parts_read a.end ≡ option_map parts_read b.end

-- where two may be there that a function tells alike, both are or none
pub in_both : {A B : Type 0} (f : A → B) (P : Option A → Option A → Type 0) → P None None → ((x y : A) → f x ≡ f y → P (Some x) (Some y))
    → (o p : Option A) → option_map f o ≡ option_map f p → P o p
in_both f P none some None None same = none
in_both f P none some None (Some y) same = absurd (none-some (f y) same)
in_both f P none some (Some x) None same = absurd (none-some (f x) (sym same))
in_both f P none some (Some x) (Some y) same = some x y (same_Some (f x) (f y) same)

-- ---- gaps

pub read_if_same : (o p : Option (List GapPart)) → option_map outlined o ≡ option_map outlined p → option_map parts_read o ≡ option_map parts_read p
read_if_same = in_both outlined (λ o p. option_map parts_read o ≡ option_map parts_read p) refl (λ x y same. ap Some (read_same x y same))

pub joined_reads : (ps qs rs ss : List GapPart) → parts_read ps ≡ parts_read qs → parts_read rs ≡ parts_read ss → parts_read (ps ++ rs) ≡ parts_read (qs ++ ss)
joined_reads ps qs rs ss one other = read_joined ps rs ∙ ap₂ ◌++◌ one other ∙ sym (read_joined qs ss)

around_same : (x y : Item) → item_outline x ≡ item_outline y → parts_read (around_item x) ≡ parts_read (around_item y)
around_same x y same =
    joined_reads x.before y.before x.after y.after (ap (λ (o : EntryOutline). o.before) same) (ap (λ (o : EntryOutline). o.after) same)

followed_same : (ps qs rs ss : List GapPart) → parts_read ps ≡ parts_read qs → parts_read rs ≡ parts_read ss
    → parts_read (followed ps rs) ≡ parts_read (followed qs ss)
followed_same ps qs rs ss one other =
    same_cond parts_read (are_ws rs) (are_ws ss) ps qs (ps ++ rs) (qs ++ ss) (read_ws_same rs ss other) one (joined_reads ps qs rs ss one other)

closed_same : (a b : List GapPart) (x y : Item) → parts_read a ≡ parts_read b → item_outline x ≡ item_outline y
    → parts_read (closed a x.before x.after) ≡ parts_read (closed b y.before y.after)
closed_same a b x y above same =
    let before = ap (λ (o : EntryOutline). o.before) same in
    joined_reads (cond (are_ws x.before) a (a ++ x.before)) (cond (are_ws y.before) b (b ++ y.before)) x.after y.after
    (same_cond parts_read (are_ws x.before) (are_ws y.before) a b (a ++ x.before) (b ++ y.before) (read_ws_same x.before y.before before) above
    (joined_reads a b x.before y.before above before))
    (ap (λ (o : EntryOutline). o.after) same)

-- ---- items

pub count_same : (a b : Items) → SameItems a b → length a.list ≡ length b.list
count_same a b same = sym (length-map a.list item_outline) ∙ ap length same.list ∙ length-map b.list item_outline

pub got_same : (a b : Items) → SameItems a b → (i j : ℕ) → i ≡ j → option_map item_outline (slice_get a.list i) ≡ option_map item_outline (slice_get b.list j)
got_same a b same i j at =
    sym (slice_get-map item_outline a.list i) ∙ ap₂ slice_get same.list at ∙ slice_get-map item_outline b.list j

pub last_same : (a b : Items) → SameItems a b → option_map item_outline (last_item a) ≡ option_map item_outline (last_item b)
last_same a b same = got_same a b same (length a.list - 1) (length b.list - 1) (ap (λ n. n - 1) (count_same a b same))

pub before_same : (a b : Items) (i : ℕ) (x y : Item) (g h : List GapPart) → SameItems a b → item_outline x ≡ item_outline y → parts_read g ≡ parts_read h
    → SameItems (with_before a i x g) (with_before b i y h)
before_same a b i x y g h same one gap = record {
  opening = same.opening;
  list = map-set item_outline a.list i (record x { before = g })
      ∙ ap₂ (λ l e. set l i e) same.list
      (ap (λ (o : EntryOutline). record o { before = parts_read g }) one ∙ ap (λ r. record (item_outline y) { before = r }) gap)
      ∙ sym (map-set item_outline b.list i (record y { before = h }));
  end = same.end;
}

pub after_same : (a b : Items) (i j : ℕ) (x y : Item) (g h : List GapPart) → SameItems a b → i ≡ j → item_outline x ≡ item_outline y
    → parts_read g ≡ parts_read h → SameItems (with_after a i x g) (with_after b j y h)
after_same a b i j x y g h same at one gap = record {
  opening = same.opening;
  list = map-set item_outline a.list i (record x { after = g })
      ∙ ap₂ (λ l e. set l i e) same.list
      (ap (λ (o : EntryOutline). record o { after = parts_read g }) one ∙ ap (λ r. record (item_outline y) { after = r }) gap)
      ∙ ap (λ k. set (map item_outline b.list) k (item_outline (record y { after = h }))) at
      ∙ sym (map-set item_outline b.list j (record y { after = h }));
  end = same.end;
}

pub end_same : (a b : Items) (g h : Option (List GapPart)) → SameItems a b → option_map parts_read g ≡ option_map parts_read h
    → SameItems (with_end a g) (with_end b h)
end_same a b g h same gap = record { opening = same.opening; list = same.list; end = gap }

without_same : (a b : Items) (i : ℕ) → SameItems a b → SameItems (without a i) (without b i)
without_same a b i same = record {
  opening = same.opening;
  list = removed_mapped item_outline a.list i ∙ ap (λ l. remove l i) same.list ∙ sym (removed_mapped item_outline b.list i);
  end = same.end;
}

-- ---- one goes by layout `Plain`

module _ (a b : Items) (same : SameItems a b) (i : ℕ) (x y : Item) (goes : item_outline x ≡ item_outline y) where
  last_left : (k l : Option Item) → option_map item_outline k ≡ option_map item_outline l → SameItems (taken_by a i x None None k) (taken_by b i y None None l)
  last_left = in_both item_outline (λ k l. SameItems (taken_by a i x None None k) (taken_by b i y None None l))
      (end_same a b (Some (around_item x)) (Some (around_item y)) same (ap Some (around_same x y goes)))
      (λ u v one. after_same a b (length a.list - 1) (length b.list - 1) u v (closed u.after x.before x.after) (closed v.after y.before y.after) same
      (ap (λ n. n - 1) (count_same a b same)) one (closed_same u.after v.after x y (ap (λ (o : EntryOutline). o.after) one) goes))

  end_left : (k l : Option Item) → option_map item_outline k ≡ option_map item_outline l → (g h : Option (List GapPart))
      → option_map parts_read g ≡ option_map parts_read h → SameItems (taken_by a i x None g k) (taken_by b i y None h l)
  end_left k l last = in_both parts_read (λ g h. SameItems (taken_by a i x None g k) (taken_by b i y None h l)) (last_left k l last)
      (λ g h gap. end_same a b (Some (followed (around_item x) g)) (Some (followed (around_item y) h)) same
      (ap Some (followed_same (around_item x) (around_item y) g h (around_same x y goes) gap)))

  next_left : (o p : Option Item) → option_map item_outline o ≡ option_map item_outline p
      → SameItems (taken_by a i x o a.end (last_item a)) (taken_by b i y p b.end (last_item b))
  next_left = in_both item_outline (λ o p. SameItems (taken_by a i x o a.end (last_item a)) (taken_by b i y p b.end (last_item b)))
      (end_left (last_item a) (last_item b) (last_same a b same) a.end b.end same.end)
      (λ u v one. before_same a b i u v (followed (around_item x) u.before) (followed (around_item y) v.before) same one
      (followed_same (around_item x) (around_item y) u.before v.before (around_same x y goes) (ap (λ (o : EntryOutline). o.before) one)))

taken_same : (a b : Items) → SameItems a b → (i : ℕ) (o p : Option Item) → option_map item_outline o ≡ option_map item_outline p
    → SameItems (taken_if a i o) (taken_if b i p)
taken_same a b same i = in_both item_outline (λ o p. SameItems (taken_if a i o) (taken_if b i p)) same
    (λ x y goes. next_left (without a i) (without b i) (without_same a b i same) i x y goes (slice_get (without a i).list i) (slice_get (without b i).list i)
    (got_same (without a i) (without b i) (without_same a b i same) i i refl))

-- ---- one goes by layout `Follow`

pub above_same : (a b : Items) → SameItems a b → (i : ℕ) → option_map item_outline (item_above a i) ≡ option_map item_outline (item_above b i)
above_same a b same zero = refl
above_same a b same (suc i) = got_same a b same i i refl

module _ (a b : Items) (same : SameItems a b) (i : ℕ) where
  above_put : (g h : Option (List GapPart)) → option_map parts_read g ≡ option_map parts_read h
      → SameItems (put_above a i (item_above a i) g) (put_above b i (item_above b i) h)
  above_put = in_both parts_read (λ g h. SameItems (put_above a i (item_above a i) g) (put_above b i (item_above b i) h)) same
      (λ g h gap. in_both item_outline (λ o p. SameItems (put_above a i o (Some g)) (put_above b i p (Some h))) same
      (λ x y one. after_same a b (i - 1) (i - 1) x y g h same refl one gap) (item_above a i) (item_above b i) (above_same a b same i))

  behind_put : (g h : Option (List GapPart)) → option_map parts_read g ≡ option_map parts_read h
      → SameItems (put_behind a i (slice_get a.list i) g) (put_behind b i (slice_get b.list i) h)
  behind_put g h gap = in_both item_outline (λ o p. SameItems (put_behind a i o g) (put_behind b i p h)) (end_same a b g h same gap)
      (λ x y one. in_both parts_read (λ (k l : Option (List GapPart)). SameItems (put_behind a i (Some x) k) (put_behind b i (Some y) l)) same
      (λ k l at. before_same a b i x y k l same one at) g h gap)
      (slice_get a.list i) (slice_get b.list i) (got_same a b same i i refl)

left_put : (a b : Items) → SameItems a b → (i : ℕ) (r s : Remains) → left_outline r ≡ left_outline s → SameItems (put_left a i r) (put_left b i s)
left_put a b same i r s left =
    let above = above_put a b same i r.above s.above (read_if_same r.above s.above (ap (λ (o : Option (List PartOutline) × Option (List PartOutline)). o.0) left)) in
    behind_put (put_above a i (item_above a i) r.above) (put_above b i (item_above b i) s.above) above i r.behind s.behind
    (read_if_same r.behind s.behind (ap (λ (o : Option (List PartOutline) × Option (List PartOutline)). o.1) left))

none_same : (o p : Option Item) → option_map item_outline o ≡ option_map item_outline p → is_none o ≡ is_none p
none_same = in_both item_outline (λ o p. is_none o ≡ is_none p) refl (λ x y same. refl)

above_reads : (o p : Option Item) → option_map item_outline o ≡ option_map item_outline p
    → option_map parts_read (option_map (λ (x : Item). x.after) o) ≡ option_map parts_read (option_map (λ (x : Item). x.after) p)
above_reads = in_both item_outline
    (λ o p. option_map parts_read (option_map (λ (x : Item). x.after) o) ≡ option_map parts_read (option_map (λ (x : Item). x.after) p)) refl
    (λ x y same. ap Some (ap (λ (o : EntryOutline). o.after) same))

behind_reads : (g h : Option (List GapPart)) → option_map parts_read g ≡ option_map parts_read h → (o p : Option Item)
    → option_map item_outline o ≡ option_map item_outline p → option_map parts_read (gap_behind o g) ≡ option_map parts_read (gap_behind p h)
behind_reads g h end = in_both item_outline (λ o p. option_map parts_read (gap_behind o g) ≡ option_map parts_read (gap_behind p h)) end
    (λ x y same. ap Some (ap (λ (o : EntryOutline). o.before) same))

beside_same : (a b : Items) → SameItems a b → (i : ℕ) (x y : Item) → item_outline x ≡ item_outline y → (k l : Beside) → StandsBeside a i x.before x.after k
    → StandsBeside b i y.before y.after l → SameBeside k l
beside_same a b same i x y goes k l one other = record {
  above = parted_same_if (option_map (λ (u : Item). u.after) (item_above a i)) (option_map (λ (u : Item). u.after) (item_above b i)) k.above l.above
      (above_reads (item_above a i) (item_above b i) (above_same a b same i)) one.above other.above;
  before = parted_same x.before y.before k.before l.before (ap (λ (o : EntryOutline). o.before) goes) one.own other.own;
  after = parted_same x.after y.after k.after l.after (ap (λ (o : EntryOutline). o.after) goes) one.own_end other.own_end;
  behind = parted_same_if (gap_behind (slice_get a.list i) a.end) (gap_behind (slice_get b.list i) b.end) k.behind l.behind
      (behind_reads a.end b.end same.end (slice_get a.list i) (slice_get b.list i) (got_same a b same i i refl)) one.behind other.behind;
  is_last = one.is_last ∙ none_same (slice_get a.list i) (slice_get b.list i) (got_same a b same i i refl) ∙ sym other.is_last;
}

closes_same : (a b c d : Items) → SameItems a b → (i : ℕ) (x y : Item) → item_outline x ≡ item_outline y → ClosesUp a i x.before x.after c
    → ClosesUp b i y.before y.after d → SameItems c d
closes_same a b c d same i x y goes one other =
    subst₂ SameItems (sym one.now) (sym other.now)
    (left_put a b same i (what_is_left one.beside) (what_is_left other.beside)
    (left_same one.beside other.beside (beside_same a b same i x y goes one.beside other.beside one.stands other.stands)))

closed_if_same : (a b c d : Items) → SameItems a b → (i : ℕ) (o p : Option Item) → option_map item_outline o ≡ option_map item_outline p → ClosedIf a i c o → ClosedIf b i d p
    → SameItems c d
closed_if_same a b c d same i = in_both item_outline (λ o p. ClosedIf a i c o → ClosedIf b i d p → SameItems c d)
    (λ one other. subst₂ SameItems (sym one) (sym other) same)
    (λ x y goes one other. closes_same (without a i) (without b i) c d (without_same a b i same) i x y goes one other)

-- ---- in a layout

pub taking_same : (layout : Layout) (i : ℕ) (a b c d : Items) → TakesOne layout i a c → TakesOne layout i b d → SameItems a b → SameItems c d
taking_same layouts.Plain i a b c d one other same =
    subst₂ SameItems (sym one) (sym other) (taken_same a b same i (slice_get a.list i) (slice_get b.list i) (got_same a b same i i refl))
taking_same layouts.Follow i a b c d one other same =
    closed_if_same a b c d same i (slice_get a.list i) (slice_get b.list i) (got_same a b same i i refl) one other
