-- All lines at an address and below it are taken out, slot by slot.
use Rattle.std.proofs.Common.{◌≡◌, ◌∙◌, inl, inr, ℕ, zero, suc, ◌+◌, ◌<◌, Bool, true, false, cond, ◌&&◌, ◌||◌, List, [], ◌∷◌, ◌++◌, length, get_or, set, take, drop, Option, Some, None, refl, ap, ap₂, sym, subst, arith, append_assoc, append-nil, length-set, true≢false}
use Rattle.std.specs.Prelude.{not, option_map, slice_get}
use Rattle.std.specs.List.{list_any}
use Rattle.std.proofs.Math.Bool.{or-false}
use Rattle.std.proofs.lemmas.Grind.{take-set_at}
use Rattle.std.proofs.lemmas.List.{drop_more, drop-set-lt, take-append-drop, take_more}
use Rattle.std.proofs.lemmas.List.Folds.{list_any-append}
use Rattle.std.proofs.lemmas.Option.{none-some, same_Some, slice_get-get_or}
use Rattle.toml_names.specs.model.Addresses.{Address}
use Rattle.toml_text.specs.Source.{text_of}
use Rattle.toml_tree.specs.Spells.{EachIs}
use Rattle.toml_layout.specs.Holders.{parent_of}
use Rattle.toml_layout.specs.declared.texts.Texts.{Texts}
use Rattle.toml_working.specs.declared.lines.Seen.{Seen}
use Rattle.toml_working.specs.declared.lines.Slot.{Slot}
use Rattle.toml_working.specs.declared.lines.Sought.TheVariants as sought
use Rattle.toml_working.specs.declared.working.Position.{Position}
use Rattle.toml_working.specs.FollowingHeaders.{is_header_line}
use Rattle.toml_working.specs.Parents.{IsParent}
use Rattle.toml_working.specs.RemoveStanding.{left_of_pair, makes, makes_beside}
use Rattle.toml_working.specs.RemovingBelow.{IsEnd, LeavesBelow, StaysBehindSlot, TellsLeft, is_later_line}
use Rattle.toml_working.specs.RemovingIn.{LeavesSlot, left_of_all, stays_behind, stays_past}
use Rattle.toml_working.specs.RemovingTables.{HeaderIsFirst, NoneBehindLater, StandInOneSection, is_root, keeps_parent, remove_below}
use Rattle.toml_working.specs.Seeing.{Found, IsSoughtAt, found, seen}
use Rattle.toml_working.specs.Standing.{Standing, Read, is_below, slot_standing, slots_standing}
use Rattle.toml_working.specs.Stands.{SlotKept, Stands}
use Rattle.toml_working.proofs.Alone.{any_or, item_split, split_within, standing_append}
use Rattle.toml_working.proofs.AtPlace.{slot_of}
use Rattle.toml_working.proofs.Each.{each_get, each_set}
use Rattle.toml_working.proofs.Removed.{behind_append, out_append}
use Rattle.toml_working.proofs.RemovedOne.{any_split, parent_is}
use Rattle.toml_working.proofs.Sectioned.{header_here}

-- ---- what is asked of lines

pub neither : (a b : Bool) → (a || b) ≡ false → (a ≡ false) × (b ≡ false)
neither true b h = absurd (true≢false h)
neither false b h = (refl, h)

-- of a line that is seen, as it stands
pub seen_tells : (test : Found → Bool) (o : Option Standing) (r : Option Seen) (x : Seen) (b : Bool) → option_map seen r ≡ option_map found o → r ≡ Some x
    → test (seen x) ≡ b → option_map (λ s. test (found s)) o ≡ Some b
seen_tells test None r x b h is told = absurd (none-some (seen x) (sym h ∙ ap (option_map seen) is))
seen_tells test (Some s) r x b h is told =
    let e : Some (found s) ≡ Some (seen x) = sym h ∙ ap (option_map seen) is in
    ap (option_map test) e ∙ ap Some told

pub any_at : {X : Type 0} (f : X → Bool) (xs : List X) (i : ℕ) → option_map f (slice_get xs i) ≡ Some true → list_any f xs ≡ true
any_at f [] i h = cc
any_at f (x ∷ xs) zero h = ap (λ b. b || list_any f xs) (same_Some (f x) true h)
any_at f (x ∷ xs) (suc i) h = ap (λ b. f x || b) (any_at f xs i h) ∙ any_or (f x)

-- ---- lines of which none goes

pub none_go : (p q : Address) (stays : Bool) (xs : List Standing) → list_any (is_below p) xs ≡ false
    → (left_of_all p q stays xs ≡ xs) × (stays_behind p q stays xs ≡ stays)
none_go p q stays [] h = (refl, refl)
none_go p q stays (x ∷ xs) h =
    let (here, behind) = neither (is_below p x) (list_any (is_below p) xs) h in
    let past : stays_past p q stays x ≡ stays = ap (λ b. stays || (b && makes q x.base x.address)) here ∙ or-false stays in
    let (more, same) = none_go p q stays xs behind in (
      ap₂ (λ b r. cond b (left_of_pair q (stays || not (makes q x.base x.address)) x) (x ∷ []) ++ r) here (ap (λ b. left_of_all p q b xs) past ∙ more),
      ap (λ b. stays_behind p q b xs) past ∙ same,
    )

-- ---- behind lines that tell it none goes

none_last : (p : Address) (xs ys : List Standing) → list_any (is_below p) (xs ++ ys) ≡ false → list_any (is_below p) ys ≡ false
none_last p xs ys h = (neither (list_any (is_below p) xs) (list_any (is_below p) ys) (sym (list_any-append (is_below p) xs ys) ∙ h)).1

none_within : (p : Address) (front : List Standing) (s : Standing) (back : List Standing) → list_any (is_below p) (front ++ s ∷ back) ≡ false → is_below p s ≡ false
none_within p front s back h = (neither (is_below p s) (list_any (is_below p) back) (none_last p front (s ∷ back) h)).0

pub ended : (p : Address) (flat met : Bool) (ahead own behind ss : List Standing) → ss ≡ ahead ++ (own ++ behind) → met ≡ list_any (is_below p) ahead
    → (flat ≡ true → StandInOneSection p ss) → NoneBehindLater p ss → IsEnd p flat met own → list_any (is_below p) behind ≡ false
ended p flat met ahead own behind ss is tells section later (inl end) =
    let (front, h, back, split, header) = any_split is_header_line own end.header in
    let all = split_within ahead front h back behind own ss is split in
    let some = list_any-append (is_below p) ahead front ∙ ap (λ b. b || list_any (is_below p) front) (sym tells ∙ end.is_met) in
    let other = none_within p front h back (sym (ap (list_any (is_below p)) split) ∙ end.none) in
    none_last p back behind (section end.is_flat (ahead ++ front) h (back ++ behind) all some header other)
ended p flat met ahead own behind ss is tells section later (inr begins) =
    let (front, h, back, split, header) = any_split (is_later_line p) own begins in
    let all = split_within ahead front h back behind own ss is split in
    none_last p back behind (later (ahead ++ front) h (back ++ behind) all header)

-- ---- slot by slot

module _ (texts : Texts) (read : Read) (p q : Address) (stays : Bool) where
  -- the slots before the one with the number are gone through, and the others are as they were
  pub record TakenTo (i : ℕ) (old now : List Slot) (own : Address) (then_stays met : Bool) : Type 0 where
    pub rest : drop i now ≡ drop i old
    pub long : length now ≡ length old
    pub own_is : own ≡ q
    pub kept : EachIs (SlotKept (text_of texts.source) read) now
    pub are : slots_standing read (take i now) ≡ left_of_all p q stays (slots_standing read (take i old))
    pub stands : then_stays ≡ stays_behind p q stays (slots_standing read (take i old))
    pub meets : met ≡ list_any (is_below p) (slots_standing read (take i old))

  pub begun : (i : ℕ) (old : List Slot) → EachIs (SlotKept (text_of texts.source) read) old
      → list_any (is_below p) (slots_standing read (take i old)) ≡ false → TakenTo i old old q stays false
  begun i old kept none =
      let (same, stood) = none_go p q stays (slots_standing read (take i old)) none in
      record { rest = refl; long = refl; own_is = refl; kept = kept; are = sym same; stands = sym stood; meets = sym none }

  -- one slot more
  front_more : (xs : List Slot) (x : Slot) → slots_standing read (xs ++ x ∷ []) ≡ slots_standing read xs ++ slot_standing read x
  front_more xs x = standing_append read xs (x ∷ []) ∙ ap (λ r. slots_standing read xs ++ r) (append-nil (slot_standing read x))

  pub record IsNextSlot (i : ℕ) (old now : List Slot) (x : Slot) : Type 0 where
    pub there : slice_get now i ≡ Some x
    pub first : take (i + 1) old ≡ take i old ++ x ∷ []
    pub last : drop (i + 1) now ≡ drop (i + 1) old

  pub next_slot : (i : ℕ) (old now : List Slot) (x : Slot) → drop i now ≡ drop i old → length now ≡ length old → i < length now → x ≡ get_or now i x
      → IsNextSlot i old now x
  next_slot i old now x rest long low is =
      let low_old : i < length old = omega arith in
      let one : drop i now ≡ get_or now i x ∷ drop (i + 1) now = drop_more now i x low in
      let other : drop i old ≡ get_or old i x ∷ drop (i + 1) old = drop_more old i x low_old in
      let same : get_or old i x ≡ x = cc in
      record {
        there = slice_get-get_or now i x low ∙ ap Some (sym is);
        first = take_more old i x low_old ∙ ap (λ s. take i old ++ s ∷ []) same;
        last = cc;
      }

  pub taken_on : (i : ℕ) (old now : List Slot) (x y : Slot) (own next : Address) (then_stays next_stays met next_met : Bool)
      → TakenTo i old now own then_stays met → i < length now → x ≡ get_or now i x → next ≡ own
      → next_met ≡ (met || list_any (is_below p) (slot_standing read x)) → LeavesSlot texts read p own then_stays x y
      → StaysBehindSlot texts read p own then_stays next_stays x → TakenTo (i + 1) old (set now i y) next next_stays next_met
  taken_on i old now x y own next then_stays next_stays met next_met h low is same_own meets leaves stood =
      let here = next_slot i old now x h.rest h.long low is in
      let kept_x = each_get (SlotKept (text_of texts.source) read) now i x h.kept here.there in
      let (kept_y, left) = leaves kept_x in
      let A = slots_standing read (take i old) in
      let X = slot_standing read x in
      let all : slots_standing read (take (i + 1) old) ≡ A ++ X = ap (slots_standing read) here.first ∙ front_more (take i old) x in
      record {
        rest = drop-set-lt (i + 1) now i y (omega arith) ∙ here.last;
        long = length-set now i y ∙ h.long;
        own_is = same_own ∙ h.own_is;
        kept = each_set (SlotKept (text_of texts.source) read) now i y h.kept kept_y;
        are = ap (slots_standing read) (take-set_at now i (i + 1) y refl low) ∙ front_more (take i now) y
            ∙ ap₂ (λ a b. a ++ b) h.are (left ∙ ap₂ (λ a b. left_of_all p a b X) h.own_is h.stands)
            ∙ sym (out_append p q stays A X) ∙ ap (left_of_all p q stays) (sym all);
        stands = stood kept_x ∙ ap₂ (λ a b. stays_behind p a b X) h.own_is h.stands ∙ sym (behind_append p q stays A X)
            ∙ ap (stays_behind p q stays) (sym all);
        meets = meets ∙ ap (λ b. b || list_any (is_below p) X) h.meets ∙ sym (list_any-append (is_below p) A X)
            ∙ ap (list_any (is_below p)) (sym all);
      }

  pub taken_as : (i : ℕ) (old made now : List Slot) (next own : Address) (next_stays then_stays next_met met : Bool)
      → TakenTo i old made next next_stays next_met → now ≡ made → own ≡ next → then_stays ≡ next_stays → met ≡ next_met
      → TakenTo i old now own then_stays met
  taken_as i old made now next own next_stays then_stays next_met met h made_is own_is stays_is met_is = record {
    rest = ap (drop i) made_is ∙ h.rest;
    long = ap length made_is ∙ h.long;
    own_is = own_is ∙ h.own_is;
    kept = subst (EachIs (SlotKept (text_of texts.source) read)) (sym made_is) h.kept;
    are = ap (λ xs. slots_standing read (take i xs)) made_is ∙ h.are;
    stands = stays_is ∙ h.stands;
    meets = met_is ∙ h.meets;
  }

  -- where none of the others has a line that goes, all are gone through
  pub taken_all : (i : ℕ) (old now : List Slot) (own : Address) (then_stays met : Bool) (ss : List Standing) → TakenTo i old now own then_stays met
      → slots_standing read old ≡ ss → list_any (is_below p) (slots_standing read (drop i old)) ≡ false
      → Stands (text_of texts.source) read now (left_of_all p q stays ss)
  taken_all i old now own then_stays met ss h are none =
      let A = slots_standing read (take i old) in
      let R = slots_standing read (drop i old) in
      let all : slots_standing read old ≡ A ++ R = ap (slots_standing read) (sym (take-append-drop i old)) ∙ standing_append read (take i old) (drop i old) in
      record {
        kept = h.kept;
        are = ap (slots_standing read) (sym (take-append-drop i now)) ∙ standing_append read (take i now) (drop i now)
            ∙ ap₂ (λ a b. a ++ b) h.are (ap (slots_standing read) h.rest ∙ sym (none_go p q (stays_behind p q stays A) R none).0)
            ∙ sym (out_append p q stays A R) ∙ ap (left_of_all p q stays) (sym all ∙ are);
      }

  -- so it is behind a slot that tells it
  pub taken_to_end : (flat : Bool) (i : ℕ) (old now : List Slot) (x y : Slot) (own next : Address) (then_stays next_stays met next_met : Bool) (ss : List Standing)
      → TakenTo i old now own then_stays met → i < length now → x ≡ get_or now i x → next ≡ own
      → next_met ≡ (met || list_any (is_below p) (slot_standing read x)) → LeavesSlot texts read p own then_stays x y
      → StaysBehindSlot texts read p own then_stays next_stays x → slots_standing read old ≡ ss → (flat ≡ true → StandInOneSection p ss)
      → NoneBehindLater p ss → IsEnd p flat met (slot_standing read x) → Stands (text_of texts.source) read (set now i y) (left_of_all p q stays ss)
  taken_to_end flat i old now x y own next then_stays next_stays met next_met ss h low is same_own meets leaves stood are section later end =
      let here = next_slot i old now x h.rest h.long low is in
      let A = slots_standing read (take i old) in
      let X = slot_standing read x in
      let R = slots_standing read (drop (i + 1) old) in
      let all : ss ≡ A ++ (X ++ R) =
      sym are ∙ ap (slots_standing read) (sym (take-append-drop (i + 1) old)) ∙ standing_append read (take (i + 1) old) (drop (i + 1) old)
      ∙ ap (λ r. r ++ R) (ap (slots_standing read) here.first ∙ front_more (take i old) x) ∙ append_assoc A X R in
      taken_all (i + 1) old (set now i y) next next_stays next_met ss
      (taken_on i old now x y own next then_stays next_stays met next_met h low is same_own meets leaves stood) are
      (ended p flat met A X R ss all h.meets section later end)

-- a slot without such a line stays
pub slot_without : (texts : Texts) (read : Read) (p q : Address) (stays : Bool) (slot : Slot) → list_any (is_below p) (slot_standing read slot) ≡ false
    → LeavesSlot texts read p q stays slot slot × StaysBehindSlot texts read p q stays stays slot
slot_without texts read p q stays slot none =
    let (same, stood) = none_go p q stays (slot_standing read slot) none in
    ((λ kept. (kept, sym same)), (λ kept. sym stood))

-- ---- where the first of them stands

taken_split : (read : Read) (slots : List Slot) (k : ℕ) (slot : Slot) → slice_get slots k ≡ Some slot
    → (back : List Standing) × (slots_standing read slots ≡ slots_standing read (take k slots) ++ (slot_standing read slot ++ back))
taken_split read [] k slot h = cc
taken_split read (x ∷ xs) zero slot h = let e : x ≡ slot = cc in (slots_standing read xs, ap (λ y. slot_standing read y ++ slots_standing read xs) e)
taken_split read (x ∷ xs) (suc k) slot h =
    let (back, is) = taken_split read xs k slot h in
    let own = slot_standing read x in
    (back, ap (λ r. own ++ r) is ∙ sym (append_assoc own (slots_standing read (take k xs)) (slot_standing read slot ++ back)))

pub below_first : (p : Address) (read : Read) (slots : List Slot) (at : Position) → IsSoughtAt sought.Header p read slots at
    → HeaderIsFirst p (slots_standing read slots) → list_any (is_below p) (slots_standing read (take at.slot slots)) ≡ false
below_first p read slots at found first =
    let (h, there, heads) = header_here p read slots at found in
    let (slot, slot_is, own_is) = slot_of read slots at h there in
    let (behind, all) = taken_split read slots at.slot slot slot_is in
    let (front, back, own, new) = item_split (slot_standing read slot) at.index h own_is in
    let ahead = slots_standing read (take at.slot slots) in
    let split = split_within ahead front h back behind (slot_standing read slot) (slots_standing read slots) all own in
    (neither (list_any (is_below p) ahead) (list_any (is_below p) front)
    (sym (list_any-append (is_below p) ahead front) ∙ first (ahead ++ front) h (back ++ behind) split heads)).0

-- ---- on a tree

pub all_left : (p q : Address) (texts : Texts) (read : Read) (flat : Bool) (first : ℕ) (stays : Bool) (old now : List Slot) → IsParent p q
    → TellsLeft p read.units old q stays → LeavesBelow texts read p flat first q stays old now → ¬ (p ≡ []) → (ss : List Standing)
    → Stands (text_of texts.source) read old ss → list_any (is_below p) (slots_standing read (take first old)) ≡ false
    → (flat ≡ true → StandInOneSection p ss) → NoneBehindLater p ss → Stands (text_of texts.source) read now (remove_below p ss)
all_left p q texts read flat first stays old now parent tells leaves not_root ss stands none section later =
    let right : parent_of p ≡ q = by parent in
    let told : stays ≡ keeps_parent p ss =
    tells read.lines ∙ ap₂ (λ a xs. is_root a || list_any (makes_beside a p) xs) (sym right) stands.are in
    subst (λ xs. Stands (text_of texts.source) read now xs) (ap₂ (λ a b. left_of_all p a b ss) (sym right) told) (leaves ss stands none section later)
  where
    by : IsParent p q → parent_of p ≡ q
    by (inl root) = absurd (not_root root)
    by (inr (last, is)) = ap parent_of is ∙ parent_is q last
