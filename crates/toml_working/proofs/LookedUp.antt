-- The lines above a place, gone through from there up.
use Rattle.std.proofs.Common.{◌≡◌, ◌∙◌, ◌↔◌, ◌⊎◌, inl, inr, ℕ, zero, suc, ◌+◌, ◌-◌, ◌<◌, ◌≤◌, ◌==◌, Bool, true, false, cond, List, [], ◌∷◌, ◌++◌, length, Option, Some, None, IsTrue, refl, ap, ap₂, sym, subst, arith, append_assoc, append-nil, true≢false}
use Rattle.std.specs.Prelude.{is_some, option_and_then, option_map, slice_get}
use Rattle.std.specs.Str.{bytes_eq}
use Rattle.std.proofs.lemmas.Bool.{eqb-true}
use Rattle.std.proofs.lemmas.List.{take_all}
use Rattle.std.proofs.lemmas.Option.{none-some, same_Some, slice_get_within}
use Rattle.toml_names.specs.model.Addresses.{Address}
use Rattle.toml_tree.specs.Tree as tree
use Rattle.toml_units.specs.declared.unit.Unit.{Unit as ReadUnit}
use Rattle.toml_working.specs.declared.lines.Seen.{Seen}
use Rattle.toml_working.specs.declared.lines.Slot.{Slot}
use Rattle.toml_working.specs.declared.working.Position.{Position}
use Rattle.toml_working.specs.FirstKeys.{like_before, fits_behind, found_behind, last_like}
use Rattle.toml_working.specs.InsertStanding.{spaced_by, spacing_of}
use Rattle.toml_layout.specs.Looks.{equals_in}
use Rattle.toml_working.specs.LookingUp.{CountsLines, GoesUp, GoesUpLine, GoesUpSlot, GoneUp, IsLikeAt, IsInSlot, IsPlaceOfLine, line_or, last_pair_from}
use Rattle.toml_working.specs.Placing.{IsPair, is_header, lines_before}
use Rattle.toml_working.specs.Seeing.{SeesAt, found, line_at, read_by, seen}
use Rattle.toml_working.specs.Standing.{Standing, Read, slot_standing}
use Rattle.toml_working.proofs.AtPlace.{slot_of}
use Rattle.toml_working.proofs.Put.{stays_so}

-- ---- what is found

either_way : (fits : Bool) (o : Option Standing) → cond fits (line_or None o) o ≡ o
either_way true o = refl
either_way false o = refl

still_first : (line : Option Standing) (s : Standing) (found : Option Standing) → line_or line (Some s) ≡ line_or (line_or line (Some s)) found
still_first None s found = refl
still_first (Some t) s found = refl

-- what lines in front come to
split_alike : (ws : List ℕ) (front : List Standing) (fits : Bool) (found : Option Standing)
    → (here : Bool) × (so_far : Option Standing) × ((back : List Standing) → last_like ws fits found (front ++ back) ≡ last_like ws here so_far back)
split_alike ws [] fits found = (fits, found, λ back. refl)
split_alike ws (s ∷ front) fits found = split_alike ws front (fits_behind fits (bytes_eq s.outline.ws ws) s.base s.address) (found_behind fits found s s.base)

module _ (ws : List ℕ) (read : Read) (slots : List Slot) (all above : List Standing) (s : Standing) (last : Option Position)
    (up : GoneUp ws read slots all (above ++ s ∷ []) last) where
  one_more : all ≡ above ++ s ∷ up.passed
  one_more = up.is ∙ append_assoc above (s ∷ []) up.passed

  -- a line that is no header
  pub past_line : (at : Position) → line_at read slots at ≡ Some s → is_header s.base s.address ≡ false → GoneUp ws read slots all above (last_pair_from s.base at last)
  past_line at there head = by s.base refl s.address refl head
    where
      by : (base : Option ℕ) → s.base ≡ base → (own : Option Address) → s.address ≡ own → is_header base own ≡ false
          → GoneUp ws read slots all above (last_pair_from base at last)
      by (Some n) is own own_is not = record {
        passed = s ∷ up.passed;
        is = one_more;
        line = line_or up.line (Some s);
        there = place last up.there;
        so_far = λ fits found.
            ap₂ (λ b f. last_like ws b f up.passed)
            (ap₂ (fits_behind fits (bytes_eq s.outline.ws ws)) is own_is)
            (ap (found_behind fits found s) is)
            ∙ up.so_far fits (cond fits (Some s) found)
            ∙ chosen fits found;
      }
        where
          place : (o : Option Position) → IsPlaceOfLine read slots up.line o → IsPlaceOfLine read slots (line_or up.line (Some s)) (last_pair_from (Some n) at o)
          place None none = (s, there, ap (λ l. line_or l (Some s)) none)
          place (Some p) (t, here, line_is) = (t, here, ap (λ l. line_or l (Some s)) line_is)

          chosen : (fits : Bool) (found : Option Standing)
              → cond fits (line_or up.line (cond fits (Some s) found)) (cond fits (Some s) found) ≡ cond fits (line_or (line_or up.line (Some s)) found) found
          chosen true found = still_first up.line s found
          chosen false found = refl
      by None is None own_is not = record {
        passed = s ∷ up.passed;
        is = one_more;
        line = up.line;
        there = place last up.there;
        so_far = λ fits found.
            ap₂ (λ b f. last_like ws b f up.passed)
            (ap₂ (fits_behind fits (bytes_eq s.outline.ws ws)) is own_is)
            (ap (found_behind fits found s) is)
            ∙ up.so_far fits found;
      }
        where
          place : (o : Option Position) → IsPlaceOfLine read slots up.line o → IsPlaceOfLine read slots up.line (last_pair_from None at o)
          place None none = none
          place (Some p) here = here
      by None is (Some a) own_is not = cc

  -- behind a header
  header_alike : is_header s.base s.address ≡ true → (fits : Bool) (found : Option Standing)
      → last_like ws fits found (s ∷ up.passed) ≡ cond (bytes_eq s.outline.ws ws) (line_or up.line found) found
  header_alike head fits found = by s.base refl s.address refl head
    where
      by : (base : Option ℕ) → s.base ≡ base → (own : Option Address) → s.address ≡ own → is_header base own ≡ true
          → last_like ws fits found (s ∷ up.passed) ≡ cond (bytes_eq s.outline.ws ws) (line_or up.line found) found
      by (Some n) is own own_is h = cc
      by None is None own_is h = cc
      by None is (Some a) own_is h =
          ap₂ (λ b f. last_like ws b f up.passed)
          (ap₂ (fits_behind fits (bytes_eq s.outline.ws ws)) is own_is)
          (ap (found_behind fits found s) is)
          ∙ up.so_far (bytes_eq s.outline.ws ws) found

  -- the header of the section that is looked for
  pub found_up : is_header s.base s.address ≡ true → bytes_eq s.outline.ws ws ≡ true → (at : Position) → last ≡ Some at → IsLikeAt ws read slots all at
  found_up head same at is =
      let (t, there, line_is) = subst (IsPlaceOfLine read slots up.line) is up.there in (
        t,
        there,
        λ fits found.
            let (here, so_far, parts) = split_alike ws above fits found in
            ap (last_like ws fits found) one_more ∙ parts (s ∷ up.passed) ∙ header_alike head here so_far
            ∙ ap (λ b. cond b (line_or up.line so_far) so_far) same ∙ ap (λ l. line_or l so_far) line_is,
      )

-- ---- a slot

before_line : (read : Read) (slots : List Slot) (k i : ℕ) (slot : Slot) → slice_get slots k ≡ Some slot → i < length (slot_standing read slot)
    → (s : Standing) × (slice_get (slot_standing read slot) i ≡ Some s)
before_line read slots k i slot there low = at (slot_standing read slot) i low
  where
    at : (ss : List Standing) (n : ℕ) → n < length ss → (s : Standing) × (slice_get ss n ≡ Some s)
    at [] n low = absurd (omega (arith, low))
    at (s ∷ ss) zero low = (s, refl)
    at (s ∷ ss) (suc n) low = at ss n (omega (arith, low))

-- the line of a slot with the index
pub line_there : (read : Read) (slots : List Slot) (at : Position) (inside : IsInSlot read slots at) (i : ℕ) → i < at.index
    → (s : Standing) × (line_at read slots (record { slot = at.slot; index = i }) ≡ Some s)
line_there read slots at inside i low =
    let (s, is) = before_line read slots at.slot i inside.slot inside.there (let h = inside.low in omega (arith, low, h)) in
    (s, ap (option_and_then (λ (x : Slot). slice_get (slot_standing read x) i)) inside.there ∙ is)

-- all lines of a slot stand before the next one
pub before_slot : (read : Read) (slots : List Slot) (k : ℕ) (slot : Slot) → slice_get slots k ≡ Some slot
    → lines_before read slots (k + 1) 0 ≡ lines_before read slots k (length (slot_standing read slot))
before_slot read [] k slot there = cc
before_slot read (x ∷ []) zero slot there =
    let e : slot ≡ x = cc in
    append-nil (slot_standing read x) ∙ sym (take_all (length (slot_standing read slot)) (slot_standing read x) (let h : length (slot_standing read slot) ≡ length (slot_standing read x) = ap (λ y. length (slot_standing read y)) e in omega (arith, h)))
before_slot read (x ∷ y ∷ xs) zero slot there =
    let e : slot ≡ x = cc in
    append-nil (slot_standing read x) ∙ sym (take_all (length (slot_standing read slot)) (slot_standing read x) (let h : length (slot_standing read slot) ≡ length (slot_standing read x) = ap (λ y. length (slot_standing read y)) e in omega (arith, h)))
before_slot read (x ∷ xs) (suc k) slot there =
    ap (λ n. lines_before read (x ∷ xs) n 0) (let e : suc k + 1 ≡ suc (k + 1) = omega arith in e) ∙ ap (λ r. slot_standing read x ++ r) (before_slot read xs k slot there)

pub before_first : (read : Read) (slots : List Slot) → lines_before read slots 0 0 ≡ []
before_first read [] = refl
before_first read (x ∷ xs) = refl

-- ---- from a place up

never_zero : (n : ℕ) → (suc n == 0) ≡ false
never_zero n = by (suc n == 0) refl
  where
    by : (b : Bool) → (suc n == 0) ≡ b → b ≡ false
    by true is = let e : suc n ≡ 0 = eqb-true (suc n) 0 is in absurd (omega (arith, e))
    by false is = refl

pub not_begun : (ws : List ℕ) (read : Read) (slots : List Slot) (all : List Standing) → GoneUp ws read slots all all None
not_begun ws read slots all = record {
  passed = [];
  is = sym (append-nil all);
  line = None;
  there = refl;
  so_far = λ fits found. sym (either_way fits found);
}

-- the line that was found
pub found_is : (ws : List ℕ) (read : Read) (slots : List Slot) (all above : List Standing) (result : Option Position) → GoesUp ws read slots all above true result
    → IsPlaceOfLine read slots (like_before ws all) result
found_is ws read slots all above result (at, is, (s, there, alike)) = subst (IsPlaceOfLine read slots (like_before ws all)) (sym is) (s, there, alike (length ws == 0) None)

-- where all lines are passed, it is that of the root's section, if this is one of those
pub top_is : (ws : List ℕ) (read : Read) (slots : List Slot) (all : List Standing) (last : Option Position) → GoneUp ws read slots all [] last
    → (empty : Bool) → IsTrue empty ↔ (ws ≡ []) → IsPlaceOfLine read slots (like_before ws all) (cond empty last None)
top_is ws read slots all last up empty tells = by ws refl empty tells
  where
    whole : like_before ws all ≡ cond (length ws == 0) (line_or up.line None) None
    whole = ap (last_like ws (length ws == 0) None) up.is ∙ up.so_far (length ws == 0) None

    only : (line : Option Standing) → line_or line None ≡ line
    only None = refl
    only (Some s) = refl

    by : (text : List ℕ) → ws ≡ text → (b : Bool) → IsTrue b ↔ (ws ≡ []) → IsPlaceOfLine read slots (like_before ws all) (cond b last None)
    by [] is true h = subst (λ l. IsPlaceOfLine read slots l last) (sym (whole ∙ ap (λ t. cond (length t == 0) (line_or up.line None) None) is ∙ only up.line)) up.there
    by [] is false h = let never : IsTrue false = h.1 is in absurd (true≢false (sym never))
    by (x ∷ xs) is true h = let e : ws ≡ [] = h.0 refl in cc
    by (x ∷ xs) is false h =
        whole ∙ ap (λ t. cond (length t == 0) (line_or up.line None) None) is
        ∙ ap (λ b. cond b (line_or up.line None) None) (never_zero (length xs))

-- one line of a slot more
pub one_up : (ws : List ℕ) (read : Read) (slots : List Slot) (place : Position) (here : ℕ) → 0 < here → here ≤ place.index → (last next : Option Position) (found : Bool)
    → GoesUpLine ws read slots (record { slot = place.slot; index = here - 1 }) last found next → IsInSlot read slots place → (all : List Standing)
    → GoneUp ws read slots all (lines_before read slots place.slot here) last → GoesUp ws read slots all (lines_before read slots place.slot (here - 1)) found next
one_up ws read slots place here some low last next found goes inside all up =
    let (s, there) = line_there read slots place inside (here - 1) (omega (arith, some, low)) in
    let again : here ≡ (here - 1) + 1 = omega (arith, some) in
    let split : lines_before read slots place.slot here ≡ lines_before read slots place.slot (here - 1) ++ s ∷ [] =
    ap (lines_before read slots place.slot) again ∙ (stays_so read (record { slot = place.slot; index = here - 1 }) slots s there).before in
    goes s there all (lines_before read slots place.slot (here - 1)) (subst (λ r. GoneUp ws read slots all r last) split up)

pub place_inside : (read : Read) (slots : List Slot) (at : Position) (s : Standing) → line_at read slots at ≡ Some s → IsInSlot read slots at
place_inside read slots at s there =
    let (slot, is, own) = slot_of read slots at s there in
    let low = slice_get_within (slot_standing read slot) at.index s own in
    record { slot = slot; there = is; low = omega (arith, low) }

-- the slot above
pub next_slot : (ws : List ℕ) (read : Read) (slots : List Slot) (place : Position) (s : Standing) → line_at read slots place ≡ Some s → (here : ℕ) → 0 < here → here ≤ place.slot
    → (count : ℕ) → CountsLines slots (here - 1) count → (last next : Option Position) (found : Bool)
    → GoesUpSlot ws read slots (record { slot = here - 1; index = count }) last found next → (all : List Standing)
    → GoneUp ws read slots all (lines_before read slots here 0) last → GoesUp ws read slots all (lines_before read slots (here - 1) 0) found next
next_slot ws read slots place s there here some low count counts last next found goes all up =
    let (own, own_there, line) = slot_of read slots place s there in
    let within = slice_get_within slots place.slot own own_there in
    let (slot, is) = at slots (here - 1) (omega (arith, some, low, within)) in
    let again : here ≡ (here - 1) + 1 = omega (arith, some) in
    let counted : count ≡ length (slot_standing read slot) = counts read slot is in
    let split : lines_before read slots here 0 ≡ lines_before read slots (here - 1) count =
    ap (λ n. lines_before read slots n 0) again ∙ before_slot read slots (here - 1) slot is ∙ ap (lines_before read slots (here - 1)) (sym counted) in
    goes (record { slot = slot; there = is; low = omega (arith, counted) }) all (subst (λ r. GoneUp ws read slots all r last) split up)
  where
    at : {A : Type 0} (xs : List A) (k : ℕ) → k < length xs → (x : A) × (slice_get xs k ≡ Some x)
    at [] k low = absurd (omega (arith, low))
    at (x ∷ xs) zero low = (x, refl)
    at (x ∷ xs) (suc k) low = at xs k (omega (arith, low))

-- by the slot that was reached
top_of : (ws : List ℕ) (read : Read) (slots : List Slot) (all : List Standing) (last : Option Position) (here : ℕ) → here ≤ 0
    → GoneUp ws read slots all (lines_before read slots here 0) last → GoneUp ws read slots all [] last
top_of ws read slots all last here low up =
    let first : here ≡ 0 = omega (arith, low) in
    subst (λ r. GoneUp ws read slots all r last) (ap (λ n. lines_before read slots n 0) first ∙ before_first read slots) up

pub top_root : (ws : List ℕ) (read : Read) (slots : List Slot) (all : List Standing) (last : Option Position) (here : ℕ) → here ≤ 0
    → GoneUp ws read slots all (lines_before read slots here 0) last → (empty : Bool) → IsTrue empty ↔ (ws ≡ []) → empty ≡ true
    → IsPlaceOfLine read slots (like_before ws all) last
top_root ws read slots all last here low up empty tells is =
    subst (λ b. IsPlaceOfLine read slots (like_before ws all) (cond b last None)) is (top_is ws read slots all last (top_of ws read slots all last here low up) empty tells)

pub top_other : (ws : List ℕ) (read : Read) (slots : List Slot) (all : List Standing) (last : Option Position) (here : ℕ) → here ≤ 0
    → GoneUp ws read slots all (lines_before read slots here 0) last → (empty : Bool) → IsTrue empty ↔ (ws ≡ []) → empty ≡ false
    → like_before ws all ≡ None
top_other ws read slots all last here low up empty tells is =
    subst (λ b. IsPlaceOfLine read slots (like_before ws all) (cond b last None)) is (top_is ws read slots all last (top_of ws read slots all last here low up) empty tells)

-- what is found has a key and a value
alike_is : (ws : List ℕ) (ss : List Standing) (fits : Bool) (found : Option Standing) (t : Standing) → last_like ws fits found ss ≡ Some t → (found ≡ Some t) ⊎ IsPair t
alike_is ws [] fits found t is = inl is
alike_is ws (s ∷ ss) fits found t is =
    elim (alike_is ws ss (fits_behind fits (bytes_eq s.outline.ws ws) s.base s.address) (found_behind fits found s s.base) t is) [
      | inl here ↦ by s.base refl fits here
      | inr pair ↦ inr pair
    ]
  where
    by : (base : Option ℕ) → s.base ≡ base → (b : Bool) → found_behind b found s base ≡ Some t → (found ≡ Some t) ⊎ IsPair t
    by None base_is b here = inl here
    by (Some n) base_is false here = inl here
    by (Some n) base_is true here = inr (n, ap (λ (x : Standing). x.base) (sym (same_Some s t here)) ∙ base_is)

pub alike_pair : (ws : List ℕ) (front : List Standing) (t : Standing) → like_before ws front ≡ Some t → IsPair t
alike_pair ws front t is = elim (alike_is ws front (length ws == 0) None t is) [
  | inl none ↦ absurd (none-some t none)
  | inr pair ↦ pair
]

pub pair_spaced : (t : Standing) → IsPair t → spaced_by t.outline.ws (equals_in t.outline.expr) ≡ spacing_of t.base t.outline
pair_spaced t (n, is) = sym (ap (λ b. spacing_of b t.outline) is)

-- ---- what is seen of a line

pub seen_found : (units : List ReadUnit) (slots : List Slot) (at : Position) (r : Option Seen) (x : Seen) (lines : List tree.Line) (s : Standing) → SeesAt units slots at r
    → r ≡ Some x → line_at (read_by units lines) slots at ≡ Some s → seen x ≡ found s
seen_found units slots at r x lines s sees is there =
    same_Some (seen x) (found s) (sym (ap (option_map seen) is) ∙ sees lines ∙ ap (option_map found) there)

pub none_seen : (units : List ReadUnit) (slots : List Slot) (at : Position) (r : Option Seen) (lines : List tree.Line) (s : Standing) → SeesAt units slots at r
    → r ≡ None → line_at (read_by units lines) slots at ≡ Some s → ⊥
none_seen units slots at r lines s sees is there =
    none-some (found s) (sym (ap (option_map seen) is) ∙ sees lines ∙ ap (option_map found) there)

pub some_is : {A : Type 0} (o : Option A) → is_some o ≡ true → (x : A) × (o ≡ Some x)
some_is None h = absurd (true≢false (sym h))
some_is (Some x) h = (x, refl)

pub none_is : {A : Type 0} (o : Option A) → is_some o ≡ false → o ≡ None
none_is None h = refl
none_is (Some x) h = absurd (true≢false h)
