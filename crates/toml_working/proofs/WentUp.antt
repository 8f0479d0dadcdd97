-- The lines before a place, gone through upwards, and whether something stands on those behind it.
use Rattle.std.proofs.Common.{◌≡◌, ◌∙◌, ℕ, zero, suc, ◌+◌, ◌-◌, ◌^◌, ◌<◌, ◌≤◌, Bool, true, false, ◌||◌, not, List, [], ◌∷◌, ◌++◌, length, Option, Some, None, refl, ap, ap₂, sym, arith, append_assoc, append-nil, true≢false}
use Rattle.std.specs.Prelude.{MatchOption, slice_get}
use Rattle.std.specs.List.{list_any}
use Rattle.std.proofs.lemmas.List.{drop_all, take_all}
use Rattle.toml_names.specs.model.Addresses.{Address}
use Rattle.toml_working.specs.declared.lines.Slot.{Slot}
use Rattle.toml_working.specs.declared.working.Position.{Position}
use Rattle.toml_working.specs.Following.{IsLastThat, NoneUpTo, TellsAt}
use Rattle.toml_working.specs.FollowingHeaders.{has_parts, header_ws, is_filled, last_that, or_earlier, ws_of}
use Rattle.toml_working.specs.LookingUp.{CountsLines}
use Rattle.toml_working.specs.Placing.{lines_before, lines_from}
use Rattle.toml_working.specs.RenameStanding.{names_in}
use Rattle.toml_working.specs.Seeing.{line_at}
use Rattle.toml_working.specs.Standing.{Standing, Read, slot_standing, slots_standing}
use Rattle.toml_working.proofs.AtPlace.{slot_of}
use Rattle.toml_working.proofs.Alone.{slice_get_none}
use Rattle.toml_working.proofs.LookedUp.{before_first, before_slot}
use Rattle.toml_working.proofs.Placed.{from_line, from_next, past_all}
use Rattle.toml_working.proofs.Put.{before_next}

-- ---- the lines before a place

-- past the slots all lines stand before
pub past_before : (read : Read) (slots : List Slot) (k i : ℕ) → length slots ≤ k → lines_before read slots k i ≡ slots_standing read slots
past_before read [] k i past = refl
past_before read (s ∷ ss) zero i past = absurd (omega (arith, past))
past_before read (s ∷ ss) (suc k) i past = ap (λ r. slot_standing read s ++ r) (past_before read ss k i (omega (arith, past)))

-- one line fewer, where there is none
before_none : (read : Read) (slots : List Slot) (k i : ℕ) → line_at read slots (record { slot = k; index = i }) ≡ None
    → lines_before read slots k (i + 1) ≡ lines_before read slots k i
before_none read [] k i none = refl
before_none read (s ∷ ss) zero i none =
    let past : length (slot_standing read s) ≤ i = slice_get_none (slot_standing read s) i none in
    take_all (i + 1) (slot_standing read s) (omega (arith, past)) ∙ sym (take_all i (slot_standing read s) past)
before_none read (s ∷ ss) (suc k) i none = ap (λ r. slot_standing read s ++ r) (before_none read ss k i none)

-- and the lines of one slot fewer
before_slots : (read : Read) (slots : List Slot) (k count : ℕ) → CountsLines slots k count → lines_before read slots (k + 1) 0 ≡ lines_before read slots k count
before_slots read slots k count counts = by (slice_get slots k) refl
  where
    by : (o : Option Slot) → slice_get slots k ≡ o → lines_before read slots (k + 1) 0 ≡ lines_before read slots k count
    by None there =
        let past = slice_get_none slots k there in
        past_before read slots (k + 1) 0 (omega (arith, past)) ∙ sym (past_before read slots k count past)
    by (Some slot) there = before_slot read slots k slot there ∙ ap (lines_before read slots k) (sym (counts read slot there))

-- ---- going up

module _ (f : Standing → Bool) (read : Read) (slots : List Slot) (place : Position) where
  pub none_yet : NoneUpTo f read slots place place.slot place.index
  none_yet = record { between = []; is = sym (append-nil (lines_before read slots place.slot place.index)); none = refl }

  -- past a line that is not so
  pub up_past : (k here : ℕ) (so : Bool) → 0 < here → TellsAt f read slots (record { slot = k; index = here - 1 }) so → so ≡ false
      → NoneUpTo f read slots place k here → NoneUpTo f read slots place k (here - 1)
  up_past k here so some tells not up = by (line_at read slots (record { slot = k; index = here - 1 })) refl tells
    where
      again : here ≡ (here - 1) + 1
      again = omega (arith, some)

      by : (o : Option Standing) → line_at read slots (record { slot = k; index = here - 1 }) ≡ o → MatchOption o (so ≡ false) (λ s. so ≡ f s)
          → NoneUpTo f read slots place k (here - 1)
      by None there h = record {
        between = up.between;
        is = up.is ∙ ap (λ r. r ++ up.between) (ap (lines_before read slots k) again ∙ before_none read slots k (here - 1) there);
        none = up.none;
      }
      by (Some s) there h =
          let (slot, slot_is, own) = slot_of read slots (record { slot = k; index = here - 1 }) s there in
          record {
            between = s ∷ up.between;
            is =
                up.is
                ∙ ap (λ r. r ++ up.between) (ap (lines_before read slots k) again ∙ before_next read slots k (here - 1) slot s slot_is own)
                ∙ append_assoc (lines_before read slots k (here - 1)) (s ∷ []) up.between;
            none = ap (λ b. b || list_any f up.between) (sym h ∙ not) ∙ up.none;
          }

  -- one that is so
  pub up_found : (k here : ℕ) (so : Bool) → 0 < here → here < 2 ^ 64 → TellsAt f read slots (record { slot = k; index = here - 1 }) so → so ≡ true
      → NoneUpTo f read slots place k here → IsLastThat f read slots place (record { slot = k; index = here - 1 })
  up_found k here so some low tells is up = by (line_at read slots (record { slot = k; index = here - 1 })) refl tells
    where
      again : here ≡ (here - 1) + 1
      again = omega (arith, some)

      by : (o : Option Standing) → line_at read slots (record { slot = k; index = here - 1 }) ≡ o → MatchOption o (so ≡ false) (λ s. so ≡ f s)
          → IsLastThat f read slots place (record { slot = k; index = here - 1 })
      by None there h = absurd (true≢false (sym is ∙ h))
      by (Some s) there h =
          let (slot, slot_is, own) = slot_of read slots (record { slot = k; index = here - 1 }) s there in
          record {
            line = s;
            between = up.between;
            there = there;
            next = omega (arith, some, low);
            so = sym h ∙ is;
            is =
                up.is
                ∙ ap (λ r. r ++ up.between) (ap (lines_before read slots k) again ∙ before_next read slots k (here - 1) slot s slot_is own)
                ∙ append_assoc (lines_before read slots k (here - 1)) (s ∷ []) up.between;
            none = up.none;
          }

  -- to the slot above
  pub up_slot : (here count : ℕ) → 0 < here → CountsLines slots (here - 1) count → NoneUpTo f read slots place here 0 → NoneUpTo f read slots place (here - 1) count
  up_slot here count some counts up =
      let again : here ≡ (here - 1) + 1 = omega (arith, some) in
      record {
        between = up.between;
        is = up.is ∙ ap (λ r. r ++ up.between) (ap (λ n. lines_before read slots n 0) again ∙ before_slots read slots (here - 1) count counts);
        none = up.none;
      }

  -- past all
  pub none_up : (here : ℕ) → here ≤ 0 → NoneUpTo f read slots place here 0 → list_any f (lines_before read slots place.slot place.index) ≡ false
  none_up here low up =
      let first : here ≡ 0 = omega (arith, low) in
      ap (list_any f) (up.is ∙ ap (λ r. r ++ up.between) (ap (λ n. lines_before read slots n 0) first ∙ before_first read slots)) ∙ up.none

-- ---- whether something stands on lines

from_none : (read : Read) (slots : List Slot) (k i : ℕ) → line_at read slots (record { slot = k; index = i }) ≡ None
    → lines_from read slots k i ≡ lines_from read slots k (i + 1)
from_none read [] k i none = refl
from_none read (s ∷ ss) zero i none =
    let past : length (slot_standing read s) ≤ i = slice_get_none (slot_standing read s) i none in
    ap (λ r. r ++ slots_standing read ss) (drop_all i (slot_standing read s) past ∙ sym (drop_all (i + 1) (slot_standing read s) (omega (arith, past))))
from_none read (s ∷ ss) (suc k) i none = from_none read ss k i none

module _ (read : Read) (slots : List Slot) (k i : ℕ) (b : Bool) (tells : TellsAt is_filled read slots (record { slot = k; index = i }) b) where
  pub filled_past : b ≡ false → list_any is_filled (lines_from read slots k i) ≡ list_any is_filled (lines_from read slots k (i + 1))
  filled_past not = by (line_at read slots (record { slot = k; index = i })) refl tells
    where
      by : (o : Option Standing) → line_at read slots (record { slot = k; index = i }) ≡ o → MatchOption o (b ≡ false) (λ s. b ≡ is_filled s)
          → list_any is_filled (lines_from read slots k i) ≡ list_any is_filled (lines_from read slots k (i + 1))
      by None there h = ap (list_any is_filled) (from_none read slots k i there)
      by (Some s) there h =
          let (slot, slot_is, own) = slot_of read slots (record { slot = k; index = i }) s there in
          ap (list_any is_filled) (from_line read slots k i slot s slot_is own)
          ∙ ap (λ c. c || list_any is_filled (lines_from read slots k (i + 1))) (sym h ∙ not)

  pub filled_found : b ≡ true → list_any is_filled (lines_from read slots k i) ≡ true
  filled_found is = by (line_at read slots (record { slot = k; index = i })) refl tells
    where
      by : (o : Option Standing) → line_at read slots (record { slot = k; index = i }) ≡ o → MatchOption o (b ≡ false) (λ s. b ≡ is_filled s)
          → list_any is_filled (lines_from read slots k i) ≡ true
      by None there h = absurd (true≢false (sym is ∙ h))
      by (Some s) there h =
          let (slot, slot_is, own) = slot_of read slots (record { slot = k; index = i }) s there in
          ap (list_any is_filled) (from_line read slots k i slot s slot_is own)
          ∙ ap (λ c. c || list_any is_filled (lines_from read slots k (i + 1))) (sym h ∙ is)

-- past a slot
pub filled_slot : (read : Read) (slots : List Slot) (k i count : ℕ) → CountsLines slots k count → count ≤ i → lines_from read slots k i ≡ lines_from read slots (k + 1) 0
filled_slot read slots k i count counts past = by (slice_get slots k) refl
  where
    by : (o : Option Slot) → slice_get slots k ≡ o → lines_from read slots k i ≡ lines_from read slots (k + 1) 0
    by None there =
        let out = slice_get_none slots k there in
        past_all read slots k i out ∙ sym (past_all read slots (k + 1) 0 (omega (arith, out)))
    by (Some slot) there = from_next read slots k i slot there (let e = counts read slot there in omega (arith, past, e))

-- ---- the last line that is so

pub both_no : (a b : Bool) → (a || b) ≡ false → (a ≡ false) × (b ≡ false)
both_no true b h = absurd (true≢false h)
both_no false b h = (refl, h)

pub last_none : (f : Standing → Bool) (ss : List Standing) → list_any f ss ≡ false → last_that f ss ≡ None
last_none f [] none = refl
last_none f (s ∷ ss) none =
    let parts = both_no (f s) (list_any f ss) none in
    ap₂ (λ o b. or_earlier o b s) (last_none f ss parts.1) parts.0

pub last_split : (f : Standing → Bool) (front : List Standing) (s : Standing) (between : List Standing) → f s ≡ true → list_any f between ≡ false
    → last_that f (front ++ s ∷ between) ≡ Some s
last_split f [] s between so none = ap₂ (λ o b. or_earlier o b s) (last_none f between none) so
last_split f (x ∷ front) s between so none = ap (λ o. or_earlier o (f x) x) (last_split f front s between so none)

-- the whitespace of a header
pub ws_found : (p : Address) (n : ℕ) (read : Read) (slots : List Slot) (at other : Position) (last : IsLastThat (has_parts n) read slots at other) → n ≡ names_in p
    → last.line.outline.ws ≡ header_ws p (lines_before read slots at.slot at.index)
ws_found p n read slots at other last is =
    sym (ap ws_of (ap (λ k. last_that (has_parts k) (lines_before read slots at.slot at.index)) (sym is) ∙ ap (last_that (has_parts n)) last.is
    ∙ last_split (has_parts n) (lines_before read slots other.slot other.index) last.line last.between last.so last.none))

pub no_ws : (p : Address) (n : ℕ) (read : Read) (slots : List Slot) (at : Position) → list_any (has_parts n) (lines_before read slots at.slot at.index) ≡ false → n ≡ names_in p
    → [] ≡ header_ws p (lines_before read slots at.slot at.index)
no_ws p n read slots at none is =
    sym (ap ws_of (ap (λ k. last_that (has_parts k) (lines_before read slots at.slot at.index)) (sym is) ∙ last_none (has_parts n) (lines_before read slots at.slot at.index) none))
