-- The lines before a place and from it on, and the last one with a key and a value.
use Rattle.std.proofs.Common.{◌≡◌, ◌∙◌, ℕ, zero, suc, ◌+◌, ◌^◌, ◌<◌, ◌≤◌, Bool, true, false, List, [], ◌∷◌, ◌++◌, length, take, drop, Option, Some, None, refl, ap, ap₂, sym, subst, arith, append_assoc}
use Rattle.std.specs.Prelude.{option_map, option_and_then, slice_get, IfSome, MatchOption}
use Rattle.std.proofs.lemmas.List.{drop_all, take-append-drop}
use Rattle.std.proofs.lemmas.Option.{none-some, same_Some}
use Rattle.toml_names.specs.model.Addresses.{Address}
use Rattle.toml_tree.specs.Spells.{EachIs}
use Rattle.toml_working.specs.declared.lines.Seen.{Seen}
use Rattle.toml_working.specs.declared.lines.Slot.{Slot}
use Rattle.toml_working.specs.declared.working.Position.{Position}
use Rattle.toml_working.specs.InsertStanding.{LeavesRoot, RootIsFirst, has_pair, pair_or}
use Rattle.toml_working.specs.Placing.{FindsLastOf, IsLast, IsLastPair, IsNoHeader, IsNoPair, Passed, is_header, lines_before, lines_from, pair_at}
use Rattle.toml_working.specs.Seeing.{Found, found, line_at, seen}
use Rattle.toml_working.specs.Standing.{Standing, Read, slot_standing, slots_standing}
use Rattle.toml_working.proofs.AtPlace.{slot_of}
use Rattle.toml_working.proofs.Alone.{slice_get_none}
use Rattle.toml_working.proofs.Each.{each_append, each_back, each_front}

-- ---- places

pub split_at : (read : Read) (slots : List Slot) (k i : ℕ) → slots_standing read slots ≡ lines_before read slots k i ++ lines_from read slots k i
split_at read [] k i = refl
split_at read (s ∷ ss) zero i =
    ap (λ xs. xs ++ slots_standing read ss) (sym (take-append-drop i (slot_standing read s))) ∙ append_assoc (take i (slot_standing read s)) (drop i (slot_standing read s)) (slots_standing read ss)
split_at read (s ∷ ss) (suc k) i =
    ap (λ xs. slot_standing read s ++ xs) (split_at read ss k i) ∙ sym (append_assoc (slot_standing read s) (lines_before read ss k i) (lines_from read ss k i))

-- from the first place on all lines stand
pub from_first : (read : Read) (slots : List Slot) → lines_from read slots 0 0 ≡ slots_standing read slots
from_first read [] = refl
from_first read (s ∷ ss) = refl

-- past the slots none does
pub past_all : (read : Read) (slots : List Slot) (k i : ℕ) → length slots ≤ k → lines_from read slots k i ≡ []
past_all read [] k i past = refl
past_all read (s ∷ ss) zero i past = absurd (omega (arith, past))
past_all read (s ∷ ss) (suc k) i past = past_all read ss k i (omega (arith, past))

drop_next : {X : Type 0} (xs : List X) (i : ℕ) (x : X) → slice_get xs i ≡ Some x → drop i xs ≡ x ∷ drop (i + 1) xs
drop_next [] i x h = cc
drop_next (y ∷ xs) zero x h = let e : y ≡ x = cc in ap (λ z. z ∷ xs) e
drop_next (y ∷ xs) (suc i) x h = drop_next xs i x h ∙ ap (λ n. x ∷ drop n (y ∷ xs)) (let e : suc (i + 1) ≡ suc i + 1 = omega arith in e)

-- a line of a slot, and those behind it
pub from_line : (read : Read) (slots : List Slot) (k i : ℕ) (slot : Slot) (s : Standing) → slice_get slots k ≡ Some slot → slice_get (slot_standing read slot) i ≡ Some s
    → lines_from read slots k i ≡ s ∷ lines_from read slots k (i + 1)
from_line read [] k i slot s there is = cc
from_line read (x ∷ xs) zero i slot s there is =
    let e : slot ≡ x = cc in
    ap (λ ls. ls ++ slots_standing read xs) (drop_next (slot_standing read x) i s (subst (λ y. slice_get (slot_standing read y) i ≡ Some s) e is))
from_line read (x ∷ xs) (suc k) i slot s there is = from_line read xs k i slot s there is

-- behind the last line of a slot the next one begins
pub from_next : (read : Read) (slots : List Slot) (k i : ℕ) (slot : Slot) → slice_get slots k ≡ Some slot → length (slot_standing read slot) ≤ i
    → lines_from read slots k i ≡ lines_from read slots (k + 1) 0
from_next read [] k i slot there past = cc
from_next read (x ∷ xs) zero i slot there past =
    let e : slot ≡ x = cc in
    ap (λ ls. ls ++ slots_standing read xs) (drop_all i (slot_standing read x) (subst (λ y. length (slot_standing read y) ≤ i) e past)) ∙ sym (from_first read xs)
from_next read (x ∷ xs) (suc k) i slot there past =
    from_next read xs k i slot there past ∙ ap (λ n. lines_from read (x ∷ xs) n 0) (let e : suc (k + 1) ≡ suc k + 1 = omega arith in e)

-- ---- the last line with a key and a value

no_pair_or : (base : Option ℕ) (own : Option Address) (b : Bool) → is_header base own ≡ false → base ≡ None → pair_or base own b ≡ b
no_pair_or (Some n) own b head none = cc
no_pair_or None None b head none = refl
no_pair_or None (Some a) b head none = cc

none_passed : (front rest : List Standing) → EachIs IsNoHeader front → EachIs IsNoPair front → has_pair (front ++ rest) ≡ has_pair rest
none_passed [] rest heads none = refl
none_passed (s ∷ front) rest heads none = no_pair_or s.base s.address (has_pair (front ++ rest)) heads.0 none.0 ∙ none_passed front rest heads.1 none.1

module _ (read : Read) (slots : List Slot) (all rest : List Standing) where
  -- one line more is passed, which is no header
  pub passed_next : (s : Standing) (at : Position) (last : Option Position) → Passed read slots all (s ∷ rest) last → line_at read slots at ≡ Some s
      → at.index + 1 < 2 ^ 64 → lines_from read slots at.slot at.index ≡ s ∷ rest → is_header s.base s.address ≡ false
      → Passed read slots all rest (pair_at s.base at last)
  passed_next s at last passed there next from head = record {
    front = passed.front ++ s ∷ [];
    is = passed.is ∙ sym (append_assoc passed.front (s ∷ []) rest);
    heads = each_append IsNoHeader passed.front (s ∷ []) passed.heads (head, tt);
    found = by s.base refl last passed.found;
  }
    where
      by : (base : Option ℕ) → s.base ≡ base → (o : Option Position) → MatchOption o (EachIs IsNoPair passed.front) (IsLast read slots passed.front (s ∷ rest))
          → MatchOption (pair_at base at o) (EachIs IsNoPair (passed.front ++ s ∷ [])) (IsLast read slots (passed.front ++ s ∷ []) rest)
      by (Some n) is o h = record { before = passed.front; line = s; between = []; is = refl; pair = (n, is); none = tt; there = there; next = next; from = from }
      by None is None h = each_append IsNoPair passed.front (s ∷ []) h (is, tt)
      by None is (Some place) h = record {
        before = h.before;
        line = h.line;
        between = h.between ++ s ∷ [];
        is = ap (λ f. f ++ s ∷ []) h.is ∙ append_assoc h.before (h.line ∷ h.between) (s ∷ []);
        pair = h.pair;
        none = each_append IsNoPair h.between (s ∷ []) h.none (is, tt);
        there = h.there;
        next = h.next;
        from = h.from ∙ ap (λ r. h.line ∷ r) (sym (append_assoc h.between (s ∷ []) rest));
      }

  -- behind it no line with a key and a value is left before the first header
  pub passed_all : (last : Option Position) → Passed read slots all rest last → has_pair rest ≡ false → FindsLastOf read slots all last
  passed_all last passed none = by last passed.found
    where
      by : (o : Option Position) → MatchOption o (EachIs IsNoPair passed.front) (IsLast read slots passed.front rest) → FindsLastOf read slots all o
      by None h = ap has_pair passed.is ∙ none_passed passed.front rest passed.heads h ∙ none
      by (Some at) h =
          let heads = subst (EachIs IsNoHeader) h.is passed.heads in
          let behind = each_back IsNoHeader h.before (h.line ∷ h.between) heads in
          record {
            front = h.before;
            line = h.line;
            back = h.between ++ rest;
            is = passed.is ∙ ap (λ f. f ++ rest) h.is ∙ append_assoc h.before (h.line ∷ h.between) rest;
            heads = each_front IsNoHeader h.before (h.line ∷ h.between) heads;
            pair = h.pair;
            none = none_passed h.between rest behind.1 h.none ∙ none;
            there = h.there;
            next = h.next;
            from = h.from;
          }

-- a line that is a header has none before the first header
pub header_first : (s : Standing) (ss : List Standing) → is_header s.base s.address ≡ true → has_pair (s ∷ ss) ≡ false
header_first s ss is = by s.base s.address is
  where
    by : (base : Option ℕ) (own : Option Address) → is_header base own ≡ true → pair_or base own (has_pair ss) ≡ false
    by (Some n) own h = cc
    by None None h = cc
    by None (Some a) h = refl

-- ---- lines of the root

no_header : (base : Option ℕ) (own : Option Address) (front : List Standing) (s : Standing) (back : List Standing) → LeavesRoot base own (front ++ s ∷ back) → s.base ≡ Some 0
    → is_header base own ≡ false
no_header (Some n) own front s back h of_root = refl
no_header None None front s back h of_root = refl
no_header None (Some a) front s back h of_root = absurd ((each_back (λ (t : Standing). ¬ (t.base ≡ Some 0)) front (s ∷ back) h).0 of_root)

-- before one no header stands
pub none_heads : (front : List Standing) (s : Standing) (back : List Standing) → RootIsFirst (front ++ s ∷ back) → s.base ≡ Some 0 → EachIs IsNoHeader front
none_heads [] s back first of_root = tt
none_heads (x ∷ front) s back first of_root = (no_header x.base x.address front s back first.0 of_root, none_heads front s back first.1 of_root)

-- the last one from a place on that is one of the root is the last one of all
pub last_of_all : (read : Read) (slots : List Slot) (k i : ℕ) (at : Position) → IsLastPair read slots (lines_from read slots k i) at
    → IfSome (line_at read slots at) (λ s. s.base ≡ Some 0) → RootIsFirst (slots_standing read slots) → IsLastPair read slots (slots_standing read slots) at
last_of_all read slots k i at last root first =
    let all : slots_standing read slots ≡ (lines_before read slots k i ++ last.front) ++ last.line ∷ last.back =
    split_at read slots k i ∙ ap (λ xs. lines_before read slots k i ++ xs) last.is ∙ sym (append_assoc (lines_before read slots k i) last.front (last.line ∷ last.back)) in
    let of_root : last.line.base ≡ Some 0 = subst (λ o. IfSome o (λ (s : Standing). s.base ≡ Some 0)) last.there root in
    record {
      front = lines_before read slots k i ++ last.front;
      line = last.line;
      back = last.back;
      is = all;
      heads = none_heads (lines_before read slots k i ++ last.front) last.line last.back (subst RootIsFirst all first) of_root;
      pair = last.pair;
      none = last.none;
      there = last.there;
      next = last.next;
      from = last.from;
    }

-- ---- what is seen of a line

module _ (read : Read) (slots : List Slot) (k : ℕ) (slot : Slot) (there : slice_get slots k ≡ Some slot) (i : ℕ) where
  at_line : (s : Standing) → slice_get (slot_standing read slot) i ≡ Some s → line_at read slots (record { slot = k; index = i }) ≡ Some s
  at_line s is = ap (option_and_then (λ (x : Slot). slice_get (slot_standing read x) i)) there ∙ is

  -- none is: the slot is passed
  pub none_seen : (r : Option Seen) → option_map seen r ≡ option_map found (slice_get (slot_standing read slot) i) → r ≡ None → lines_from read slots k i ≡ lines_from read slots (k + 1) 0
  none_seen r same is = by (slice_get (slot_standing read slot) i) refl same
    where
      by : (o : Option Standing) → slice_get (slot_standing read slot) i ≡ o → option_map seen r ≡ option_map found o → lines_from read slots k i ≡ lines_from read slots (k + 1) 0
      by None none e = from_next read slots k i slot there (slice_get_none (slot_standing read slot) i none)
      by (Some s) some e = absurd (none-some (found s) (ap (option_map seen) (sym is) ∙ e))

  -- one is, with this base and address
  pub record IsSeen (base : Option ℕ) (own : Option Address) : Type 0 where
    pub line : Standing
    pub from : lines_from read slots k i ≡ line ∷ lines_from read slots k (i + 1)
    pub stands : line_at read slots (record { slot = k; index = i }) ≡ Some line
    pub base_is : line.base ≡ base
    pub own_is : line.address ≡ own

  pub one_seen : (r : Option Seen) (x : Seen) → option_map seen r ≡ option_map found (slice_get (slot_standing read slot) i) → r ≡ Some x
      → IsSeen (seen x).base (seen x).address
  one_seen r x same is = by (slice_get (slot_standing read slot) i) refl same
    where
      by : (o : Option Standing) → slice_get (slot_standing read slot) i ≡ o → option_map seen r ≡ option_map found o → IsSeen (seen x).base (seen x).address
      by None none e = absurd (none-some (seen x) (sym e ∙ ap (option_map seen) is))
      by (Some s) some e =
          let same_found : found s ≡ seen x = same_Some (found s) (seen x) (sym e ∙ ap (option_map seen) is) in
          record {
            line = s;
            from = from_line read slots k i slot s there some;
            stands = at_line s some;
            base_is = ap (λ (f : Found). f.base) same_found;
            own_is = ap (λ (f : Found). f.address) same_found;
          }

  -- a header: none with a key and a value is left before it
  pub header_seen : (r : Option Seen) (x : Seen) → option_map seen r ≡ option_map found (slice_get (slot_standing read slot) i) → r ≡ Some x
      → is_header (seen x).base (seen x).address ≡ true → has_pair (lines_from read slots k i) ≡ false
  header_seen r x same is head =
      let s = one_seen r x same is in
      ap has_pair s.from ∙ header_first s.line (lines_from read slots k (i + 1)) (ap₂ is_header s.base_is s.own_is ∙ head)

  -- another one is passed
  pub pair_seen : (r : Option Seen) (x : Seen) → option_map seen r ≡ option_map found (slice_get (slot_standing read slot) i) → r ≡ Some x
      → is_header (seen x).base (seen x).address ≡ false → i + 1 < 2 ^ 64 → (all : List Standing) (last : Option Position)
      → Passed read slots all (lines_from read slots k i) last
      → Passed read slots all (lines_from read slots k (i + 1)) (pair_at (seen x).base (record { slot = k; index = i }) last)
  pair_seen r x same is head next all last passed =
      let s = one_seen r x same is in
      let at : Position = record { slot = k; index = i } in
      subst (λ b. Passed read slots all (lines_from read slots k (i + 1)) (pair_at b at last)) s.base_is
      (passed_next read slots all (lines_from read slots k (i + 1)) s.line at last (subst (λ ls. Passed read slots all ls last) s.from passed) s.stands next s.from (ap₂ is_header s.base_is s.own_is ∙ head))

-- the lines behind one
pub behind_line : (read : Read) (slots : List Slot) (at : Position) (s : Standing) (back : List Standing) → line_at read slots at ≡ Some s → lines_from read slots at.slot at.index ≡ s ∷ back
    → back ≡ lines_from read slots at.slot (at.index + 1)
behind_line read slots at s back here from =
    let (slot, there, own) = slot_of read slots at s here in
    let next = from_line read slots at.slot at.index slot s there own in
    cc
