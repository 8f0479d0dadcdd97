-- The last line with a key and a value strictly below a table, before the first header.
use Rattle.std.proofs.Common.{◌≡◌, ◌∙◌, inr, ℕ, ◌+◌, ◌^◌, ◌<◌, Bool, true, false, not, ◌&&◌, cond, List, [], ◌∷◌, ◌++◌, Option, Some, None, refl, ap, ap₂, sym, subst, append_assoc, true≢false}
use Rattle.std.specs.Prelude.{option_map, slice_get, IfSome, MatchOption}
use Rattle.std.specs.Option.{unwrap_or}
use Rattle.toml_names.specs.model.Addresses.{Address}
use Rattle.toml_tree.specs.Spells.{EachIs}
use Rattle.toml_units.specs.declared.unit.Unit.{Unit as ReadUnit}
use Rattle.toml_layout.specs.declared.layout.Layout.{Layout}
use Rattle.toml_layout.specs.declared.layout.Layout.TheVariants as layouts
use Rattle.toml_working.specs.declared.lines.Seen.{Seen}
use Rattle.toml_working.specs.declared.lines.Slot.{Slot}
use Rattle.toml_working.specs.declared.working.Position.{Position}
use Rattle.toml_working.specs.DottedTables.{has_in_table, has_more, is_in_table, stands_in_table}
use Rattle.toml_working.specs.InsertStanding.{has_pair, pair_or}
use Rattle.toml_working.specs.Placing.{IsLastPair, IsNoHeader, IsPair, is_header, lines_from}
use Rattle.toml_working.specs.Sections.{EndsSection, IsOfSectionAt, is_of_section}
use Rattle.toml_working.specs.Seeing.{found, line_at, seen}
use Rattle.toml_working.specs.Standing.{Standing, Read, slot_standing}
use Rattle.toml_working.specs.TableEnds.{EndsAmong, FindsEnd, FindsInTable, FindsTableEnd, IsLastInTableFrom, IsLastFor, IsLastInTable, IsNotInTable, PassedInTable, in_table_at}
use Rattle.toml_working.proofs.Each.{each_append, each_back, each_front}
use Rattle.toml_working.proofs.AtPlace.{slot_of}
use Rattle.toml_working.proofs.Placed.{from_line, one_seen}

-- such a line has a key and a value
pub in_table_pair : (q : Address) (s : Standing) → is_in_table q s ≡ true → IsPair s
in_table_pair q s in_table = by s.base refl in_table
  where
    by : (base : Option ℕ) → s.base ≡ base → stands_in_table q base s.address ≡ true → IsPair s
    by None is h = cc
    by (Some n) is h = (n, is)

-- what is neither such a line nor a header is passed over
outside_passed : (q : Address) (s : Standing) (ss : List Standing) → IsNoHeader s → IsNotInTable q s → has_in_table q (s ∷ ss) ≡ has_in_table q ss
outside_passed q s ss head outside =
    ap (λ b. cond b true (not (is_header s.base s.address) && has_in_table q ss)) outside ∙ ap (λ b. not b && has_in_table q ss) head

none_passed : (q : Address) (front rest : List Standing) → EachIs IsNoHeader front → EachIs (IsNotInTable q) front → has_in_table q (front ++ rest) ≡ has_in_table q rest
none_passed q [] rest heads none = refl
none_passed q (s ∷ front) rest heads none = outside_passed q s (front ++ rest) heads.0 none.0 ∙ none_passed q front rest heads.1 none.1

module _ (q : Address) (read : Read) (slots : List Slot) (all rest : List Standing) where
  -- one line more is passed, which is no header
  pub in_table_next : (s : Standing) (at : Position) (last : Option Position) → PassedInTable q read slots all (s ∷ rest) last → line_at read slots at ≡ Some s
      → at.index + 1 < 2 ^ 64 → lines_from read slots at.slot at.index ≡ s ∷ rest → IsNoHeader s
      → PassedInTable q read slots all rest (in_table_at q s.base s.address at last)
  in_table_next s at last passed there next from head = record {
    front = passed.front ++ s ∷ [];
    is = passed.is ∙ sym (append_assoc passed.front (s ∷ []) rest);
    heads = each_append IsNoHeader passed.front (s ∷ []) passed.heads (head, tt);
    found = by (is_in_table q s) refl last passed.found;
  }
    where
      by : (b : Bool) → is_in_table q s ≡ b → (o : Option Position) → MatchOption o (EachIs (IsNotInTable q) passed.front) (IsLastInTable q read slots passed.front (s ∷ rest))
          → MatchOption (cond b (Some at) o) (EachIs (IsNotInTable q) (passed.front ++ s ∷ [])) (IsLastInTable q read slots (passed.front ++ s ∷ []) rest)
      by true is o h = record { before = passed.front; line = s; between = []; is = refl; in_table = is; none = tt; there = there; next = next; from = from }
      by false is None h = each_append (IsNotInTable q) passed.front (s ∷ []) h (is, tt)
      by false is (Some place) h = record {
        before = h.before;
        line = h.line;
        between = h.between ++ s ∷ [];
        is = ap (λ f. f ++ s ∷ []) h.is ∙ append_assoc h.before (h.line ∷ h.between) (s ∷ []);
        in_table = h.in_table;
        none = each_append (IsNotInTable q) h.between (s ∷ []) h.none (is, tt);
        there = h.there;
        next = h.next;
        from = h.from ∙ ap (λ r. h.line ∷ r) (sym (append_assoc h.between (s ∷ []) rest));
      }

  -- behind it none is left before the first header
  pub in_table_all : (last : Option Position) → PassedInTable q read slots all rest last → has_in_table q rest ≡ false → FindsInTable q read slots all last
  in_table_all last passed none = by last passed.found
    where
      by : (o : Option Position) → MatchOption o (EachIs (IsNotInTable q) passed.front) (IsLastInTable q read slots passed.front rest) → FindsInTable q read slots all o
      by None h = ap (has_in_table q) passed.is ∙ none_passed q passed.front rest passed.heads h ∙ none
      by (Some at) h =
          let heads = subst (EachIs IsNoHeader) h.is passed.heads in
          let behind = each_back IsNoHeader h.before (h.line ∷ h.between) heads in
          record {
            front = h.before;
            line = h.line;
            back = h.between ++ rest;
            is = passed.is ∙ ap (λ f. f ++ rest) h.is ∙ append_assoc h.before (h.line ∷ h.between) rest;
            heads = each_front IsNoHeader h.before (h.line ∷ h.between) heads;
            pair = in_table_pair q h.line h.in_table;
            in_table = h.in_table;
            none = none_passed q h.between rest behind.1 h.none ∙ none;
            there = h.there;
            next = h.next;
            from = h.from;
          }

-- a line that is a header has none before the first header
header_first : (q : Address) (s : Standing) (ss : List Standing) → is_header s.base s.address ≡ true → has_in_table q (s ∷ ss) ≡ false
header_first q s ss is = by s.base s.address is
  where
    by : (base : Option ℕ) (own : Option Address) → is_header base own ≡ true
        → cond (stands_in_table q base own) true (not (is_header base own) && has_in_table q ss) ≡ false
    by (Some n) own h = cc
    by None None h = cc
    by None (Some a) h = refl

-- ---- what is seen of a line

module _ (q : Address) (read : Read) (slots : List Slot) (k : ℕ) (slot : Slot) (there : slice_get slots k ≡ Some slot) (i : ℕ) (r : Option Seen) (x : Seen)
    (same : option_map seen r ≡ option_map found (slice_get (slot_standing read slot) i)) (is : r ≡ Some x) where
  -- a header: no such line is left before it
  pub header_seen : is_header (seen x).base (seen x).address ≡ true → has_in_table q (lines_from read slots k i) ≡ false
  header_seen head =
      let s = one_seen read slots k slot there i r x same is in
      ap (has_in_table q) s.from ∙ header_first q s.line (lines_from read slots k (i + 1)) (ap₂ is_header s.base_is s.own_is ∙ head)

  -- another one is passed
  pub in_table_seen : is_header (seen x).base (seen x).address ≡ false → i + 1 < 2 ^ 64 → (all : List Standing) (last : Option Position)
      → PassedInTable q read slots all (lines_from read slots k i) last
      → PassedInTable q read slots all (lines_from read slots k (i + 1)) (in_table_at q (seen x).base (seen x).address (record { slot = k; index = i }) last)
  in_table_seen head next all last passed =
      let s = one_seen read slots k slot there i r x same is in
      let at : Position = record { slot = k; index = i } in
      subst (PassedInTable q read slots all (lines_from read slots k (i + 1))) (ap₂ (λ b o. in_table_at q b o at last) s.base_is s.own_is)
      (in_table_next q read slots all (lines_from read slots k (i + 1)) s.line at last (subst (λ ls. PassedInTable q read slots all ls last) s.from passed) s.stands next s.from
      (ap₂ is_header s.base_is s.own_is ∙ head))

-- ---- where the section ends

-- the guess, or what is found from the place on
pub in_table_of_guess : (section q : Address) (units : List ReadUnit) (slots : List Slot) (start from at : Position) → IsLastInTableFrom q units slots start at
    → IsOfSectionAt section units slots at → FindsTableEnd section q units slots from (Some at)
in_table_of_guess section q units slots start from at ends there lines =
    let last = ends lines in
    record { start = start; last = last; there = inr (subst (λ o. IfSome o (λ (s : Standing). is_of_section section s ≡ true)) last.there (there lines)) }

-- by layout `Plain` that of the section
pub plain_end : (section q : Address) (read : Read) (slots : List Slot) (from : Position) (r : Option Position)
    → MatchOption r (has_pair (lines_from read slots from.slot from.index) ≡ false) (EndsSection section read slots from) → FindsEnd layouts.Plain section q read slots from r
plain_end section q read slots from None none = none
plain_end section q read slots from (Some at) ends = record { start = ends.start; last = as_meant ends.last; there = ends.there }
  where
    as_meant : {all : List Standing} → IsLastPair read slots all at → IsLastFor layouts.Plain q read slots all at
    as_meant last = record {
      front = last.front;
      line = last.line;
      back = last.back;
      is = last.is;
      heads = last.heads;
      pair = last.pair;
      in_table = tt;
      none = last.none;
      there = last.there;
      next = last.next;
      from = last.from;
    }

-- one is found where the line at the place is one
more_here : (layout : Layout) (q : Address) (s : Standing) (ss : List Standing) → is_in_table q s ≡ true → has_more layout q (s ∷ ss) ≡ true
more_here layouts.Plain q s ss in_table = ap (λ b. pair_or b s.address (has_pair ss)) (in_table_pair q s in_table).1
more_here layouts.Follow q s ss in_table = ap (λ b. cond b true (not (is_header s.base s.address) && has_in_table q ss)) in_table

pub end_found : (layout : Layout) (section q : Address) (read : Read) (slots : List Slot) (from at : Position) (r : Option Position) → at ≡ unwrap_or r from
    → FindsEnd layout section q read slots from r → (s : Standing) → line_at read slots from ≡ Some s → is_in_table q s ≡ true → EndsAmong layout section q read slots from at
end_found layout section q read slots from at (Some end) is found s there in_table = subst (EndsAmong layout section q read slots from) (sym is) found
end_found layout section q read slots from at None is none s there in_table =
    let (slot, slot_is, own) = slot_of read slots from s there in
    absurd (true≢false (sym (ap (has_more layout q) (from_line read slots from.slot from.index slot s slot_is own) ∙ more_here layout q s _ in_table) ∙ none))
