-- A header line at the end of a text by layout `Follow`.
use Rattle.std.proofs.Common.{◌≡◌, ◌∙◌, ◌↔◌, ℕ, suc, ◌+◌, ◌-◌, ◌^◌, ◌<◌, ◌==◌, Bool, true, false, ◌&&◌, ◌||◌, cond, not, List, [], ◌∷◌, ◌++◌, length, take, drop, Some, None, IsTrue, refl, ap, ap₂, sym, subst, arith, append_assoc, append-nil, slice_range, true≢false}
use Rattle.std.specs.Prelude.{MatchOption, is_some, slice_index}
use Rattle.std.specs.List.{list_any}
use Rattle.std.specs.Str.{bytes_eq}
use Rattle.std.specs.declared.alloc.Global.{Global}
use Rattle.std.specs.declared.string.String.{String}
use Rattle.std.proofs.lemmas.Bool.{and_parts, eqb-true}
use Rattle.std.proofs.Math.Bool.{or-false, or-true}
use Rattle.std.proofs.lemmas.Option.{slice_get_within}
use Rattle.toml_names.specs.model.Addresses.{Address}
use Rattle.toml_text.specs.Source.{IsHeld, text_of}
use Rattle.toml_text.specs.declared.span.Span.{Span}
use Rattle.toml_layout.specs.Outlines.{Nothing}
use Rattle.toml_layout.specs.OpenOutlines.{leaf_text}
use Rattle.toml_layout.specs.declared.tree.Brackets.{Brackets}
use Rattle.toml_layout.specs.declared.tree.Leaf.{Leaf}
use Rattle.toml_working.specs.declared.lines.Line.{Line}
use Rattle.toml_working.specs.declared.lines.Slot.{Slot}
use Rattle.toml_working.specs.declared.working.Position.{Position}
use Rattle.toml_working.specs.declared.working.Tree.{Tree}
use Rattle.toml_working.specs.Following.{BeginsHeader, FindsBeside, IsBehindAll, IsLastThat, PutsAtEnd, PutsBeside, PutsBlank, TellsAt, TellsClose, TellsFilled, TellsBlankDue, TreeFollows, may_write_blank, put_behind}
use Rattle.toml_working.specs.Manners.{ends_in_newline}
use Rattle.toml_working.specs.FollowingHeaders.{behind_family, blank_line, but_last, ends_empty, ends_filled, family, header_behind, header_ws, is_close, is_entry, is_entry_line, is_filled, is_header_line, is_no_comment, last_that, or_at_end, wants_blank}
use Rattle.toml_working.specs.Headers.{has_no_bytes, new_header, put_after, put_at_text_end}
use Rattle.toml_working.specs.OpeningLines.{HasOutline, alone}
use Rattle.toml_working.specs.Placing.{lines_before, lines_from}
use Rattle.toml_working.specs.Putting.{PutsSlots}
use Rattle.toml_working.specs.PuttingHeaders.{HasNoBytesAt, IsEnd, PutsHeader, PutsLast}
use Rattle.toml_working.specs.Standing.{Standing, Read, body_outline, line_standing, slots_standing}
use Rattle.toml_working.specs.Stands.{KeepsRest, KeepsTexts, Stands}
use Rattle.toml_working.proofs.Alone.{any_there}
use Rattle.toml_working.proofs.AtPlace.{slot_of}
use Rattle.toml_working.proofs.WentUp.{both_no, last_none, last_split}
use Rattle.toml_working.proofs.HeaderPut.{last_put}
use Rattle.toml_working.proofs.Placed.{split_at}
use Rattle.toml_working.proofs.PutRoot.{kept_new}

-- ---- lists of lines

last_left : (s : Standing) (front : List Standing) → but_last (front ++ s ∷ []) ≡ front
last_left s [] = refl
last_left s (x ∷ []) = refl
last_left s (x ∷ y ∷ front) = ap (λ r. x ∷ r) (last_left s (y ∷ front))

last_empty : (s : Standing) (front : List Standing) → ends_empty (front ++ s ∷ []) ≡ has_no_bytes s.outline
last_empty s [] = refl
last_empty s (x ∷ []) = refl
last_empty s (x ∷ y ∷ front) = last_empty s (y ∷ front)

last_filled : (s : Standing) (front : List Standing) → ends_filled (front ++ s ∷ []) ≡ is_filled s
last_filled s [] = refl
last_filled s (x ∷ []) = refl
last_filled s (x ∷ y ∷ front) = last_filled s (y ∷ front)

none_at_all : (ss : List Standing) → list_any (λ (s : Standing). true) ss ≡ false → ss ≡ []
none_at_all [] h = refl
none_at_all (s ∷ ss) h = absurd (true≢false h)

-- ---- the last section, and what stands above it

close_in : (front pre : List Standing) (h : Standing) (between : List Standing) → is_header_line h ≡ true → list_any is_header_line between ≡ false
    → is_close front (pre ++ h ∷ between) ≡ is_entry (last_that is_no_comment (front ++ pre))
close_in front [] h between is none =
    ap (λ b. cond b (is_close (front ++ h ∷ []) between) (is_header_line h && is_entry (last_that is_no_comment front))) none
    ∙ ap (λ b. b && is_entry (last_that is_no_comment front)) is ∙ ap (λ f. is_entry (last_that is_no_comment f)) (sym (append-nil front))
close_in front (x ∷ pre) h between is none =
    ap (λ b. cond b (is_close (front ++ x ∷ []) (pre ++ h ∷ between)) (is_header_line x && is_entry (last_that is_no_comment front)))
    (any_there is_header_line pre h between is)
    ∙ close_in (front ++ x ∷ []) pre h between is none ∙ ap (λ f. is_entry (last_that is_no_comment f)) (append_assoc front (x ∷ []) pre)

never_close : (front ss : List Standing) → list_any is_header_line ss ≡ false → is_close front ss ≡ false
never_close front [] none = refl
never_close front (s ∷ ss) none =
    let parts = both_no (is_header_line s) (list_any is_header_line ss) none in
    ap (λ b. cond b (is_close (front ++ s ∷ []) ss) (is_header_line s && is_entry (last_that is_no_comment front))) parts.1
    ∙ ap (λ b. b && is_entry (last_that is_no_comment front)) parts.0

module _ (read : Read) (slots : List Slot) (place : Position) where
  abbrev above : List Standing
  above = lines_before read slots place.slot place.index

  pub filled_at : (at : Position) (so : Bool) → IsLastThat (λ (s : Standing). true) read slots place at → TellsAt is_filled read slots at so → TellsFilled read slots place so
  filled_at at so last tells =
      let told : so ≡ is_filled last.line = subst (λ o. MatchOption o (so ≡ false) (λ (s : Standing). so ≡ is_filled s)) last.there tells in
      told ∙ sym (ap ends_filled (last.is ∙ ap (λ r. lines_before read slots at.slot at.index ++ last.line ∷ r) (none_at_all last.between last.none))
      ∙ last_filled last.line (lines_before read slots at.slot at.index))

  pub filled_none : list_any (λ (s : Standing). true) above ≡ false → TellsFilled read slots place false
  filled_none none = sym (ap ends_filled (none_at_all above none))

  pub not_headed : list_any is_header_line above ≡ false → TellsClose read slots place false
  not_headed none = sym (never_close [] above none)

  pub close_at : (header : Position) (result : Bool) → IsLastThat is_header_line read slots place header
      → result ≡ is_entry (last_that is_no_comment (lines_before read slots header.slot header.index)) → TellsClose read slots place result
  close_at header result last is =
      is ∙ sym (ap (is_close []) last.is ∙ close_in [] (lines_before read slots header.slot header.index) last.line last.between last.so last.none)

-- of the last line that is no comment line
pub entry_found : (read : Read) (slots : List Slot) (place at : Position) (so : Bool) → IsLastThat is_no_comment read slots place at → TellsAt is_entry_line read slots at so
    → so ≡ is_entry (last_that is_no_comment (lines_before read slots place.slot place.index))
entry_found read slots place at so last tells =
    let told : so ≡ is_entry_line last.line = subst (λ o. MatchOption o (so ≡ false) (λ (s : Standing). so ≡ is_entry_line s)) last.there tells in
    told ∙ sym (ap is_entry (ap (last_that is_no_comment) last.is
    ∙ last_split is_no_comment (lines_before read slots at.slot at.index) last.line last.between last.so last.none))

pub entry_none : (read : Read) (slots : List Slot) (place : Position) → list_any is_no_comment (lines_before read slots place.slot place.index) ≡ false
    → false ≡ is_entry (last_that is_no_comment (lines_before read slots place.slot place.index))
entry_none read slots place none = sym (ap is_entry (last_none is_no_comment (lines_before read slots place.slot place.index) none))

-- ---- whether a blank line parts

module _ (text : List ℕ) (read : Read) (slots : List Slot) (last : Position) (b : Bool) (end : IsEnd read slots last) (tells : HasNoBytesAt slots last b) (may : Bool)
    (ss : List Standing) (stands : Stands text read slots ss) where
  abbrev front : List Standing
  front = lines_before read slots last.slot last.index

  split : ss ≡ front ++ end.line ∷ []
  split = sym stands.are ∙ split_at read slots last.slot last.index ∙ ap (λ r. front ++ r) end.from

  pub ends_so : ends_empty ss ≡ b
  ends_so = ap ends_empty split ∙ last_empty end.line front ∙ sym (tells text read stands.kept end.line end.there)

  pub parting : (filled close : Bool) → TellsFilled read slots last filled → TellsClose read slots last close → (may && wants_blank ss) ≡ (may && (b && (filled && not close)))
  parting filled close is_filled is_close_so =
      let left : but_last ss ≡ front = ap but_last split ∙ last_left end.line front in
      ap₂ (λ x y. may && (x && y)) ends_so
      (ap₂ (λ x y. x && not y) (ap ends_filled left ∙ sym is_filled) (ap (is_close []) left ∙ sym is_close_so))

  pub no_parting : b ≡ false → false ≡ (may && wants_blank ss)
  no_parting is = sym (ap (λ x. may && (x && (ends_filled (but_last ss) && not (is_close [] (but_last ss))))) (ends_so ∙ is) ∙ never may)
    where
      never : (x : Bool) → (x && false) ≡ false
      never true = refl
      never false = refl

-- ---- the end of the text

and_true : (b : Bool) → (b && true) ≡ b
and_true true = refl
and_true false = refl

last_byte : (text : List ℕ) → bytes_eq (slice_range text (length text - 1) (length text)) (0x0A ∷ []) ≡ ends_in_newline text
last_byte [] = refl
last_byte (b ∷ []) = and_true (b == 0x0A)
last_byte (b ∷ c ∷ bs) =
    let behind : length (b ∷ c ∷ bs) - 1 ≡ suc (length (c ∷ bs) - 1) = omega arith in
    let one : length (b ∷ c ∷ bs) - (length (b ∷ c ∷ bs) - 1) ≡ length (c ∷ bs) - (length (c ∷ bs) - 1) = omega arith in
    ap (λ t. bytes_eq t (0x0A ∷ [])) (ap₂ (λ n k. take n (drop k (b ∷ c ∷ bs))) one behind) ∙ last_byte (c ∷ bs)

last_is : (text : List ℕ) → ends_in_newline text ≡ true → slice_index text (length text - 1) ≡ 0x0A
last_is [] h = absurd (true≢false (sym h))
last_is (b ∷ []) h = eqb-true b 0x0A h
last_is (b ∷ c ∷ bs) h =
    let behind : length (b ∷ c ∷ bs) - 1 ≡ suc (length (c ∷ bs) - 1) = omega arith in
    ap (slice_index (b ∷ c ∷ bs)) behind ∙ last_is (c ∷ bs) h

newline_held : (text : List ℕ) (span : Span) → span.start ≡ length text - 1 → span.end ≡ length text → ends_in_newline text ≡ true → IsHeld text span
newline_held text span start end h = record {
  order = omega (arith, start, end);
  start = (omega (arith, start), λ low high. absurd (let e = ap (slice_index text) start ∙ last_is text h in omega (arith, e, high)));
  end = (omega (arith, end), λ low. absurd (omega (arith, low, end)));
}

pub not_held : (text : List ℕ) (span : Span) (holds : Bool) → span.start ≡ length text - 1 → span.end ≡ length text → IsTrue holds ↔ IsHeld text span → holds ≡ false
    → holds ≡ ends_in_newline text
not_held text span holds start end tells is = is ∙ by (ends_in_newline text) refl
  where
    by : (b : Bool) → ends_in_newline text ≡ b → false ≡ b
    by true h = absurd (true≢false (sym (tells.1 (newline_held text span start end h)) ∙ is))
    by false h = refl

pub held_so : (text bytes : List ℕ) (start end : ℕ) → start ≡ length text - 1 → end ≡ length text → bytes ≡ slice_range text start end
    → bytes_eq bytes (0x0A ∷ []) ≡ ends_in_newline text
held_so text bytes start end start_is end_is is =
    ap (λ t. bytes_eq t (0x0A ∷ [])) (is ∙ ap₂ (slice_range text) start_is end_is) ∙ last_byte text

-- ---- what is put in

header_of_put : (p : Address) (brackets : Brackets) (ws style : List ℕ) (read : Read) (old : List Slot) (behind next : Position) → next.slot ≡ behind.slot
    → next.index ≡ behind.index + 1 → ws ≡ header_ws p (lines_before read old next.slot next.index)
    → lines_before read old next.slot next.index ++ new_header p brackets ws style ∷ lines_from read old next.slot next.index
    ≡ put_behind (λ front. header_behind p brackets front style) read old behind
header_of_put p brackets ws style read old behind next slot index is =
    ap (λ w. lines_before read old next.slot next.index ++ new_header p brackets w style ∷ lines_from read old next.slot next.index) is
    ∙ ap₂ (λ k i. lines_before read old k i ++ new_header p brackets (header_ws p (lines_before read old k i)) style ∷ lines_from read old k i) slot index

pub beside_put : (p : Address) (brackets : Brackets) (steps : List (String Global)) (style : List ℕ) (read : Read) (behind next : Position) (ws : Leaf) (old now : List Slot)
    (done : Bool) → next.slot ≡ behind.slot → (behind.index + 1 < 2 ^ 64 → next.index ≡ behind.index + 1) → BeginsHeader p read old next ws
    → PutsHeader p brackets (leaf_text ws) steps style read next old now done → PutsBeside p brackets steps style read behind old now done
beside_put p brackets steps style read behind next ws old now done slot index begins puts spells is_line text kept =
    let (own, there, line) = slot_of read old behind is_line.line is_line.there in
    let low : next.slot < length old = subst (λ k. k < length old) (sym slot) (slice_get_within old behind.slot own there) in
    let (kept_now, are, answer) = puts spells low text kept in
    (kept_now, are ∙ header_of_put p brackets (leaf_text ws) style read old behind next slot (index is_line.next) begins, answer)

-- a blank line
pub blank_put : (style text : List ℕ) (read : Read) (last : Position) (l : Line) (old now : List Slot) (done : Bool) → IsEnd read old last → l.address ≡ None → l.base ≡ None
    → HasOutline (alone Nothing style) l.body → PutsSlots read last l old now → (last.slot < length old → done ≡ true) → PutsBlank style text read old now done
blank_put style text read last l old now done end address base (n, is, outlined) puts answers ss stands some empty =
    let (slot, there, own) = slot_of read old last end.line end.there in
    let low = slice_get_within old last.slot slot there in
    let (kept, are) = puts low text stands.kept (kept_new text read (alone Nothing style) l.body (n, is, outlined)) in
    let front = lines_before read old last.slot last.index in
    let split : ss ≡ front ++ end.line ∷ [] = sym stands.are ∙ split_at read old last.slot last.index ∙ ap (λ r. front ++ r) end.from in
    let made : line_standing read l ≡ blank_line style =
    ap₂ (λ x y. record { address = x; base = y; outline = body_outline read l.body }) address base
    ∙ ap (λ x. record { address = None; base = None; outline = x }) (ap (body_outline read) is ∙ outlined) in
    let none : has_no_bytes end.line.outline ≡ true = sym (last_empty end.line front) ∙ ap ends_empty (sym split) ∙ empty in (
      record {
        kept = kept;
        are =
            are ∙ ap₂ (λ x r. front ++ x ∷ r) made end.from
            ∙ sym (ap (put_at_text_end blank_line style) split ∙ last_put blank_line style end.line front
            ∙ ap (λ b. front ++ cond b (blank_line style ∷ end.line ∷ []) (put_after blank_line style end.line end.line.outline.newline)) none);
      },
      answers low,
    )

-- lines with one more at the end are not none
put_some : (new : List ℕ → Standing) (style : List ℕ) (ss : List Standing) → (ss ≡ [] → ⊥) → put_at_text_end new style ss ≡ [] → ⊥
put_some new style [] some h = some refl
put_some new style (s ∷ []) some h = by (has_no_bytes s.outline) s.outline.newline h
  where
    by : (b : Bool) (newline : List ℕ) → cond b (new style ∷ s ∷ []) (put_after new style s newline) ≡ [] → ⊥
    by true newline h = cc
    by false [] h = cc
    by false (x ∷ xs) h = cc
put_some new style (s ∷ t ∷ ss) some h = cc

-- ---- where it goes

module _ (q p : Address) (brackets : Brackets) (steps : List (String Global)) (read : Read) (old : Tree) where
  abbrev style : List ℕ
  style = leaf_text old.style

  abbrev text : List ℕ
  text = text_of old.texts.source

  ws_is : (end : Position) (ws : Leaf) (ss : List Standing) → IsBehindAll read old.slots.items end → BeginsHeader p read old.slots.items end ws
      → slots_standing read old.slots.items ≡ ss → leaf_text ws ≡ header_ws p ss
  ws_is end ws ss behind begins are = begins ∙ ap (header_ws p) (behind ∙ are)

  -- at the end, without a blank line
  pub end_put : (now : Tree) (end : Position) (ws : Leaf) (parts done : Bool) → IsBehindAll read old.slots.items end → BeginsHeader p read old.slots.items end ws
      → TellsBlankDue read old parts → parts ≡ false → KeepsRest old now
      → PutsLast p brackets (leaf_text ws) steps style text read old.slots.items now.slots.items done → PutsAtEnd p brackets steps read old now done
  end_put now end ws parts done behind begins tells is keeps puts spells ss stands some =
      let (put, answer) = puts spells ss stands some in
      let none : (may_write_blank old && wants_blank ss) ≡ false = sym (tells ss stands) ∙ is in (
        subst (Stands text read now.slots.items)
            (ap₂ (λ w b. put_at_text_end (new_header p brackets w) style (cond b (put_at_text_end blank_line style ss) ss)) (ws_is end ws ss behind begins stands.are)
            (sym none))
            put,
        answer,
        keeps.blank ∙ sym (or-false old.has_written_blank) ∙ ap (λ b. old.has_written_blank || b) (sym none),
      )

  -- and behind one
  pub parted_put : (mid now : Tree) (end : Position) (ws : Leaf) (parts blank done : Bool) → IsBehindAll read old.slots.items end → BeginsHeader p read old.slots.items end ws
      → TellsBlankDue read old parts → parts ≡ true → KeepsTexts old mid → (blank ≡ true → mid.has_written_blank ≡ true)
      → PutsBlank style text read old.slots.items mid.slots.items blank → KeepsRest mid now
      → PutsLast p brackets (leaf_text ws) steps (leaf_text mid.style) (text_of mid.texts.source) read mid.slots.items now.slots.items done
      → PutsAtEnd p brackets steps read old now done
  parted_put mid now end ws parts blank done behind begins tells is rest wrote puts_blank keeps puts spells ss stands some =
      let parted : (may_write_blank old && wants_blank ss) ≡ true = sym (tells ss stands) ∙ is in
      let empty : ends_empty ss ≡ true = (and_parts (ends_empty ss) _ (and_parts (may_write_blank old) (wants_blank ss) parted).1).0 in
      let (blank_put, told) = puts_blank ss stands some empty in
      let last = subst (λ s. PutsLast p brackets (leaf_text ws) steps s text read mid.slots.items now.slots.items done) (ap leaf_text rest.style)
      (subst (λ x. PutsLast p brackets (leaf_text ws) steps (leaf_text mid.style) (text_of x.source) read mid.slots.items now.slots.items done) rest.texts puts) in
      let (put, answer) = last spells (put_at_text_end blank_line style ss) blank_put (put_some blank_line style ss some) in (
        subst (Stands text read now.slots.items)
            (ap₂ (λ w b. put_at_text_end (new_header p brackets w) style (cond b (put_at_text_end blank_line style ss) ss)) (ws_is end ws ss behind begins stands.are) (sym parted))
            put,
        answer,
        keeps.blank ∙ wrote told ∙ sym (or-true old.has_written_blank) ∙ ap (λ b. old.has_written_blank || b) (sym parted),
      )

  -- the blank line is always put in
  pub never_left : (mid now : Tree) (parts blank done : Bool) → TellsBlankDue read old parts → parts ≡ true → PutsBlank style text read old.slots.items mid.slots.items blank
      → blank ≡ false → PutsAtEnd p brackets steps read old now done
  never_left mid now parts blank done tells is puts_blank no_blank spells ss stands some =
      let parted : (may_write_blank old && wants_blank ss) ≡ true = sym (tells ss stands) ∙ is in
      let empty : ends_empty ss ≡ true = (and_parts (ends_empty ss) _ (and_parts (may_write_blank old) (wants_blank ss) parted).1).0 in
      absurd (true≢false (sym (puts_blank ss stands some empty).1 ∙ no_blank))

  -- behind the last section of the family
  pub follows_beside : (now : Tree) (behind : Position) (done : Bool) → FindsBeside q p read old.slots.items (Some behind)
      → KeepsRest old now → PutsBeside p brackets steps style read behind old.slots.items now.slots.items done
      → TreeFollows q p brackets steps read old now done
  follows_beside now behind done finds keeps puts own spells ss stands some =
      let (is_line, found) = finds own in
      let (kept, are, answer) = puts spells is_line text stands.kept in
      let new = λ (front : List Standing). header_behind p brackets front style in
      let there = ap (λ x. behind_family (family q p x) new x) (sym stands.are) ∙ found new in (
        record {
          kept = kept;
          are = are ∙ sym (ap (or_at_end p brackets style (may_write_blank old) ss) there);
        },
        answer,
        keeps.blank ∙ sym (or-false old.has_written_blank)
            ∙ ap (λ o. old.has_written_blank || (not (is_some o) && (may_write_blank old && wants_blank ss))) (sym there),
      )

  -- or at the end
  pub follows_at_end : (now : Tree) (done : Bool) → FindsBeside q p read old.slots.items None → PutsAtEnd p brackets steps read old now done
      → TreeFollows q p brackets steps read old now done
  follows_at_end now done finds puts own spells ss stands some =
      let (is_line, found) = finds own in
      let new = λ (front : List Standing). header_behind p brackets front style in
      let there = ap (λ x. behind_family (family q p x) new x) (sym stands.are) ∙ found new in
      let (put, answer, wrote) = puts spells ss stands some in (
        subst (Stands text read now.slots.items) (sym (ap (or_at_end p brackets style (may_write_blank old) ss) there)) put,
        answer,
        wrote ∙ ap (λ o. old.has_written_blank || (not (is_some o) && (may_write_blank old && wants_blank ss))) (sym there),
      )
