-- A header line that is put in.
use Rattle.std.proofs.Common.{◌≡◌, ◌∙◌, ℕ, zero, suc, ◌+◌, ◌-◌, ◌^◌, ◌<◌, ◌≤◌, Bool, true, false, cond, List, [], ◌∷◌, ◌++◌, length, Option, Some, None, refl, ap, ap₂, sym, subst, arith, append_assoc}
use Rattle.std.specs.Prelude.{option_and_then, slice_get}
use Rattle.std.specs.declared.alloc.Global.{Global}
use Rattle.std.specs.declared.string.String.{String}
use Rattle.std.proofs.lemmas.Option.{none-some, slice_get_within}
use Rattle.toml_names.specs.model.Addresses.{Address}
use Rattle.toml_text.specs.Source.{text_of}
use Rattle.toml_layout.specs.declared.texts.Texts.{Texts}
use Rattle.toml_layout.specs.declared.tree.Brackets.{Brackets}
use Rattle.toml_working.specs.declared.lines.Line.{Line}
use Rattle.toml_working.specs.declared.lines.Slot.{Slot}
use Rattle.toml_working.specs.declared.working.Position.{Position}
use Rattle.toml_working.specs.Headers.{ElementStands, before_next, has_no_bytes, header_outline, new_header, or_at_text_end, put_after, put_at_text_end}
use Rattle.toml_working.specs.Looking.{BodyBegins}
use Rattle.toml_working.specs.NextHeaders.{FindsPlace}
use Rattle.toml_working.specs.OpeningLines.{HasOutline}
use Rattle.toml_working.specs.Placing.{lines_before, lines_from}
use Rattle.toml_working.specs.Putting.{EndsBefore, PutsSlots, ended_before, newline_behind}
use Rattle.toml_working.specs.PuttingHeaders.{AddsPlainly, HasNoBytesAt, IsEnd, IsHeaderOf, PutsHeader, PutsLast}
use Rattle.toml_working.specs.Standing.{Standing, Read, body_outline, line_standing, slot_standing, slots_standing}
use Rattle.toml_working.proofs.AtPlace.{slot_of}
use Rattle.toml_working.proofs.Looked.{body_begun}
use Rattle.toml_working.proofs.Placed.{behind_line, from_first, from_line, from_next, split_at}
use Rattle.toml_working.proofs.PutRoot.{kept_new}

-- ---- the line

header_stands : (read : Read) (p : Address) (brackets : Brackets) (ws newline : List ℕ) (l : Line) → l.address ≡ Some p → l.base ≡ None
    → HasOutline (header_outline p brackets ws newline) l.body → line_standing read l ≡ new_header p brackets ws newline
header_stands read p brackets ws newline l address base (n, is, outlined) =
    ap₂ (λ x y. record { address = x; base = y; outline = body_outline read l.body }) address base
    ∙ ap (λ x. record { address = Some p; base = None; outline = x }) (ap (body_outline read) is ∙ outlined)

pub header_put : (p : Address) (brackets : Brackets) (ws : List ℕ) (steps : List (String Global)) (style : List ℕ) (read : Read) (at : Position) (l laid : Line)
    (old now : List Slot) (done : Bool) → IsHeaderOf p brackets steps style l → laid.address ≡ l.address → laid.base ≡ l.base → BodyBegins ws None l.body laid.body
    → PutsSlots read at laid old now → (at.slot < length old → done ≡ true) → PutsHeader p brackets ws steps style read at old now done
header_put p brackets ws steps style read at l laid old now done is address_same base_same begins puts answers spells low text kept =
    let (address, base, outlined) = is spells in
    let begun = body_begun ws None l.body laid.body (header_outline p brackets [] style) outlined begins in
    let (kept_now, are) = puts low text kept (kept_new text read _ laid.body begun) in (
      kept_now,
      are ∙ ap (λ s. lines_before read old at.slot at.index ++ s ∷ lines_from read old at.slot at.index)
          (header_stands read p brackets ws style laid (address_same ∙ address) (base_same ∙ base) begun),
      answers low,
    )

-- ---- the last line

pub none_of_all : (read : Read) (slots : List Slot) (k : ℕ) → k ≤ 0 → lines_from read slots k 0 ≡ [] → slots_standing read slots ≡ []
none_of_all read slots k low none =
    let first : k ≡ 0 = omega (arith, low) in
    sym (from_first read slots) ∙ ap (λ n. lines_from read slots n 0) (sym first) ∙ none

module _ (read : Read) (slots : List Slot) (here count : ℕ) (slot : Slot) (some : 0 < here) (there : slice_get slots (here - 1) ≡ Some slot)
    (counts : count ≡ length (slot_standing read slot)) (none : lines_from read slots here 0 ≡ []) where
  behind_slot : (i : ℕ) → length (slot_standing read slot) ≤ i → lines_from read slots (here - 1) i ≡ []
  behind_slot i past =
      let again : (here - 1) + 1 ≡ here = omega (arith, some) in
      from_next read slots (here - 1) i slot there past ∙ ap (λ n. lines_from read slots n 0) again ∙ none

  -- a slot without lines
  pub none_here : count ≡ 0 → lines_from read slots (here - 1) 0 ≡ []
  none_here empty = behind_slot 0 (omega (arith, counts, empty))

  -- the last line of a slot
  pub end_here : (index : ℕ) → count ≡ index + 1 → count < 2 ^ 64 → IsEnd read slots (record { slot = here - 1; index = index })
  end_here index is low =
      let (s, own) = line_within (slot_standing read slot) index (omega (arith, is, counts)) in
      record {
        line = s;
        there = ap (option_and_then (λ (x : Slot). slice_get (slot_standing read x) index)) there ∙ own;
        next = omega (arith, is, low);
        from =
            from_line read slots (here - 1) index slot s there own
            ∙ ap (λ r. s ∷ r) (behind_slot (index + 1) (omega (arith, is, counts)));
      }
    where
      line_within : (ss : List Standing) (n : ℕ) → n < length ss → (s : Standing) × (slice_get ss n ≡ Some s)
      line_within [] n low = absurd (omega (arith, low))
      line_within (s ∷ ss) zero low = (s, refl)
      line_within (s ∷ ss) (suc n) low = line_within ss n (omega (arith, low))

pub last_put : (new : List ℕ → Standing) (style : List ℕ) (s : Standing) (front : List Standing)
    → put_at_text_end new style (front ++ s ∷ []) ≡ front ++ cond (has_no_bytes s.outline) (new style ∷ s ∷ []) (put_after new style s s.outline.newline)
last_put new style s [] = refl
last_put new style s (x ∷ []) = refl
last_put new style s (x ∷ y ∷ front) = ap (λ r. x ∷ r) (last_put new style s (y ∷ front))

put_after_is : (new : List ℕ → Standing) (style : List ℕ) (s : Standing) (newline : List ℕ)
    → put_after new style s newline ≡ ended_before style s newline ∷ new (newline_behind style newline) ∷ []
put_after_is new style s [] = refl
put_after_is new style s (b ∷ bs) = refl

module _ (p : Address) (brackets : Brackets) (ws : List ℕ) (steps : List (String Global)) (style : List ℕ) (texts : Texts) (read : Read) where
  abbrev new : List ℕ → Standing
  new = new_header p brackets ws

  abbrev text : List ℕ
  text = text_of texts.source

  end_split : (old : List Slot) (at : Position) (end : IsEnd read old at) → slots_standing read old ≡ lines_before read old at.slot at.index ++ end.line ∷ []
  end_split old at end = split_at read old at.slot at.index ∙ ap (λ r. lines_before read old at.slot at.index ++ r) end.from

  -- it goes before the last line, which has no bytes
  pub before_end : (at : Position) (old now : List Slot) (done b : Bool) → IsEnd read old at → HasNoBytesAt old at b → b ≡ true
      → PutsHeader p brackets ws steps style read at old now done → PutsLast p brackets ws steps style text read old now done
  before_end at old now done b end tells is puts spells ss stands some =
      let (slot, there, own) = slot_of read old at end.line end.there in
      let (kept, are, answer) = puts spells (slice_get_within old at.slot slot there) text stands.kept in
      let front = lines_before read old at.slot at.index in
      let empty : has_no_bytes end.line.outline ≡ true = sym (tells text read stands.kept end.line end.there) ∙ is in (
        record {
          kept = kept;
          are =
              are ∙ ap (λ r. front ++ new style ∷ r) end.from
              ∙ sym (ap (λ c. front ++ cond c (new style ∷ end.line ∷ []) (put_after new style end.line end.line.outline.newline)) empty)
              ∙ sym (last_put new style end.line front) ∙ ap (put_at_text_end new style) (sym (end_split old at end) ∙ stands.are);
        },
        answer,
      )

  -- or behind it
  pub behind_end : (at next : Position) (old mid now : List Slot) (newline : List ℕ) (l laid : Line) (done b : Bool) → IsEnd read old at → HasNoBytesAt old at b
      → b ≡ false → EndsBefore style texts read at old mid newline → IsHeaderOf p brackets steps newline l → laid.address ≡ l.address → laid.base ≡ l.base
      → BodyBegins ws None l.body laid.body → next.slot ≡ at.slot → (at.index + 1 < 2 ^ 64 → next.index ≡ at.index + 1) → PutsSlots read next laid mid now
      → (next.slot < length mid → done ≡ true) → PutsLast p brackets ws steps style text read old now done
  behind_end at next old mid now newline l laid done b end tells is ends is_line address_same base_same begins slot index puts answers spells ss stands some =
      let s = end.line in
      let (own_slot, there, own) = slot_of read old at s end.there in
      let (kept_mid, ended) = ends stands.kept in
      let (becomes, newline_is) = ended s end.there in
      let (address, base, outlined) = is_line spells in
      let begun = body_begun ws None l.body laid.body (header_outline p brackets [] newline) outlined begins in
      let within : next.slot < length mid =
      subst (λ k. k < length mid) (sym slot) (subst (λ n. at.slot < n) (sym becomes.count) (slice_get_within old at.slot own_slot there)) in
      let (kept_now, are) = puts within text kept_mid (kept_new text read _ laid.body begun) in
      let front = lines_before read old at.slot at.index in
      let before : lines_before read mid next.slot next.index ≡ front ++ ended_before style s s.outline.newline ∷ [] =
      ap₂ (lines_before read mid) slot (index end.next) ∙ becomes.before in
      let behind : lines_from read mid next.slot next.index ≡ [] =
      ap₂ (lines_from read mid) slot (index end.next) ∙ becomes.behind ∙ sym (behind_line read old at s [] end.there end.from) in
      let made : line_standing read laid ≡ new (newline_behind style s.outline.newline) =
      header_stands read p brackets ws newline laid (address_same ∙ address) (base_same ∙ base) begun ∙ ap new newline_is in
      let full : has_no_bytes s.outline ≡ false = sym (tells text read stands.kept s end.there) ∙ is in (
        record {
          kept = kept_now;
          are =
              are ∙ ap₂ (λ x y. x ++ line_standing read laid ∷ y) before behind
              ∙ append_assoc front (ended_before style s s.outline.newline ∷ []) (line_standing read laid ∷ [])
              ∙ ap (λ x. front ++ (ended_before style s s.outline.newline ∷ x ∷ [])) made
              ∙ ap (λ x. front ++ x) (sym (put_after_is new style s s.outline.newline))
              ∙ sym (ap (λ c. front ++ cond c (new style ∷ s ∷ []) (put_after new style s s.outline.newline)) full)
              ∙ sym (last_put new style s front) ∙ ap (put_at_text_end new style) (sym (end_split old at end) ∙ stands.are);
        },
        answers within,
      )

  -- there is no line
  pub no_end : (old now : List Slot) (done : Bool) → slots_standing read old ≡ [] → PutsLast p brackets ws steps style text read old now done
  no_end old now done none spells ss stands some = absurd (some (sym stands.are ∙ none))

-- ---- where it goes

module _ (p : Address) (brackets : Brackets) (steps : List (String Global)) (style : List ℕ) (texts : Texts) (read : Read) where
  abbrev plain : List ℕ → Standing
  plain = new_header p brackets []

  pub at_next : (element : Option Address) (next : Position) (old now : List Slot) (done : Bool) → FindsPlace element read.units old (Some next)
      → PutsHeader p brackets [] steps style read next old now done → AddsPlainly element p brackets steps style (text_of texts.source) read old now done
  at_next None next old now done finds puts spells ss stands some element = absurd (none-some next (sym finds))
  at_next (Some e) next old now done finds puts spells ss stands some element =
      let (low, put) = finds read.lines (subst (ElementStands (Some e)) (sym stands.are) element) in
      let (kept, are, answer) = puts spells low (text_of texts.source) stands.kept in (
        record {
          kept = kept;
          are = are ∙ sym (ap (or_at_text_end plain style ss) (ap (before_next e (plain style)) (sym stands.are) ∙ put (plain style)));
        },
        answer,
      )

  pub at_end : (element : Option Address) (old now : List Slot) (done : Bool) → FindsPlace element read.units old None
      → PutsLast p brackets [] steps style (text_of texts.source) read old now done → AddsPlainly element p brackets steps style (text_of texts.source) read old now done
  at_end None old now done finds puts spells ss stands some element = puts spells ss stands some
  at_end (Some e) old now done finds puts spells ss stands some element =
      let (low, put) = finds read.lines (subst (ElementStands (Some e)) (sym stands.are) element) in
      let (last, answer) = puts spells ss stands some in (
        record {
          kept = last.kept;
          are = last.are ∙ sym (ap (or_at_text_end plain style ss) (ap (before_next e (plain style)) (sym stands.are) ∙ put (plain style)));
        },
        answer,
      )
