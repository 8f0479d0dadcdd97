-- A line with a key and a value that is put into the section of a table.
use Rattle.std.proofs.Common.{◌≡◌, ◌∙◌, inl, inr, ℕ, ◌+◌, ◌^◌, ◌<◌, true, false, List, [], ◌∷◌, ◌++◌, length, Option, Some, None, refl, ap, ap₂, sym, subst, append_assoc, true≢false}
use Rattle.std.specs.Prelude.{IfSome, MatchOption, option_map}
use Rattle.std.specs.List.{list_any}
use Rattle.std.specs.Option.{unwrap_or}
use Rattle.std.specs.declared.alloc.Global.{Global}
use Rattle.std.specs.declared.string.String.{String}
use Rattle.std.proofs.lemmas.List.{append_cancel_right}
use Rattle.std.proofs.lemmas.Option.{none-some, same_Some}
use Rattle.toml_names.specs.declared.model.address.Step.{Step}
use Rattle.toml_names.specs.declared.model.address.Step.TheVariants.{Name}
use Rattle.toml_names.specs.model.Addresses.{Address}
use Rattle.toml_text.specs.Source.{text_of}
use Rattle.toml_units.specs.declared.unit.Unit.{Unit as ReadUnit}
use Rattle.toml_layout.specs.Outlines.{ValueOutline}
use Rattle.toml_layout.specs.declared.texts.Texts.{Texts}
use Rattle.toml_working.specs.declared.lines.Slot.{Slot}
use Rattle.toml_working.specs.declared.lines.Sought.{Sought}
use Rattle.toml_working.specs.declared.lines.Sought.TheVariants as sought
use Rattle.toml_working.specs.declared.working.Position.{Position}
use Rattle.toml_working.specs.FirstKeys.{spacing_put}
use Rattle.toml_working.specs.InsertStanding.{has_pair, line_put}
use Rattle.toml_working.specs.Manners.{Manner}
use Rattle.toml_working.specs.Placing.{lines_before, lines_from}
use Rattle.toml_working.specs.Putting.{PutsBehind}
use Rattle.toml_working.specs.Sections.{EndsSection, FindsSectionEnd, InsertsBelow, IsBehindHeader, IsEndFrom, IsOfSectionAt, is_of_section}
use Rattle.toml_working.specs.Seeing.{AreHeaded, IsSoughtAt, found, is_sought_line, line_at}
use Rattle.toml_working.specs.Standing.{Standing, Read, AreOrdered, StandAlone, holds, slots_standing}
use Rattle.toml_working.specs.Stands.{Stands}
use Rattle.toml_working.proofs.Alone.{IsOfTable, below_pairs, sought_there}
use Rattle.toml_working.proofs.Pairwise.{pairs_of_all}
use Rattle.toml_working.proofs.RemovedOne.{any_split}
use Rattle.toml_working.proofs.AtPlace.{slot_of}
use Rattle.toml_working.proofs.Placed.{behind_line, from_line, split_at}

-- the guess, or what is found from the place on
pub end_of_guess : (q : Address) (units : List ReadUnit) (slots : List Slot) (start from : Position) (at : Position) → IsEndFrom units slots start at
    → IsOfSectionAt q units slots at → FindsSectionEnd q units slots from (Some at)
end_of_guess q units slots start from at ends there lines =
    let last = ends lines in
    record { start = start; last = last; there = inr (subst (λ o. IfSome o (λ (s : Standing). is_of_section q s ≡ true)) last.there (there lines)) }

-- ---- the line is put in

-- the line that is found at a place
pub sought_here : (what : Sought) (q : Address) (read : Read) (slots : List Slot) (at : Position) → IsSoughtAt what q read slots at
    → (s : Standing) × (line_at read slots at ≡ Some s) × (is_sought_line what q s ≡ true)
sought_here what q read slots at found = by (line_at read slots at) refl found
  where
    by : (o : Option Standing) → line_at read slots at ≡ o → option_map (is_sought_line what q) o ≡ Some true
        → (s : Standing) × (line_at read slots at ≡ Some s) × (is_sought_line what q s ≡ true)
    by None there e = absurd (none-some true e)
    by (Some s) there e = (s, there, same_Some (is_sought_line what q s) true e)

pub header_here : (q : Address) (read : Read) (slots : List Slot) (at : Position) → IsSoughtAt sought.Header q read slots at
    → (h : Standing) × (line_at read slots at ≡ Some h) × (is_sought_line sought.Header q h ≡ true)
header_here = sought_here sought.Header

module _ (q own : Address) (base : ℕ) (steps : List (String Global)) (v : ValueOutline) (manner : Manner) (texts : Texts) (read : Read)
    (header next : Position) (old now : List Slot) (slot : next.slot ≡ header.slot) (index : header.index + 1 < 2 ^ 64 → next.index ≡ header.index + 1)
    (at_base : base ≡ length q) (finds : AreHeaded q (slots_standing read old) → IsSoughtAt sought.Header q read old header × (header.index + 1 < 2 ^ 64)) where
  behind_header : (low : header.index + 1 < 2 ^ 64) (h : Standing) → line_at read old header ≡ Some h
      → slots_standing read old ≡ lines_before read old header.slot header.index ++ h ∷ lines_from read old next.slot next.index
  behind_header low h there =
      let (it, slot_is, line_is) = slot_of read old header h there in
      split_at read old header.slot header.index
      ∙ ap (λ r. lines_before read old header.slot header.index ++ r)
      (from_line read old header.slot header.index it h slot_is line_is ∙ ap (λ r. h ∷ r) (sym (ap₂ (lines_from read old) slot (index low))))

  -- behind the header, where the section has no line with a key and a value
  pub puts_first : has_pair (lines_from read old next.slot next.index) ≡ false → PutsBehind own base steps v manner texts read header old now
      → InsertsBelow q own steps v manner (text_of texts.source) read old now
  puts_first none puts name named ss stands headed =
      let (found, low) = finds (subst (AreHeaded q) (sym stands.are) headed) in
      let (h, there, heads) = header_here q read old header found in
      let (kept, are) = puts q at_base (name ∷ []) named low stands.kept h there in
      let behind : lines_from read old next.slot next.index ≡ lines_from read old header.slot (header.index + 1) = ap₂ (lines_from read old) slot (index low) in (
        slots_standing read now,
        record { kept = kept; are = refl },
        record {
          front = lines_before read old header.slot header.index;
          line = h;
          back = lines_from read old header.slot (header.index + 1);
          was = sym stands.are ∙ behind_header low h there ∙ ap (λ r. lines_before read old header.slot header.index ++ h ∷ r) behind;
          last = ap has_pair (sym behind) ∙ none;
          below = inl heads;
          is = are;
        },
      )

  -- behind the last one
  pub puts_last : (at : Position) → EndsSection q read old next at → PutsBehind own base steps v manner texts read at old now
      → InsertsBelow q own steps v manner (text_of texts.source) read old now
  puts_last at ends puts name named ss stands headed =
      let (found, low) = finds (subst (AreHeaded q) (sym stands.are) headed) in
      let (h, there, heads) = header_here q read old header found in
      let last = ends.last in
      let (kept, are) = puts q at_base (name ∷ []) named last.next stands.kept last.line last.there in
      let split : slots_standing read old ≡ lines_before read old at.slot at.index ++ last.line ∷ last.back =
      split_at read old at.slot at.index ∙ ap (λ r. lines_before read old at.slot at.index ++ r) last.from in
      let behind : last.back ≡ lines_from read old at.slot (at.index + 1) = behind_line read old at last.line last.back last.there last.from in
      let below_header : (ends.start.slot ≡ next.slot) × (ends.start.index ≡ next.index) → IsBehindHeader q (lines_before read old at.slot at.index) =
      λ same. (
        lines_before read old header.slot header.index,
        h,
        last.front,
        append_cancel_right _ _ (last.line ∷ last.back)
            (sym split ∙ behind_header low h there
            ∙ ap (λ r. lines_before read old header.slot header.index ++ h ∷ r) (sym (ap₂ (lines_from read old) same.0 same.1) ∙ last.is)
            ∙ sym (append_assoc (lines_before read old header.slot header.index) (h ∷ last.front) (last.line ∷ last.back))),
        heads,
        last.heads,
      ) in (
        slots_standing read now,
        record { kept = kept; are = refl },
        record {
          front = lines_before read old at.slot at.index;
          line = last.line;
          back = last.back;
          was = sym stands.are ∙ split;
          last = last.none;
          below = elim ends.there [
            | inl same ↦ inr (inr (last.pair, below_header same))
            | inr of_section ↦ inr (inl of_section)
          ];
          is =
              are
              ∙ ap (λ r. lines_before read old at.slot at.index ++ (line_put q (spacing_put manner (lines_before read old at.slot at.index) last.line) (name ∷ []) v manner last.line last.line.outline.newline ++ r)) (sym behind);
        },
      )

pub front_is : (q r : Address) (x y : Step) → q ++ x ∷ [] ≡ r ++ y ∷ [] → q ≡ r
front_is [] [] x y e = refl
front_is [] (s ∷ []) x y e = cc
front_is [] (s ∷ t ∷ r) x y e = cc
front_is (s ∷ []) [] x y e = cc
front_is (s ∷ t ∷ q) [] x y e = cc
front_is (s ∷ q) (t ∷ r) x y e =
    let rest : q ++ x ∷ [] ≡ r ++ y ∷ [] = cc in
    let same : s ≡ t = cc in
    ap₂ (λ u w. u ∷ w) same (front_is q r x y rest)

-- behind what is found of the section, or behind the header
pub puts_below : (q above : Address) (last : Step) (own : Address) (base : ℕ) (steps : List (String Global)) (v : ValueOutline) (manner : Manner) (texts : Texts)
    (read : Read) (header next behind : Position) (old now : List Slot) (r : Option Position) → own ≡ above ++ last ∷ [] → base ≡ length above
    → next.slot ≡ header.slot → (header.index + 1 < 2 ^ 64 → next.index ≡ header.index + 1)
    → (AreHeaded q (slots_standing read old) → IsSoughtAt sought.Header q read old header × (header.index + 1 < 2 ^ 64))
    → MatchOption r (has_pair (lines_from read old next.slot next.index) ≡ false) (EndsSection above read old next) → behind ≡ unwrap_or r header
    → PutsBehind own base steps v manner texts read behind old now → InsertsBelow q own steps v manner (text_of texts.source) read old now
puts_below q above last own base steps v manner texts read header next behind old now r own_is at_base slot index finds ends is puts name named =
    let same : above ≡ q = front_is above q last (Name name) (sym own_is ∙ named.at_is) in
    by r (subst (λ a. MatchOption r (has_pair (lines_from read old next.slot next.index) ≡ false) (EndsSection a read old next)) same ends) is
    (at_base ∙ ap length same) name named
  where
    by : (o : Option Position) → MatchOption o (has_pair (lines_from read old next.slot next.index) ≡ false) (EndsSection q read old next)
        → behind ≡ unwrap_or o header → base ≡ length q → InsertsBelow q own steps v manner (text_of texts.source) read old now
    by None none at base_is = puts_first q own base steps v manner texts read header next old now slot index base_is finds none
        (subst (λ b. PutsBehind own base steps v manner texts read b old now) at puts)
    by (Some end) found at base_is = puts_last q own base steps v manner texts read header next old now slot index base_is finds end found
        (subst (λ b. PutsBehind own base steps v manner texts read b old now) at puts)

-- ---- no line holds a table that a line makes, or that stands above a header

-- where such a line stands, none holds the table
made_holds_none : (what : Sought) (q : Address) (ss : List Standing) → IsOfTable what q → StandAlone ss → list_any (is_sought_line what q) ss ≡ true
    → list_any (holds q) ss ≡ false
made_holds_none what q ss is alone there =
    let (front, s, back, split, here) = any_split (is_sought_line what q) ss there in
    let facts = is (found s) here in
    ap (list_any (holds q)) split ∙ below_pairs q front s back (pairs_of_all _ _ (subst StandAlone split alone)) facts.0 facts.1

pub never_held : (what : Sought) (q : Address) (text : List ℕ) (read : Read) (slots : List Slot) (place : Position) → IsOfTable what q → IsSoughtAt sought.Holder q read slots place
    → (ss : List Standing) → Stands text read slots ss → AreOrdered ss → list_any (is_sought_line what q) ss ≡ true → ⊥
never_held what q text read slots place is held ss stands ordered there =
    true≢false (sym (sought_there sought.Holder q read slots place held) ∙ ap (list_any (holds q)) stands.are ∙ made_holds_none what q ss is ordered.alone there)
