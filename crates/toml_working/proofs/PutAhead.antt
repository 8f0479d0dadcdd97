-- A line with a key and a value that is put in for a table which longer headers imply, behind a new header ahead of the first of these.
use Rattle.std.proofs.Common.{◌≡◌, ◌∙◌, inl, inr, ℕ, ◌+◌, ◌^◌, ◌<◌, Bool, true, false, ◌&&◌, cond, not, List, [], ◌∷◌, ◌++◌, drop, length, map, Option, Some, None, refl, ap, ap₂, sym, subst, arith, append_assoc, append-nil, true≢false}
use Rattle.std.specs.Prelude.{is_some, slice_get, string_bytes}
use Rattle.std.specs.List.{list_any}
use Rattle.std.specs.Str.{bytes_eq}
use Rattle.std.specs.declared.alloc.Global.{Global}
use Rattle.std.specs.declared.string.String.{String}
use Rattle.std.proofs.lemmas.Bool.{and_parts}
use Rattle.std.proofs.lemmas.List.{append_cancel_left}
use Rattle.std.proofs.lemmas.List.Folds.{list_any-append}
use Rattle.std.proofs.lemmas.Option.{slice_get_within}
use Rattle.toml_scalar.specs.Spelling.{spelled}
use Rattle.toml_names.specs.declared.model.address.Step.{Step}
use Rattle.toml_names.specs.declared.model.address.Step.TheVariants.{Index, Name}
use Rattle.toml_names.specs.model.Addresses.{Address, child}
use Rattle.toml_text.specs.Source.{text_of}
use Rattle.toml_layout.specs.Looks.{around, begun_as}
use Rattle.toml_layout.specs.OpenOutlines.{leaf_text}
use Rattle.toml_layout.specs.Outlines.{ValueOutline}
use Rattle.toml_layout.specs.Spacings.{plain_spacing}
use Rattle.toml_layout.specs.declared.layout.Layout.{Layout}
use Rattle.toml_layout.specs.declared.layout.Layout.TheVariants as layouts
use Rattle.toml_layout.specs.declared.looks.Equals.{Equals}
use Rattle.toml_layout.specs.declared.looks.Look.{Look}
use Rattle.toml_layout.specs.declared.tree.Brackets.{Brackets}
use Rattle.toml_layout.specs.declared.tree.Brackets.TheVariants.{One}
use Rattle.toml_layout.specs.declared.tree.Leaf.{Leaf}
use Rattle.toml_working.specs.declared.lines.Line.{Line}
use Rattle.toml_working.specs.declared.lines.Slot.{Slot}
use Rattle.toml_working.specs.declared.lines.Sought.TheVariants as sought
use Rattle.toml_working.specs.declared.working.Position.{Position}
use Rattle.toml_working.specs.declared.working.Tree.{Tree}
use Rattle.toml_working.specs.FirstKeys.{fits_behind, found_behind, last_like, spacing_like}
use Rattle.toml_working.specs.Following.{IsLastThat}
use Rattle.toml_working.specs.FollowingHeaders.{is_no_comment}
use Rattle.toml_working.specs.Headers.{new_header}
use Rattle.toml_working.specs.ImpliedTables.{GoesAhead, IsAboveComments, IsAhead, LaysOutBelow, LeadsAhead, PutsAhead, PutsSection, lead_below, section_standing, put_ahead, spacing_below, ws_ahead, ws_like}
use Rattle.toml_working.specs.InsertStanding.{is_bare, is_comment, new_outline, new_standing_in}
use Rattle.toml_working.specs.Looking.{BodyBegins, LooksAt}
use Rattle.toml_working.specs.Manners.{Manner}
use Rattle.toml_working.specs.Placing.{lines_before, lines_from}
use Rattle.toml_working.specs.Putting.{IsNameIn, IsPairLine, PutsSlots, PutsThere, manner}
use Rattle.toml_working.specs.PuttingHeaders.{AreSpellings, PutsHeader}
use Rattle.toml_working.specs.Seeing.{heads_below, is_sought_line, line_at}
use Rattle.toml_working.specs.Spellings.{AreSteps, step_spelled}
use Rattle.toml_working.specs.Standing.{Standing, Read, line_standing, slot_standing}
use Rattle.toml_working.proofs.AtPlace.{slot_of}
use Rattle.toml_working.proofs.Looked.{begun_new, body_begun}
use Rattle.toml_working.proofs.LookedUp.{before_first, place_inside}
use Rattle.toml_working.proofs.Placed.{from_line, split_at}
use Rattle.toml_working.proofs.Put.{before_next}
use Rattle.toml_working.proofs.PutRoot.{kept_new, stands_new}
use Rattle.toml_working.proofs.Sectioned.{sought_here}
use Rattle.toml_working.proofs.WentUp.{both_no}

-- ---- comment lines

not_so : (b : Bool) → not b ≡ true → b ≡ false
not_so true h = absurd (true≢false (sym h))
not_so false h = refl

is_so : (b : Bool) → not b ≡ false → b ≡ true
is_so true h = refl
is_so false h = absurd (true≢false h)

-- they tell nothing of how lines in a section begin
like_past_one : (ws : List ℕ) (fits : Bool) (found : Option Standing) (s : Standing) (ss : List Standing) → is_comment s ≡ true
    → last_like ws fits found (s ∷ ss) ≡ last_like ws fits found ss
like_past_one ws fits found s ss comment = by s.base s.address (and_parts (is_bare s.base s.address) (is_some s.outline.comment) comment).0
  where
    by : (base : Option ℕ) (own : Option Address) → is_bare base own ≡ true
        → last_like ws (fits_behind fits (bytes_eq s.outline.ws ws) base own) (found_behind fits found s base) ss ≡ last_like ws fits found ss
    by (Some n) own bare = absurd (true≢false (sym bare))
    by None None bare = refl
    by None (Some a) bare = absurd (true≢false (sym bare))

like_past : (ws : List ℕ) (fits : Bool) (found : Option Standing) (front between : List Standing) → list_any is_no_comment between ≡ false
    → last_like ws fits found (front ++ between) ≡ last_like ws fits found front
like_past ws fits found [] [] comments = refl
like_past ws fits found [] (s ∷ between) comments =
    let parts = both_no (is_no_comment s) (list_any is_no_comment between) comments in
    like_past_one ws fits found s between (is_so (is_comment s) parts.0) ∙ like_past ws fits found [] between parts.1
like_past ws fits found (s ∷ front) between comments =
    like_past ws (fits_behind fits (bytes_eq s.outline.ws ws) s.base s.address) (found_behind fits found s s.base) front between comments

spacing_past : (layout : Layout) (ws : List ℕ) (front between : List Standing) → LeadsAhead layout front between
    → spacing_below layout ws (front ++ between) ≡ spacing_below layout ws front
spacing_past layouts.Plain ws front between leads = refl
spacing_past layouts.Follow ws front between leads = ap (spacing_like ws) (like_past ws _ None front between leads.0)

-- ---- among lines

module _ (q : Address) where
  abbrev heads_it : Standing → Bool
  heads_it = is_sought_line sought.HeaderBelow q

  -- a header is no comment line
  header_uncommented : (s : Standing) → heads_it s ≡ true → is_comment s ≡ false
  header_uncommented s heads = by s.base s.address heads
    where
      by : (base : Option ℕ) (own : Option Address) → heads_below q base own ≡ true → (is_bare base own && is_some s.outline.comment) ≡ false
      by (Some n) own h = refl
      by None None h = absurd (true≢false (sym h))
      by None (Some a) h = refl

  -- none of the lines in front leads to a header below
  abbrev NoneLeads : Layout → List Standing → List Standing → Type 0
  NoneLeads layout [] rest = Unit {0}
  NoneLeads layout (s ∷ front) rest = (lead_below layout q (s ∷ (front ++ rest)) ≡ false) × NoneLeads layout front rest

  module _ (rest : List Standing) where
    none_plainly : (front : List Standing) → list_any heads_it front ≡ false → NoneLeads layouts.Plain front rest
    none_plainly [] none = tt
    none_plainly (s ∷ front) none = let parts = both_no (heads_it s) (list_any heads_it front) none in (parts.0, none_plainly front parts.1)

    -- a line that is no comment line, and no such header
    not_past : (front : List Standing) (t : Standing) → is_no_comment t ≡ true → list_any heads_it (front ++ t ∷ []) ≡ false
        → lead_below layouts.Follow q ((front ++ t ∷ []) ++ rest) ≡ false
    not_past [] t full none =
        ap (λ b. cond b (lead_below layouts.Follow q rest) (heads_it t)) (not_so (is_comment t) full) ∙ (both_no (heads_it t) false none).0
    not_past (s ∷ front) t full none =
        let parts = both_no (heads_it s) (list_any heads_it (front ++ t ∷ [])) none in
        ap₂ (cond (is_comment s)) (not_past front t full parts.1) parts.0 ∙ both (is_comment s)
      where
        both : (b : Bool) → cond b false false ≡ false
        both true = refl
        both false = refl

    none_up_to : (front : List Standing) (t : Standing) → is_no_comment t ≡ true → list_any heads_it (front ++ t ∷ []) ≡ false
        → NoneLeads layouts.Follow (front ++ t ∷ []) rest
    none_up_to [] t full none = (not_past [] t full none, tt)
    none_up_to (s ∷ front) t full none =
        (not_past (s ∷ front) t full none, none_up_to front t full (both_no (heads_it s) (list_any heads_it (front ++ t ∷ [])) none).1)

    none_leads : (layout : Layout) (front between : List Standing) → LeadsAhead layout front between → list_any heads_it front ≡ false
        → NoneLeads layout front rest
    none_leads layouts.Plain front between leads none = none_plainly front none
    none_leads layouts.Follow front between leads none = elim leads.1 [
      | inl empty ↦ subst (λ f. NoneLeads layouts.Follow f rest) (sym empty) tt
      | inr (above, t, is, full) ↦
          subst (λ f. NoneLeads layouts.Follow f rest) (sym is) (none_up_to above t full (ap (list_any heads_it) (sym is) ∙ none))
    ]

  module _ (s : Standing) (back : List Standing) (heads : heads_it s ≡ true) where
    -- over comment lines a header is led to, and its whitespace is taken
    past_comments : (between : List Standing) → list_any is_no_comment between ≡ false
        → (lead_below layouts.Follow q (between ++ s ∷ back) ≡ true) × (ws_ahead layouts.Follow (between ++ s ∷ back) ≡ s.outline.ws)
    past_comments [] comments =
        let full = header_uncommented s heads in (
          ap (λ b. cond b (lead_below layouts.Follow q back) (heads_it s)) full ∙ heads,
          ap (λ b. cond b (ws_ahead layouts.Follow back) s.outline.ws) full,
        )
    past_comments (t ∷ between) comments =
        let parts = both_no (is_no_comment t) (list_any is_no_comment between) comments in
        let rest = past_comments between parts.1 in
        let comment = is_so (is_comment t) parts.0 in (
          ap (λ b. cond b (lead_below layouts.Follow q (between ++ s ∷ back)) (heads_it t)) comment ∙ rest.0,
          ap (λ b. cond b (ws_ahead layouts.Follow (between ++ s ∷ back)) t.outline.ws) comment ∙ rest.1,
        )

    leads_here : (layout : Layout) (front between : List Standing) → LeadsAhead layout front between
        → (lead_below layout q (between ++ s ∷ back) ≡ true) × (ws_ahead layout (between ++ s ∷ back) ≡ ws_like layout s)
    leads_here layouts.Plain front between leads = (
      ap (λ b. lead_below layouts.Plain q (b ++ s ∷ back)) leads ∙ heads,
      ap (λ b. ws_ahead layouts.Plain (b ++ s ∷ back)) leads,
    )
    leads_here layouts.Follow front between leads = past_comments between leads.0

  module _ (name : List ℕ) (v : ValueOutline) (manner : Manner) where
    past_front : (above front rest : List Standing) → NoneLeads manner.layout front rest
        → put_ahead q name v manner above (front ++ rest) ≡ front ++ put_ahead q name v manner (above ++ front) rest
    past_front above [] rest none = ap (λ f. put_ahead q name v manner f rest) (sym (append-nil above))
    past_front above (s ∷ front) rest none =
        ap (λ b. cond b (section_standing q name v manner above (s ∷ (front ++ rest)) ++ s ∷ (front ++ rest)) (s ∷ put_ahead q name v manner (above ++ s ∷ []) (front ++ rest))) none.0
        ∙ ap (λ r. s ∷ r) (past_front (above ++ s ∷ []) front rest none.1)
        ∙ ap (λ f. s ∷ (front ++ put_ahead q name v manner f rest)) (append_assoc above (s ∷ []) front)

    put_here : (front rest : List Standing) → lead_below manner.layout q rest ≡ true
        → put_ahead q name v manner front rest ≡ section_standing q name v manner front rest ++ rest
    put_here front [] leads = absurd (never manner.layout leads)
      where
        never : (layout : Layout) → lead_below layout q [] ≡ true → ⊥
        never layouts.Plain h = true≢false (sym h)
        never layouts.Follow h = true≢false (sym h)
    put_here front (s ∷ rest) leads =
        ap (λ b. cond b (section_standing q name v manner front (s ∷ rest) ++ s ∷ rest) (s ∷ put_ahead q name v manner (front ++ s ∷ []) rest)) leads

    -- so the section is put in ahead of the first header below
    pub ahead_put : (front between : List Standing) (s : Standing) (back : List Standing) → LeadsAhead manner.layout front between
        → list_any heads_it (front ++ between) ≡ false → heads_it s ≡ true → let ws = ws_like manner.layout s in
        put_ahead q name v manner [] (front ++ (between ++ s ∷ back))
        ≡ front ++ (new_header q One ws manner.newline
        ∷ new_standing_in q (spacing_below manner.layout ws (front ++ between)) (name ∷ []) v manner.newline ∷ (between ++ s ∷ back))
    ahead_put front between s back leads none heads =
        let rest = between ++ s ∷ back in
        let above : list_any heads_it front ≡ false =
        (both_no (list_any heads_it front) (list_any heads_it between) (sym (list_any-append heads_it front between) ∙ none)).0 in
        let here = leads_here s back heads manner.layout front between leads in
        past_front [] front rest (none_leads rest manner.layout front between leads above)
        ∙ ap (λ r. front ++ r) (put_here front rest here.0)
        ∙ ap (λ w. front ++ (new_header q One w manner.newline ∷ new_standing_in q (spacing_below manner.layout w front) (name ∷ []) v manner.newline ∷ rest)) here.1
        ∙ ap (λ x. front ++ (new_header q One (ws_like manner.layout s) manner.newline ∷ new_standing_in q x (name ∷ []) v manner.newline ∷ rest))
        (sym (spacing_past manner.layout (ws_like manner.layout s) front between leads))

-- ---- the spellings of the steps

above_spelled : (q : Address) (last : Step) (texts : List (List ℕ)) → texts ≡ map step_spelled (q ++ last ∷ []) → AreSpellings q texts
above_spelled [] last texts is = tt
above_spelled (s ∷ q) last [] is = cc
above_spelled (Name n ∷ q) last (text ∷ texts) is =
    let first : text ≡ spelled n = cc in
    let rest : texts ≡ map step_spelled (q ++ last ∷ []) = cc in
    (first, above_spelled q last texts rest)
above_spelled (Index i ∷ q) last (text ∷ texts) is = let rest : texts ≡ map step_spelled (q ++ last ∷ []) = cc in above_spelled q last texts rest

name_spelled : (q : Address) (name : List ℕ) (own : Address) (steps : List (String Global)) → own ≡ child q name → AreSteps own steps → IsNameIn q name own steps
name_spelled q name own steps is steps_are = record {
  some = λ none. never none;
  at_is = is;
  steps_is = ap (drop (length q)) (steps_are ∙ ap (map step_spelled) is) ∙ last_of q;
}
  where
    never : name ∷ [] ≡ [] → ⊥
    never none = cc

    last_of : (r : Address) → drop (length r) (map step_spelled (r ++ Name name ∷ [])) ≡ spelled name ∷ []
    last_of [] = refl
    last_of (s ∷ r) = last_of r

-- ---- the place

module _ (read : Read) (slots : List Slot) (place : Position) (s : Standing) (there : line_at read slots place ≡ Some s) where
  -- behind the last line that is no comment line,
  pub behind_uncommented : (at next : Position) → IsLastThat is_no_comment read slots place at → next.slot ≡ at.slot
      → (at.index + 1 < 2 ^ 64 → next.index ≡ at.index + 1) → GoesAhead layouts.Follow read slots place next
  behind_uncommented at next last slot_same index =
      let (slot, slot_is, own) = slot_of read slots at last.line last.there in
      let within = slice_get_within (slot_standing read slot) at.index last.line own in
      let behind = index last.next in
      let above = lines_before read slots at.slot at.index in
      let front : lines_before read slots next.slot next.index ≡ above ++ last.line ∷ [] =
      ap₂ (lines_before read slots) slot_same behind ∙ before_next read slots at.slot at.index slot last.line slot_is own in
      record {
        inside = record { slot = slot; there = ap (slice_get slots) slot_same ∙ slot_is; low = omega (arith, behind, within) };
        between = last.between;
        is = last.is ∙ sym (append_assoc above (last.line ∷ []) last.between) ∙ ap (λ f. f ++ last.between) (sym front);
        leads = (last.none, inr (above, last.line, front, last.so));
      }

  -- or before all lines
  pub before_comments : (next : Position) → next.slot ≡ 0 → next.index ≡ 0 → list_any is_no_comment (lines_before read slots place.slot place.index) ≡ false
      → GoesAhead layouts.Follow read slots place next
  before_comments next slot_is index_is none =
      let (own, own_is, line) = slot_of read slots place s there in
      let (first, first_is) = first_slot slots place.slot own own_is in
      let front : lines_before read slots next.slot next.index ≡ [] = ap₂ (lines_before read slots) slot_is index_is ∙ before_first read slots in
      record {
        inside = record { slot = first; there = ap (slice_get slots) slot_is ∙ first_is; low = omega (arith, index_is) };
        between = lines_before read slots place.slot place.index;
        is = ap (λ f. f ++ lines_before read slots place.slot place.index) (sym front);
        leads = (none, inl front);
      }
    where
      first_slot : (xs : List Slot) (k : ℕ) (slot : Slot) → slice_get xs k ≡ Some slot → (first : Slot) × (slice_get xs 0 ≡ Some first)
      first_slot [] k slot is = cc
      first_slot (x ∷ xs) k slot is = (x, refl)

-- by layout `Plain` it is that of the header
pub ahead_plainly : (layout : Layout) (read : Read) (slots : List Slot) (next : Position) → layout ≡ layouts.Plain → (s : Standing)
    → line_at read slots next ≡ Some s → GoesAhead layout read slots next next × ([] ≡ ws_like layout s)
ahead_plainly layout read slots next plain s there =
    subst (λ l. GoesAhead l read slots next next × ([] ≡ ws_like l s)) (sym plain) (
      record {
        inside = place_inside read slots next s there;
        between = [];
        is = sym (append-nil (lines_before read slots next.slot next.index));
        leads = refl;
      },
      refl,
    )

-- by `Follow` that above the comment lines, with the whitespace of the header
pub ahead_following : (layout : Layout) (read : Read) (slots : List Slot) (next at : Position) (look : Look) → layout ≡ layouts.Follow
    → IsAboveComments read slots next at → LooksAt read slots next look → IsAhead layout read slots next at look.ws
ahead_following layout read slots next at look follow above looks s there =
    subst (λ l. GoesAhead l read slots next at × (leaf_text look.ws ≡ ws_like l s)) (sym follow) (above s there, (looks s there).ws)

-- ---- both lines are put in

pub section_put : (q : Address) (brackets : Brackets) (ws style : List ℕ) (steps : List (String Global)) (l : Line) (read : Read) (at : Position)
    (old mid now : List Slot) (done : Bool) → PutsSlots read at l old mid → PutsThere read at l old mid
    → PutsHeader q brackets ws steps style read at mid now done → PutsSection q brackets ws steps style l read at old now
section_put q brackets ws style steps l read at old mid now done puts there heads spells inside text kept kept_line =
    let low = slice_get_within old at.slot inside.slot inside.there in
    let kept_mid = (puts low text kept kept_line).0 in
    let (low_mid, before, from) = there inside text kept kept_line in
    let (kept_now, are, answer) = heads spells low_mid text kept_mid in
    (kept_now, are ∙ ap₂ (λ x y. x ++ new_header q brackets ws style ∷ y) before from)

-- ---- on a tree

-- the lines from the place on are those between, and from the header on
from_ahead : (layout : Layout) (read : Read) (slots : List Slot) (next at : Position) (s : Standing) (goes : GoesAhead layout read slots next at)
    → line_at read slots next ≡ Some s
    → lines_from read slots at.slot at.index ≡ goes.between ++ s ∷ lines_from read slots next.slot (next.index + 1)
from_ahead layout read slots next at s goes there =
    let (slot, slot_is, own) = slot_of read slots next s there in
    let front = lines_before read slots at.slot at.index in
    let back = lines_from read slots next.slot (next.index + 1) in
    append_cancel_left front _ _
    (sym (split_at read slots at.slot at.index) ∙ split_at read slots next.slot next.index
    ∙ ap₂ (λ x y. x ++ y) goes.is (from_line read slots next.slot next.index slot s slot_is own)
    ∙ append_assoc front goes.between (s ∷ back))

pub puts_ahead : (q own : Address) (base : ℕ) (steps : List (String Global)) (v : ValueOutline) (read : Read) (next at : Position) (ws first : Leaf)
    (equals : Option Equals) (l laid : Line) (old now : Tree) → base ≡ length q
    → IsAhead old.texts.layout read old.slots.items next at ws
    → LaysOutBelow old.texts.layout (leaf_text ws) read old.slots.items next first equals
    → IsPairLine own base steps v (leaf_text old.style) l → laid.address ≡ l.address → laid.base ≡ l.base
    → BodyBegins (leaf_text first) (around equals) l.body laid.body
    → PutsSection q One (leaf_text ws) steps (leaf_text old.style) laid read at old.slots.items now.slots.items
    → PutsAhead q own steps v read next old now
puts_ahead q own base steps v read next at ws first equals l laid old now at_base ahead lays is_line address base_same begins puts name own_is steps_are ss stands found lacks =
    let text = text_of old.texts.source in
    let slots = old.slots.items in
    let style = leaf_text old.style in
    let layout = old.texts.layout in
    let (s, there, heads) = sought_here sought.HeaderBelow q read slots next found in
    let (goes, ws_is) = ahead s there in
    let front = lines_before read slots at.slot at.index in
    let rest = goes.between ++ s ∷ lines_from read slots next.slot (next.index + 1) in
    let from : lines_from read slots at.slot at.index ≡ rest = from_ahead layout read slots next at s goes there in
    let whole : ss ≡ front ++ rest = sym stands.are ∙ split_at read slots at.slot at.index ∙ ap (λ r. front ++ r) from in
    let (address_is, base_is, outlined) = is_line q at_base (name ∷ []) (name_spelled q name own steps own_is steps_are) in
    let begun = body_begun (leaf_text first) (around equals) l.body laid.body (new_outline plain_spacing (name ∷ []) v style) outlined begins in
    let made : line_standing read laid ≡ new_standing_in q (spacing_below layout (leaf_text ws) (front ++ goes.between)) (name ∷ []) v style =
    stands_new read q (name ∷ []) (begun_as (leaf_text first) (around equals) (new_outline plain_spacing (name ∷ []) v style)) laid
    (address ∙ address_is) (base_same ∙ base_is) begun
    ∙ ap (λ o. record { address = Some (child q name); base = Some (length q); outline = o }) (begun_new (leaf_text first) (around equals) (name ∷ []) v style)
    ∙ ap (λ x. new_standing_in q x (name ∷ []) v style) (lays s there ∙ ap (spacing_below layout (leaf_text ws)) goes.is) in
    let spells = above_spelled q (Name name) (map string_bytes steps) (steps_are ∙ ap (map step_spelled) own_is) in
    let (kept, are) = puts spells goes.inside text stands.kept (kept_new text read _ laid.body begun) in
    record {
      kept = kept;
      are =
          are
          ∙ ap₂ (λ x r. front ++ (new_header q One (leaf_text ws) style ∷ x ∷ r)) made from
          ∙ ap (λ w. front ++ (new_header q One w style ∷ new_standing_in q (spacing_below layout w (front ++ goes.between)) (name ∷ []) v style ∷ rest)) ws_is
          ∙ sym (ahead_put q name v (manner old) front goes.between s (lines_from read slots next.slot (next.index + 1)) goes.leads
          (ap (list_any (heads_it q)) (sym goes.is) ∙ lacks) heads)
          ∙ ap (put_ahead q name v (manner old) []) (sym whole);
    }
