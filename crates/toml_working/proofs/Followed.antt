-- Where a header line goes by layout `Follow`.
use Rattle.std.proofs.Common.{◌≡◌, ◌∙◌, inl, inr, ℕ, ◌+◌, ◌^◌, ◌<◌, Bool, true, false, ◌&&◌, ◌||◌, cond, not, List, [], ◌∷◌, ◌++◌, Option, Some, None, refl, ap, ap₂, sym, subst, append_assoc, append-nil, true≢false}
use Rattle.std.specs.Prelude.{is_some, option_map}
use Rattle.std.specs.List.{list_any}
use Rattle.std.specs.Option.{unwrap_or}
use Rattle.std.proofs.lemmas.List.{append_cancel_left, append_cancel_right}
use Rattle.std.proofs.lemmas.List.Folds.{list_any-append}
use Rattle.std.proofs.lemmas.Option.{none-some}
use Rattle.toml_names.specs.model.Addresses.{Address}
use Rattle.toml_layout.specs.Outlines.{no_line}
use Rattle.toml_working.specs.declared.lines.Slot.{Slot}
use Rattle.toml_working.specs.declared.working.Position.{Position}
use Rattle.toml_working.specs.Following.{EndsSectionAt, FillsFrom, FindsFamily, FindsLandmark, FindsLastBelow, IsBehindAll, IsLine, put_behind}
use Rattle.toml_layout.specs.Holders.{parent_of}
use Rattle.toml_working.specs.FollowingHeaders.{behind_family, behind_below, behind_section, is_filled}
use Rattle.toml_working.specs.Headers.{element_of}
use Rattle.toml_working.specs.Parents.{IsParent}
use Rattle.toml_working.specs.InsertStanding.{has_pair, is_bare, pair_or}
use Rattle.toml_working.specs.Placing.{FindsLastOf, IsPair, is_header, lines_before, lines_from}
use Rattle.toml_working.specs.Seeing.{line_at}
use Rattle.toml_working.specs.Standing.{Standing, Read, is_below, lies_below, slots_standing}
use Rattle.toml_working.proofs.AtPlace.{slot_of}
use Rattle.toml_working.proofs.Alone.{any_or}
use Rattle.toml_working.proofs.Placed.{behind_line, from_line, split_at}
use Rattle.toml_working.proofs.Put.{before_next}
use Rattle.toml_working.proofs.PutRoot.{Lead, has_front, pairs_lead}
use Rattle.toml_working.proofs.WentUp.{both_no}
use Rattle.toml_working.proofs.RemovedOne.{parent_is}

-- ---- behind the section of a line

-- what is neither bare nor a header has a key and a value
pub pair_of : (s : Standing) → is_bare s.base s.address ≡ false → is_header s.base s.address ≡ false → IsPair s
pair_of s bare header = by s.base refl s.address bare header
  where
    by : (base : Option ℕ) → s.base ≡ base → (own : Option Address) → is_bare base own ≡ false → is_header base own ≡ false → IsPair s
    by (Some n) is own b h = (n, is)
    by None is None b h = absurd (true≢false b)
    by None is (Some a) b h = absurd (true≢false h)

mapped_twice : (x : Standing) (front : List Standing) (o : Option (List Standing)) → option_map (λ r. x ∷ r) (option_map (λ r. front ++ r) o) ≡ option_map (λ r. x ∷ (front ++ r)) o
mapped_twice x front None = refl
mapped_twice x front (Some r) = refl

module _ (new : List Standing → Standing) where
  abbrev go : List Standing → Standing → List Standing → Bool → Bool → Option (List Standing)
  go front s ss more filled = option_map (λ r. s ∷ r) (cond more (behind_section new (front ++ s ∷ []) ss) (cond filled (Some (new (front ++ s ∷ []) ∷ ss)) None))

  section_in : (front pre : List Standing) (line : Standing) (back : List Standing) → Lead has_pair pre (line ∷ back)
      → behind_section new front (pre ++ line ∷ back) ≡ option_map (λ r. pre ++ r) (behind_section new (front ++ pre) (line ∷ back))
  section_in front [] line back leads =
      same (behind_section new front (line ∷ back)) ∙ ap (λ f. option_map (λ r. r) (behind_section new f (line ∷ back))) (sym (append-nil front))
    where
      same : (o : Option (List Standing)) → o ≡ option_map (λ r. r) o
      same None = refl
      same (Some r) = refl
  section_in front (x ∷ pre) line back leads =
      ap (λ b. go front x (pre ++ line ∷ back) b (list_any is_filled (pre ++ line ∷ back))) leads.0
      ∙ ap (option_map (λ r. x ∷ r)) (section_in (front ++ x ∷ []) pre line back leads.1)
      ∙ mapped_twice x pre (behind_section new ((front ++ x ∷ []) ++ pre) (line ∷ back))
      ∙ ap (λ f. option_map (λ r. x ∷ (pre ++ r)) (behind_section new f (line ∷ back))) (append_assoc front (x ∷ []) pre)

  section_ends : (front : List Standing) (line : Standing) (back : List Standing) → has_pair back ≡ false
      → behind_section new front (line ∷ back) ≡ option_map (λ r. line ∷ r) (cond (list_any is_filled back) (Some (new (front ++ line ∷ []) ∷ back)) None)
  section_ends front line back none = ap (λ b. go front line back b (list_any is_filled back)) none

  -- in the section of a line of the tree
  section_put : (read : Read) (slots : List Slot) (at end : Position) (pre : List Standing) (line : Standing) (back : List Standing)
      → lines_from read slots at.slot at.index ≡ pre ++ line ∷ back → Lead has_pair pre (line ∷ back) → has_pair back ≡ false
      → line_at read slots end ≡ Some line → lines_from read slots end.slot end.index ≡ line ∷ back
      → option_map (λ r. lines_before read slots at.slot at.index ++ r) (behind_section new (lines_before read slots at.slot at.index) (lines_from read slots at.slot at.index))
      ≡ cond (list_any is_filled (lines_from read slots end.slot (end.index + 1))) (Some (put_behind new read slots end)) None
  section_put read slots at end pre line back from leads none there end_from =
      let front = lines_before read slots at.slot at.index in
      let (slot, slot_is, own) = slot_of read slots end line there in
      let rest : back ≡ lines_from read slots end.slot (end.index + 1) = behind_line read slots end line back there end_from in
      let whole : lines_before read slots end.slot end.index ≡ front ++ pre =
      append_cancel_right _ _ (line ∷ back)
      (ap (λ r. lines_before read slots end.slot end.index ++ r) (sym end_from) ∙ sym (split_at read slots end.slot end.index)
      ∙ split_at read slots at.slot at.index ∙ ap (λ r. front ++ r) from ∙ sym (append_assoc front pre (line ∷ back))) in
      let through : lines_before read slots end.slot (end.index + 1) ≡ (front ++ pre) ++ line ∷ [] =
      before_next read slots end.slot end.index slot line slot_is own ∙ ap (λ r. r ++ line ∷ []) whole in
      ap (λ r. option_map (λ t. front ++ t) (behind_section new front r)) from
      ∙ ap (option_map (λ t. front ++ t)) (section_in front pre line back leads ∙ ap (option_map (λ r. pre ++ r)) (section_ends (front ++ pre) line back none))
      ∙ by (list_any is_filled back) front pre line back
      ∙ ap (λ r. cond (list_any is_filled r) (Some (((front ++ pre) ++ line ∷ []) ++ new ((front ++ pre) ++ line ∷ []) ∷ r)) None) rest
      ∙ ap (λ f. cond (list_any is_filled (lines_from read slots end.slot (end.index + 1))) (Some (f ++ new f ∷ lines_from read slots end.slot (end.index + 1))) None) (sym through)
    where
      by : (b : Bool) (front pre : List Standing) (line : Standing) (back : List Standing)
          → option_map (λ t. front ++ t) (option_map (λ r. pre ++ r) (option_map (λ r. line ∷ r) (cond b (Some (new ((front ++ pre) ++ line ∷ []) ∷ back)) None)))
          ≡ cond b (Some (((front ++ pre) ++ line ∷ []) ++ new ((front ++ pre) ++ line ∷ []) ∷ back)) None
      by true front pre line back =
          ap Some (sym (append_assoc front pre (line ∷ new ((front ++ pre) ++ line ∷ []) ∷ back))
          ∙ sym (append_assoc (front ++ pre) (line ∷ []) (new ((front ++ pre) ++ line ∷ []) ∷ back)))
      by false front pre line back = refl

  -- what is told of a line with a key and a value
  pair_has : (s : Standing) (ss : List Standing) → IsPair s → has_pair (s ∷ ss) ≡ true
  pair_has s ss pair = ap (λ b. pair_or b s.address (has_pair ss)) pair.1

  -- behind a header
  pub header_ends : (read : Read) (slots : List Slot) (at next : Position) (s : Standing) (r : Option Position) → line_at read slots at ≡ Some s
      → next.slot ≡ at.slot → next.index ≡ at.index + 1 → FindsLastOf read slots (lines_from read slots next.slot next.index) r
      → at.index + 1 < 2 ^ 64 → (end : Position) → end ≡ unwrap_or r at → IsLine read slots end
      × (option_map (λ t. lines_before read slots at.slot at.index ++ t) (behind_section new (lines_before read slots at.slot at.index) (lines_from read slots at.slot at.index))
      ≡ cond (list_any is_filled (lines_from read slots end.slot (end.index + 1))) (Some (put_behind new read slots end)) None)
  header_ends read slots at next s r there slot index found low end is =
      subst (λ e. IsLine read slots e
      × (option_map (λ t. lines_before read slots at.slot at.index ++ t) (behind_section new (lines_before read slots at.slot at.index) (lines_from read slots at.slot at.index))
      ≡ cond (list_any is_filled (lines_from read slots e.slot (e.index + 1))) (Some (put_behind new read slots e)) None)) (sym is) (by r found)
    where
      here : lines_from read slots at.slot at.index ≡ s ∷ lines_from read slots next.slot next.index
      here =
          let (slot_of_at, slot_is, own) = slot_of read slots at s there in
          from_line read slots at.slot at.index slot_of_at s slot_is own ∙ ap (λ r. s ∷ r) (sym (ap₂ (lines_from read slots) slot index))

      by : (o : Option Position) → FindsLastOf read slots (lines_from read slots next.slot next.index) o → IsLine read slots (unwrap_or o at)
          × (option_map (λ t. lines_before read slots at.slot at.index ++ t) (behind_section new (lines_before read slots at.slot at.index) (lines_from read slots at.slot at.index))
          ≡ cond (list_any is_filled (lines_from read slots (unwrap_or o at).slot ((unwrap_or o at).index + 1))) (Some (put_behind new read slots (unwrap_or o at))) None)
      by None none = (
        record { line = s; there = there; next = low },
        section_put read slots at at [] s (lines_from read slots next.slot next.index) here tt none there here,
      )
      by (Some e) last = (
        record { line = last.line; there = last.there; next = last.next },
        section_put read slots at e (s ∷ last.front) last.line last.back (here ∙ ap (λ r. s ∷ r) last.is)
            (has_front last.line last.back last.pair last.front last.heads, pairs_lead last.line last.back last.pair last.front last.heads) last.none last.there last.from,
      )

  -- behind a line with a key and a value
  pub pair_ends : (read : Read) (slots : List Slot) (at : Position) (s : Standing) (r : Option Position) → line_at read slots at ≡ Some s → IsPair s
      → FindsLastOf read slots (lines_from read slots at.slot at.index) r → (end : Position) → end ≡ unwrap_or r at → IsLine read slots end
      × (option_map (λ t. lines_before read slots at.slot at.index ++ t) (behind_section new (lines_before read slots at.slot at.index) (lines_from read slots at.slot at.index))
      ≡ cond (list_any is_filled (lines_from read slots end.slot (end.index + 1))) (Some (put_behind new read slots end)) None)
  pair_ends read slots at s r there pair found end is =
      subst (λ e. IsLine read slots e
      × (option_map (λ t. lines_before read slots at.slot at.index ++ t) (behind_section new (lines_before read slots at.slot at.index) (lines_from read slots at.slot at.index))
      ≡ cond (list_any is_filled (lines_from read slots e.slot (e.index + 1))) (Some (put_behind new read slots e)) None)) (sym is) (by r found)
    where
      here : lines_from read slots at.slot at.index ≡ s ∷ lines_from read slots at.slot (at.index + 1)
      here = let (slot_of_at, slot_is, own) = slot_of read slots at s there in from_line read slots at.slot at.index slot_of_at s slot_is own

      by : (o : Option Position) → FindsLastOf read slots (lines_from read slots at.slot at.index) o → IsLine read slots (unwrap_or o at)
          × (option_map (λ t. lines_before read slots at.slot at.index ++ t) (behind_section new (lines_before read slots at.slot at.index) (lines_from read slots at.slot at.index))
          ≡ cond (list_any is_filled (lines_from read slots (unwrap_or o at).slot ((unwrap_or o at).index + 1))) (Some (put_behind new read slots (unwrap_or o at))) None)
      by None none = absurd (true≢false (sym (ap has_pair here ∙ pair_has s (lines_from read slots at.slot (at.index + 1)) pair) ∙ none))
      by (Some e) last = (
        record { line = last.line; there = last.there; next = last.next },
        section_put read slots at e last.front last.line last.back last.is (pairs_lead last.line last.back last.pair last.front last.heads) last.none last.there last.from,
      )

  -- ---- the last line of the family

  last_in : (r : Address) (pre front : List Standing) (line : Standing) (between : List Standing) → is_below r line ≡ true → list_any (is_below r) between ≡ false
      → behind_below r new pre (front ++ line ∷ between) ≡ option_map (λ t. front ++ t) (behind_section new (pre ++ front) (line ∷ between))
  last_in r pre [] line between below none =
      ap (λ b. cond b (option_map (λ t. line ∷ t) (behind_below r new (pre ++ line ∷ []) between)) (cond (is_below r line) (behind_section new pre (line ∷ between)) None)) none
      ∙ ap (λ b. cond b (behind_section new pre (line ∷ between)) None) below
      ∙ same (behind_section new pre (line ∷ between)) ∙ ap (λ f. option_map (λ t. t) (behind_section new f (line ∷ between))) (sym (append-nil pre))
    where
      same : (o : Option (List Standing)) → o ≡ option_map (λ r. r) o
      same None = refl
      same (Some r) = refl
  last_in r pre (x ∷ front) line between below none =
      ap (λ b. cond b (option_map (λ t. x ∷ t) (behind_below r new (pre ++ x ∷ []) (front ++ line ∷ between))) (cond (is_below r x) (behind_section new pre (x ∷ (front ++ line ∷ between))) None))
      (any_there r front line between below)
      ∙ ap (option_map (λ t. x ∷ t)) (last_in r (pre ++ x ∷ []) front line between below none)
      ∙ mapped_twice x front (behind_section new ((pre ++ x ∷ []) ++ front) (line ∷ between))
      ∙ ap (λ f. option_map (λ t. x ∷ (front ++ t)) (behind_section new f (line ∷ between))) (append_assoc pre (x ∷ []) front)
    where
      any_there : (r : Address) (front : List Standing) (line : Standing) (between : List Standing) → is_below r line ≡ true
          → list_any (is_below r) (front ++ line ∷ between) ≡ true
      any_there r front line between below =
          list_any-append (is_below r) front (line ∷ between) ∙ ap (λ b. list_any (is_below r) front || (b || list_any (is_below r) between)) below
          ∙ any_or (list_any (is_below r) front)

  never_last : (r : Address) (pre ss : List Standing) → list_any (is_below r) ss ≡ false → behind_below r new pre ss ≡ None
  never_last r pre [] none = refl
  never_last r pre (s ∷ ss) none =
      let parts = both_no (is_below r s) (list_any (is_below r) ss) none in
      ap (λ b. cond b (option_map (λ t. s ∷ t) (behind_below r new (pre ++ s ∷ []) ss)) (cond (is_below r s) (behind_section new pre (s ∷ ss)) None)) parts.1
      ∙ ap (λ b. cond b (behind_section new pre (s ∷ ss)) None) parts.0

  pub no_family : (r : Address) (read : Read) (slots : List Slot) → FindsLastBelow r read slots None → behind_family r new (slots_standing read slots) ≡ None
  no_family [] read slots h = refl
  no_family (s ∷ r) read slots h = never_last (s ∷ r) [] (slots_standing read slots) h

  -- behind its section, if more follows there
  pub family_put : (r : Address) (read : Read) (slots : List Slot) (at end : Position) (more : Bool) (next : Position) → FindsLastBelow r read slots (Some at)
      → EndsSectionAt read slots at end → next.slot ≡ end.slot → (end.index + 1 < 2 ^ 64 → next.index ≡ end.index + 1) → FillsFrom read slots next more
      → IsLine read slots end × (behind_family r new (slots_standing read slots) ≡ cond more (Some (put_behind new read slots end)) None)
  family_put [] read slots at end more next h ends slot index fills = absurd (none-some at (sym h))
  family_put (s ∷ r) read slots at end more next h ends slot index fills =
      let (place, behind_all, last) = h in
      let (is_line, put) = ends last.line last.there (not_bare (s ∷ r) last.line last.so) last.next in
      let front = lines_before read slots at.slot at.index in
      let whole : slots_standing read slots ≡ front ++ last.line ∷ last.between = sym behind_all ∙ last.is in
      let from : lines_from read slots at.slot at.index ≡ last.line ∷ last.between =
      append_cancel_left front _ _ (sym (split_at read slots at.slot at.index) ∙ whole) in
      let filled : list_any is_filled (lines_from read slots end.slot (end.index + 1)) ≡ more =
      ap (list_any is_filled) (sym (ap₂ (lines_from read slots) slot (index is_line.next))) ∙ sym fills in (
        is_line,
        ap (behind_below (s ∷ r) new []) whole ∙ last_in (s ∷ r) [] front last.line last.between last.so last.none
            ∙ ap (λ x. option_map (λ t. front ++ t) (behind_section new front x)) (sym from) ∙ put new
            ∙ ap (λ b. cond b (Some (put_behind new read slots end)) None) filled,
      )
    where
      not_bare : (r : Address) (t : Standing) → is_below r t ≡ true → is_bare t.base t.address ≡ false
      not_bare r t below = by t.base t.address below
        where
          by : (base : Option ℕ) (own : Option Address) → lies_below r own ≡ true → is_bare base own ≡ false
          by base None h = absurd (true≢false (sym h))
          by (Some n) (Some a) h = refl
          by None (Some a) h = refl

-- ---- for whatever new line

pub header_section : (read : Read) (slots : List Slot) (at next : Position) (s : Standing) (r : Option Position) → line_at read slots at ≡ Some s
    → next.slot ≡ at.slot → next.index ≡ at.index + 1 → FindsLastOf read slots (lines_from read slots next.slot next.index) r
    → at.index + 1 < 2 ^ 64 → (end : Position) → end ≡ unwrap_or r at → IsLine read slots end × ((new : List Standing → Standing)
    → option_map (λ t. lines_before read slots at.slot at.index ++ t) (behind_section new (lines_before read slots at.slot at.index) (lines_from read slots at.slot at.index))
    ≡ cond (list_any is_filled (lines_from read slots end.slot (end.index + 1))) (Some (put_behind new read slots end)) None)
header_section read slots at next s r there slot index found low end is = (
  (header_ends (λ front. s) read slots at next s r there slot index found low end is).0,
  λ new. (header_ends new read slots at next s r there slot index found low end is).1,
)

pub pair_section : (read : Read) (slots : List Slot) (at : Position) (s : Standing) (r : Option Position) → line_at read slots at ≡ Some s → IsPair s
    → FindsLastOf read slots (lines_from read slots at.slot at.index) r → (end : Position) → end ≡ unwrap_or r at → IsLine read slots end × ((new : List Standing → Standing)
    → option_map (λ t. lines_before read slots at.slot at.index ++ t) (behind_section new (lines_before read slots at.slot at.index) (lines_from read slots at.slot at.index))
    ≡ cond (list_any is_filled (lines_from read slots end.slot (end.index + 1))) (Some (put_behind new read slots end)) None)
pair_section read slots at s r there pair found end is = (
  (pair_ends (λ front. s) read slots at s r there pair found end is).0,
  λ new. (pair_ends new read slots at s r there pair found end is).1,
)

pub family_section : (r : Address) (read : Read) (slots : List Slot) (at end : Position) (more : Bool) (next : Position) → FindsLastBelow r read slots (Some at)
    → EndsSectionAt read slots at end → next.slot ≡ end.slot → (end.index + 1 < 2 ^ 64 → next.index ≡ end.index + 1) → FillsFrom read slots next more
    → IsLine read slots end × ((new : List Standing → Standing) → behind_family r new (slots_standing read slots) ≡ cond more (Some (put_behind new read slots end)) None)
family_section r read slots at end more next h ends slot index fills = (
  (family_put (λ front. record { address = None; base = None; outline = no_line }) r read slots at end more next h ends slot index fills).0,
  λ new. (family_put new r read slots at end more next h ends slot index fills).1,
)

-- ---- the family

pub last_below : (r : Address) (read : Read) (slots : List Slot) (end : Position) (result : Option Position) → (r ≡ [] → ⊥) → IsBehindAll read slots end
    → FindsLandmark (is_below r) read slots end result → FindsLastBelow r read slots result
last_below [] read slots end result not_root behind found = absurd (not_root refl)
last_below (s ∷ r) read slots end None not_root behind found = ap (list_any (is_below (s ∷ r))) (sym behind) ∙ found
last_below (s ∷ r) read slots end (Some at) not_root behind found = (end, behind, found)

below_there : (r : Address) (read : Read) (slots : List Slot) (at : Position) → FindsLastBelow r read slots (Some at) → list_any (is_below r) (slots_standing read slots) ≡ true
below_there [] read slots at h = absurd (none-some at (sym h))
below_there (s ∷ r) read slots at (end, behind, last) =
    ap (list_any (is_below (s ∷ r))) (sym behind ∙ last.is)
    ∙ list_any-append (is_below (s ∷ r)) (lines_before read slots at.slot at.index) (last.line ∷ last.between)
    ∙ ap (λ b. list_any (is_below (s ∷ r)) (lines_before read slots at.slot at.index) || (b || list_any (is_below (s ∷ r)) last.between)) last.so
    ∙ any_or (list_any (is_below (s ∷ r)) (lines_before read slots at.slot at.index))

module _ (q p : Address) (read : Read) (slots : List Slot) where
  -- that of the array or the table itself
  pub own_family : (at : Position) → FindsLastBelow q read slots (Some at) → FindsFamily q p read slots (Some at)
  own_family at found =
      subst (λ r. FindsLastBelow r read slots (Some at))
      (sym (ap (λ b. cond (is_some (element_of p) && not b) (parent_of q) q) (below_there q read slots at found) ∙ by (is_some (element_of p)))) found
    where
      by : (b : Bool) → cond (b && false) (parent_of q) q ≡ q
      by true = refl
      by false = refl

  -- of a table
  pub table_family : (result : Option Position) → is_some (element_of p) ≡ false → FindsLastBelow q read slots result → FindsFamily q p read slots result
  table_family result is_table found =
      subst (λ r. FindsLastBelow r read slots result) (sym (ap (λ b. cond (b && not (list_any (is_below q) (slots_standing read slots))) (parent_of q) q) is_table)) found

  -- of an element whose array has no line
  pub array_family : (parent : Address) (result : Option Position) → is_some (element_of p) ≡ true → (q ≡ [] → ⊥) → IsParent q parent → FindsLastBelow q read slots None
      → FindsLastBelow parent read slots result → FindsFamily q p read slots result
  array_family parent result element not_root (inl root) none found = absurd (not_root root)
  array_family parent result element not_root (inr (s, is)) none found =
      let empty = none_there q not_root none in
      subst (λ r. FindsLastBelow r read slots result)
      (sym (ap₂ (λ b c. cond (b && not c) (parent_of q) q) element empty ∙ ap parent_of is ∙ parent_is parent s)) found
    where
      none_there : (r : Address) → (r ≡ [] → ⊥) → FindsLastBelow r read slots None → list_any (is_below r) (slots_standing read slots) ≡ false
      none_there [] not_root h = absurd (not_root refl)
      none_there (x ∷ r) not_root h = h
