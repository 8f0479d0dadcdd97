-- A `rename` on the lines of the working tree.
use Rattle.std.proofs.Common.{◌≡◌, ◌∙◌, ℕ, ◌<◌, ◌≤◌, Bool, true, false, cond, ◌&&◌, ◌||◌, List, [], ◌∷◌, ◌++◌, length, map, All, Option, Some, None, refl, ap, ap₂, sym, subst, arith}
use Rattle.std.proofs.lemmas.Bool.{false≢true}
use Rattle.std.proofs.lemmas.List.{map-append}
use Rattle.std.specs.List.{list_any}
use Rattle.std.specs.Prelude.{option_map}
use Rattle.std.specs.Borrow.{Bor}
use Rattle.toml_names.specs.model.Addresses.{Address, same_step, is_above}
use Rattle.toml_text.specs.Source.{text_of}
use Rattle.toml_tree.specs.Spells.{EachIs}
use Rattle.toml_layout.specs.declared.changing.Inside.TheVariants as changes
use Rattle.toml_working.specs.declared.lines.Slot.{Slot}
use Rattle.toml_layout.specs.declared.texts.Texts.{Texts}
use Rattle.toml_working.specs.declared.working.Position.{Position}
use Rattle.toml_working.specs.Becoming.{RenamesLines, SlotAtBecomes, SlotBecomes, SlotsBecome}
use Rattle.toml_working.specs.Changing.{ChangesSlots}
use Rattle.toml_layout.specs.Outlines as outline
use Rattle.toml_layout.specs.Outlines.{ExprOutline, LineOutline}
use Rattle.toml_working.specs.RenameStanding.{rename_below, rename_inside, rename_outline_of, rename_own, rename_standing}
use Rattle.toml_layout.specs.RenameOutlines.{rename_outline}
use Rattle.toml_working.specs.Seeing.{HoldsNone, line_at, steps_of, steps_to}
use Rattle.toml_working.specs.Standing.{Standing, Read, IsApart, StandAlone, covers, covers_at, holds, is_below, leads_to, lies_below, slot_standing, slots_standing, with_value_outline}
use Rattle.toml_layout.specs.Beginnings.{begins}
use Rattle.toml_working.specs.Stands.{SlotKept}
use Rattle.std.proofs.lemmas.Bool.{and_parts}
use Rattle.toml_working.proofs.Alone.{above_begins, begins_through, item_split, slot_split, split_within}
use Rattle.toml_working.proofs.AtPlace.{holder_at}
use Rattle.toml_working.proofs.Each.{each_back, each_front, each_get, each_set, each_weaker}
use Rattle.toml_layout.proofs.Proved.{rename_aside}
use Rattle.toml_working.proofs.Beginning.{step_other}
use Rattle.toml_working.proofs.SetAway.{one_is_apart, others_before}
use Rattle.toml_working.proofs.Turned.{one_turned}
use Rattle.toml_working.proofs.Pairwise.{PairsAre, pairs_of_all}

-- ---- slots

slots_become : (texts : Texts) (read : Read) (f : Standing → Standing) (old now : List Slot) → SlotsBecome texts read f old now → EachIs (SlotKept (text_of texts.source) read) old
    → EachIs (SlotKept (text_of texts.source) read) now × (slots_standing read now ≡ map f (slots_standing read old))
slots_become texts read f [] [] all kept = (tt, refl)
slots_become texts read f [] (t ∷ now) all kept = absurd all
slots_become texts read f (s ∷ old) [] all kept = absurd all
slots_become texts read f (s ∷ old) (t ∷ now) all kept =
    let (kept_now, stands) = all.0 kept.0 in
    let (kept_later, later) = slots_become texts read f old now all.1 kept.1 in
    ((kept_now, kept_later), ap₂ (λ a b. a ++ b) stands later ∙ sym (map-append f (slot_standing read s) (slots_standing read old)))

-- ---- lines that stay

module _ (p : Address) (to spelled : List ℕ) where
  abbrev own : Standing → Standing
  own = rename_own p to spelled

  abbrev below : Standing → Standing
  below = rename_below p to spelled

  abbrev all : Standing → Standing
  all = rename_standing p to spelled

  -- a line that does not hold what stands at the address, or not strictly above it
  expr_stays : (at : Address) (e : ExprOutline) → is_above at p ≡ false → with_value_outline (rename_outline p spelled at) e ≡ e
  expr_stays at outline.Nothing h = refl
  expr_stays at (outline.Pair a v) h = ap (outline.Pair a) (rename_aside p spelled at v h)
  expr_stays at (outline.Header opening before first rest after closing) h = refl

  not_above : (at : Address) → begins at p ≡ false → is_above at p ≡ false
  not_above at h = by (is_above at p) refl
    where
      by : (b : Bool) → is_above at p ≡ b → is_above at p ≡ false
      by false e = e
      by true e = absurd (false≢true (sym h ∙ (above_begins at p e).0))

  line_stays : (base : Option ℕ) (at : Option Address) (l : LineOutline) → leads_to p base at ≡ false → rename_outline_of p spelled base at l ≡ l
  line_stays None at l h = refl
  line_stays (Some n) None l h = refl
  line_stays (Some n) (Some a) l h = ap (λ (e : ExprOutline). record l { expr = e }) (expr_stays a l.expr (not_above a h))

  inside_stays : (s : Standing) → holds p s ≡ false → rename_inside p spelled s ≡ s
  inside_stays s h = ap (λ (l : LineOutline). record { address = s.address; base = s.base; outline = l }) (line_stays s.base s.address s.outline h)

  -- where a line does not hold it, it is renamed as one at or below it is
  as_below : (s : Standing) → holds p s ≡ false → all s ≡ below s
  as_below s h = ap (λ x. cond (is_below p s) (own s) x) (inside_stays s h)

  -- where a line is not at or below it either, it stays
  stays : (s : Standing) → holds p s ≡ false → is_below p s ≡ false → all s ≡ s
  stays s h k = as_below s h ∙ ap (λ b. cond b (own s) s) k

  below_stays : (s : Standing) → is_below p s ≡ false → below s ≡ s
  below_stays s k = ap (λ b. cond b (own s) s) k

  or_parts : (a b : Bool) → (a || b) ≡ false → (a ≡ false) × (b ≡ false)
  or_parts true b h = cc
  or_parts false b h = (refl, h)

  all_as_below : (ss : List Standing) → list_any (holds p) ss ≡ false → map all ss ≡ map below ss
  all_as_below [] h = refl
  all_as_below (s ∷ ss) h =
      let parts = or_parts (holds p s) (list_any (holds p) ss) h in
      ap₂ (λ x xs. x ∷ xs) (as_below s parts.0) (all_as_below ss parts.1)

  abbrev NotBelow : Standing → Type 0
  NotBelow t = is_below p t ≡ false

  all_stay : (ss : List Standing) → list_any (holds p) ss ≡ false → EachIs NotBelow ss → map all ss ≡ ss
  all_stay [] h k = refl
  all_stay (s ∷ ss) h k =
      let parts = or_parts (holds p s) (list_any (holds p) ss) h in
      ap₂ (λ x xs. x ∷ xs) (stays s parts.0 k.0) (all_stay ss parts.1 k.1)

  all_below_stay : (ss : List Standing) → EachIs NotBelow ss → map below ss ≡ ss
  all_below_stay [] k = refl
  all_below_stay (s ∷ ss) k = ap₂ (λ x xs. x ∷ xs) (below_stays s k.0) (all_below_stay ss k.1)

  -- what lies below the address is covered by the line that holds what stands there
  apart_below : (base : Option ℕ) (at other : Option Address) (t : Standing) → t.address ≡ other → leads_to p base at ≡ true → covers_at base at t ≡ false → lies_below p other ≡ false
  apart_below None at other t is h k = absurd (false≢true h)
  apart_below (Some n) None other t is h k = absurd (false≢true h)
  apart_below (Some n) (Some a) None t is h k = refl
  apart_below (Some n) (Some a) (Some o) t is h k = by (begins p o) refl
    where
      by : (b : Bool) → begins p o ≡ b → begins p o ≡ false
      by false e = e
      by true e = absurd (false≢true (sym k ∙ ap (lies_below a) is ∙ begins_through a p o h e))

  abbrev Apart : Standing → Standing → Type 0
  Apart s t = (covers s t ≡ false) × (covers t s ≡ false)

  others_not_below : (front : List Standing) (s : Standing) (back : List Standing) → holds p s ≡ true → PairsAre Apart (front ++ s ∷ back) → EachIs NotBelow front × EachIs NotBelow back
  others_not_below [] s back h k = (tt, each_weaker (Apart s) NotBelow (λ t both. apart_below s.base s.address t.address t refl h both.0) back k.0)
  others_not_below (t ∷ front) s back h k =
      let here = each_back (Apart t) front (s ∷ back) k.0 in
      let later = others_not_below front s back h k.1 in
      ((apart_below s.base s.address t.address t refl h here.0.1, later.0), later.1)

  -- one line holds what stands there: all others stay
  around : (front : List Standing) (s : Standing) (back : List Standing) → holds p s ≡ true → StandAlone (front ++ s ∷ back) → map all (front ++ s ∷ back) ≡ front ++ all s ∷ back
  around front s back h alone =
      let pairs = pairs_of_all Apart (front ++ s ∷ back) alone in
      let off = others_before p front s back h pairs in
      let (before, behind) = others_not_below front s back h pairs in
      map-append all front (s ∷ back) ∙ ap₂ (λ xs ys. xs ++ all s ∷ ys) (all_stay front off.0 before) (all_stay back off.1 behind)

  -- ---- the lines of the tree

  -- an address that another one begins is not shorter; and where the other is as long, each begins the other
  begins_longer : (a b : Address) → begins a b ≡ true → length a ≤ length b
  begins_longer [] b h = omega arith
  begins_longer (s ∷ a) [] h = absurd (false≢true h)
  begins_longer (s ∷ a) (t ∷ b) h = let later = begins_longer a b (and_parts (same_step s t) (begins a b) h).1 in omega (arith, later)

  begins_whole : (a b : Address) → begins a b ≡ true → length b ≤ length a → begins b a ≡ true
  begins_whole [] [] h low = refl
  begins_whole [] (t ∷ b) h low = absurd (omega (arith, low))
  begins_whole (s ∷ a) [] h low = refl
  begins_whole (s ∷ a) (t ∷ b) h low =
      let parts = and_parts (same_step s t) (begins a b) h in
      let later = begins_whole a b parts.1 (omega (arith, low)) in
      ap (λ c. c && begins b a) (step_other t s ∙ parts.0) ∙ later

  short_not_below : (s : Standing) → steps_to s.address < length p → is_below p s ≡ false
  short_not_below s low = by s.address low
    where
      by : (at : Option Address) → steps_to at < length p → lies_below p at ≡ false
      by None h = refl
      by (Some a) h = either (begins p a) refl
        where
          either : (b : Bool) → begins p a ≡ b → begins p a ≡ false
          either false e = e
          either true e = let long = begins_longer p a e in absurd (omega (arith, long, h))

  holder_below : (base : Option ℕ) (at : Option Address) → leads_to p base at ≡ true → length p ≤ steps_to at → lies_below p at ≡ true
  holder_below None at h low = absurd (false≢true h)
  holder_below (Some n) None h low = absurd (false≢true h)
  holder_below (Some n) (Some a) h low = begins_whole a p h low

  module _ (texts : Texts) (read : Read) (old now : List Slot) where
    -- no line holds what stands there: lines at the address and below are renamed
    pub none_holds : HoldsNone p read.units old → SlotsBecome texts read below old now → RenamesLines p to spelled (text_of texts.source) read old now
    none_holds none becomes not_root ss stands ordered =
        let off = none not_root read.lines (subst (λ xs. StandAlone xs) (sym stands.are) ordered.alone) in
        let (kept, are) = slots_become texts read below old now becomes stands.kept in
        record { kept = kept; are = are ∙ sym (all_as_below (slots_standing read old) off) ∙ ap (map all) stands.are }

    -- the value of a line is what stands there: no other line is at the address or below it
    pub one_is_it : (at : Position) (steps size : ℕ) → option_map (holds p) (line_at read old at) ≡ Some true
        → steps ≡ steps_of (line_at read old at) → size ≡ length p → size ≤ steps
        → SlotAtBecomes texts read below at.slot old now → RenamesLines p to spelled (text_of texts.source) read old now
    one_is_it at steps size found is_depth is_size low becomes not_root ss stands ordered =
        let (slot, s, there, line, is, here) = holder_at read old at p found in
        let (new, put, one) = one_turned (SlotBecomes texts read below) at.slot old now slot there becomes in
        let is_far : steps ≡ steps_to s.address = is_depth ∙ ap steps_of line in
        let far : length p ≤ steps_to s.address = omega (arith, is_far, is_size, low) in
        let (kept_new, becomes_new) = one (each_get (SlotKept (text_of texts.source) read) old at.slot slot stands.kept there) in
        let (before, behind, outer, set_to) = slot_split read old at.slot slot there in
        let (front, back, inner, other) = item_split (slot_standing read slot) at.index s is in
        let split = sym stands.are ∙ split_within before front s back behind (slot_standing read slot) (slots_standing read old) outer
        inner in
        let alone = subst (λ xs. StandAlone xs) split ordered.alone in
        let (off_front, off_back) = others_not_below (before ++ front) s (back ++ behind) here
        (pairs_of_all Apart ((before ++ front) ++ s ∷ (back ++ behind)) alone) in
        let it : below s ≡ all s = let b = holder_below s.base s.address here far in ap (λ c. cond c (own s) s) b
        ∙ sym (ap (λ c. cond c (own s) (rename_inside p spelled s)) b) in
        let own_new : slot_standing read new ≡ front ++ all s ∷ back =
        becomes_new ∙ ap (map below) inner ∙ map-append below front (s ∷ back)
        ∙ ap₂ (λ xs ys. xs ++ below s ∷ ys) (all_below_stay front (each_back NotBelow before front off_front))
        (all_below_stay back (each_front NotBelow back behind off_back))
        ∙ ap (λ x. front ++ x ∷ back) it in
        record {
          kept = subst (EachIs (SlotKept (text_of texts.source) read)) (sym put)
              (each_set (SlotKept (text_of texts.source) read) old at.slot new stands.kept kept_new);
          are = split_within before front (all s) back behind (slot_standing read new) (slots_standing read now)
              (ap (slots_standing read) put ∙ set_to new) own_new
              ∙ sym (around (before ++ front) s (back ++ behind) here alone) ∙ ap (map all) (sym split);
        }

-- the value of a line holds what stands there: the line is changed, and no other
pub holder_is_renamed : (p : Address) (to : List ℕ) (spelled : Bor (List ℕ)) (texts : Texts) (read : Read) (old now : List Slot) (at : Position) (steps size : ℕ) (done : Bool)
    → option_map (holds p) (line_at read old at) ≡ Some true → steps ≡ steps_of (line_at read old at) → size ≡ length p → steps < size
    → ChangesSlots texts read at p (changes.Rename spelled) old now done → RenamesLines p to spelled.now (text_of texts.source) read old now
holder_is_renamed p to spelled texts read old now at steps size done found is_depth is_size low changed not_root ss stands ordered =
    let (slot, s, there, line, own, here) = holder_at read old at p found in
    let is_near : steps ≡ steps_to s.address = is_depth ∙ ap steps_of line in
    let short : steps_to s.address < length p = omega (arith, is_near, is_size, low) in
    let (kept, changes_at) = changed stands.kept in
    let (front, back, t, was, is, as_is) = changes_at s line in
    let split : ss ≡ front ++ s ∷ back = sym stands.are ∙ was in
    let apart = one_is_apart front s back (subst (λ xs. All (λ (x : Standing). IsApart x.outline.expr) xs) split ordered.apart) in
    let one : t ≡ rename_standing p to spelled.now s =
    as_is.1 apart here
    ∙ sym (ap (λ b. cond b (rename_own p to spelled.now s) (rename_inside p spelled.now s)) (short_not_below p to spelled.now s short)) in
    record {
      kept = kept;
      are = is ∙ ap (λ x. front ++ x ∷ back) one
          ∙ sym (around p to spelled.now front s back here (subst (λ xs. StandAlone xs) split ordered.alone))
          ∙ ap (map (rename_standing p to spelled.now)) (sym split);
    }
