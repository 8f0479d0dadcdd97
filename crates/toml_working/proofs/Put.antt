-- Lines of the working tree that get another newline, and ones that are put in.
use Rattle.std.proofs.Common.{◌≡◌, ◌∙◌, ℕ, zero, suc, ◌+◌, ◌<◌, ◌≤◌, Bool, true, false, List, [], ◌∷◌, ◌++◌, length, take, drop, get_or, map, set, Some, None, refl, ap, ap₂, sym, subst, arith, append_assoc, true≢false}
use Rattle.std.proofs.Math.ListN.{length-set}
use Rattle.std.specs.declared.alloc.Global.{Global}
use Rattle.std.specs.declared.vec.Vec.{Vec}
use Rattle.std.specs.Prelude.{option_map, slice_get}
use Rattle.std.proofs.lemmas.List.{drop-set-lt, take_more, take_more_set}
use Rattle.std.proofs.lemmas.Option.{get_or_from_slice_get, none-some, same_Some, slice_get-map, slice_get_past, slice_get_within}
use Rattle.toml_text.specs.Source.{text_of}
use Rattle.toml_tree.specs.Spells.{EachIs}
use Rattle.toml_tree.specs.Tree as tree
use Rattle.toml_working.specs.declared.lines.Body.{Body}
use Rattle.toml_working.specs.declared.lines.Body.TheVariants as bodies
use Rattle.toml_working.specs.declared.lines.Line.{Line}
use Rattle.toml_working.specs.declared.lines.Slot.{Slot}
use Rattle.toml_working.specs.declared.lines.Slot.TheVariants as slots
use Rattle.toml_layout.specs.declared.texts.Texts.{Texts}
use Rattle.toml_working.specs.declared.working.Position.{Position}
use Rattle.toml_working.specs.Becoming.{LineBecomes}
use Rattle.toml_working.specs.InsertStanding.{end_in}
use Rattle.toml_working.specs.OpeningLines.{EndsIn, OpensBody, OpensToEndIn}
use Rattle.toml_layout.specs.OpenOutlines.{line}
use Rattle.toml_layout.specs.Outlines.{LineOutline}
use Rattle.toml_working.specs.Placing.{lines_before, lines_from}
use Rattle.toml_working.specs.Putting.{Becomes, EndsBefore, EndsSlot, EndsSlots, IsLastAt, LineIsLast, PutsSlot, PutsSlots, PutsThere, SlotIsLast, TellsLast, ended_before, newline_behind}
use Rattle.toml_working.specs.Seeing.{line_at}
use Rattle.toml_working.specs.Standing.{Standing, Read, body_outline, line_standing, slot_standing, slots_standing}
use Rattle.toml_working.specs.Stands.{BodyKept, OpensSlot, SlotKept}
use Rattle.toml_working.proofs.AtPlace.{line_in, no_line, slot_replaced, slot_of}
use Rattle.toml_working.proofs.Changed.{never_kept, opened_outline}
use Rattle.toml_working.proofs.Each.{each_get}
use Rattle.toml_working.proofs.Turned.{opened_kept, opened_standing}

-- ---- the last line

pub last_line : (slot : Slot) (lines : Vec Line Global) (index : ℕ) (l : Line) (b : Bool) → slot ≡ slots.Lines lines → slice_get lines.items index ≡ Some l → LineIsLast l b → SlotIsLast slot index b
last_line slot lines index l b is there last text read kept s at =
    let here : slice_get (map (line_standing read) lines.items) index ≡ Some s = subst (λ x. slice_get (slot_standing read x) index ≡ Some s) is at in
    let same : line_standing read l ≡ s = same_Some (line_standing read l) s (sym (slice_get-map (line_standing read) lines.items index ∙ ap (option_map (line_standing read)) there) ∙ here) in
    subst (TellsLast b) same (last text read (each_get (λ (x : Line). BodyKept text read x.body) lines.items index l (subst (SlotKept text read) is kept) there))

pub no_last_line : (slot : Slot) (lines : Vec Line Global) (index : ℕ) → slot ≡ slots.Lines lines → slice_get lines.items index ≡ None → SlotIsLast slot index false
no_last_line slot lines index is none text read kept s at =
    let here : slice_get (map (line_standing read) lines.items) index ≡ Some s = subst (λ x. slice_get (slot_standing read x) index ≡ Some s) is at in
    absurd (none-some s (sym (slice_get-map (line_standing read) lines.items index ∙ ap (option_map (line_standing read)) none) ∙ here))

pub last_slot : (slots : List Slot) (at : Position) (slot : Slot) (b : Bool) → slice_get slots at.slot ≡ Some slot → SlotIsLast slot at.index b → IsLastAt slots at b
last_slot slots at slot b there last text read kept s e =
    last text read (each_get (SlotKept text read) slots at.slot slot kept there) s (line_in read slots at slot s there e)

pub no_last_slot : (slots : List Slot) (at : Position) → slice_get slots at.slot ≡ None → IsLastAt slots at false
no_last_slot slots at none text read kept s e = absurd (no_line read slots at s none e)

-- ---- another newline

pub line_ended : (newline : List ℕ) (texts : Texts) (lines : List tree.Line) (old now : Line) → now.address ≡ old.address → now.base ≡ old.base
    → OpensToEndIn newline texts lines old.body now.body → LineBecomes texts lines (end_in newline) old now
line_ended newline texts lines old now address base (mid, opens, ends) read are kept = by mid opens ends
  where
    by : (body : Body) → OpensBody texts lines old.body body → EndsIn newline body now.body
        → BodyKept (text_of texts.source) read now.body × (line_standing read now ≡ end_in newline (line_standing read old))
    by (bodies.Kept k) opens ends = absurd (never_kept texts read lines old.body (bodies.Kept k) k are kept opens refl)
    by (bodies.Open o) opens (n, is, outlined) =
        let was : body_outline read old.body ≡ line o.value = opened_outline texts read lines old.body (bodies.Open o) o are kept opens refl in
        let made : body_outline read now.body ≡ record (body_outline read old.body) { newline = newline } =
        ap (body_outline read) is ∙ outlined ∙ ap (λ (l : LineOutline). record l { newline = newline }) (sym was) in (
          subst (BodyKept (text_of texts.source) read) (sym is) tt,
          ap₂ (λ a b. record { address = a; base = b; outline = body_outline read now.body }) address base ∙ ap (λ l. record { address = old.address; base = old.base; outline = l }) made,
        )

-- ---- a line becomes another

module _ (read : Read) (i : ℕ) (t : Standing) where
  before_set : (old : List Slot) (k : ℕ) (slot new : Slot) → slice_get old k ≡ Some slot → i < length (slot_standing read slot)
      → slot_standing read new ≡ set (slot_standing read slot) i t → lines_before read (set old k new) k (i + 1) ≡ lines_before read old k i ++ t ∷ []
  before_set [] k slot new there low is = cc
  before_set (x ∷ xs) zero slot new there low is =
      let e : slot ≡ x = cc in
      ap (take (i + 1)) (is ∙ ap (λ y. set (slot_standing read y) i t) e) ∙ take_more_set (slot_standing read x) i t (subst (λ y. i < length (slot_standing read y)) e low)
  before_set (x ∷ xs) (suc k) slot new there low is =
      ap (λ r. slot_standing read x ++ r) (before_set xs k slot new there low is) ∙ sym (append_assoc (slot_standing read x) (lines_before read xs k i) (t ∷ []))

  behind_set : (old : List Slot) (k : ℕ) (slot new : Slot) → slice_get old k ≡ Some slot
      → slot_standing read new ≡ set (slot_standing read slot) i t → lines_from read (set old k new) k (i + 1) ≡ lines_from read old k (i + 1)
  behind_set [] k slot new there is = cc
  behind_set (x ∷ xs) zero slot new there is =
      let e : slot ≡ x = cc in
      ap (λ r. r ++ slots_standing read xs) (ap (drop (i + 1)) (is ∙ ap (λ y. set (slot_standing read y) i t) e) ∙ drop-set-lt (i + 1) (slot_standing read x) i t (omega arith))
  behind_set (x ∷ xs) (suc k) slot new there is = behind_set xs k slot new there is

pub at_ended : (newline : List ℕ) (texts : Texts) (read : Read) (at : Position) (old now : List Slot) (slot new : Slot) → at.slot < length old → slot ≡ get_or old at.slot slot
    → now ≡ set old at.slot new → EndsSlot newline texts read at.index slot new → EndsSlots newline texts read at old now
at_ended newline texts read at old now slot new low is put ended kept =
    let (there, kept_now, ends) = slot_replaced (SlotKept (text_of texts.source) read) at.slot old now slot new low is put kept ended in (
      kept_now,
      λ s e.
          let own = line_in read old at slot s there e in
          let within : at.index < length (slot_standing read slot) = slice_get_within (slot_standing read slot) at.index s own in
          let (t, is, ended_so) = ends s own in
          subst (Becomes read at old now) ended_so (record {
            count = ap length put ∙ length-set old at.slot new;
            before = ap (λ xs. lines_before read xs at.slot (at.index + 1)) put ∙ before_set read at.index t old at.slot slot new there
                within is;
            behind = ap (λ xs. lines_from read xs at.slot (at.index + 1)) put ∙ behind_set read at.index t old at.slot slot new there is;
          }),
    )

pub no_slot_ended : (newline : List ℕ) (texts : Texts) (read : Read) (at : Position) (old : List Slot) → length old ≤ at.slot → EndsSlots newline texts read at old old
no_slot_ended newline texts read at old past kept = (kept, λ s e. absurd (no_line read old at s (slice_get_past old at.slot past) e))

-- a line that stays
pub before_next : (read : Read) (old : List Slot) (k i : ℕ) (slot : Slot) (s : Standing) → slice_get old k ≡ Some slot → slice_get (slot_standing read slot) i ≡ Some s
    → lines_before read old k (i + 1) ≡ lines_before read old k i ++ s ∷ []
before_next read [] k i slot s there at = cc
before_next read (x ∷ xs) zero i slot s there at =
    let e : slot ≡ x = cc in
    let here : slice_get (slot_standing read x) i ≡ Some s = subst (λ y. slice_get (slot_standing read y) i ≡ Some s) e at in
    take_more (slot_standing read x) i s (slice_get_within (slot_standing read x) i s here)
    ∙ ap (λ y. take i (slot_standing read x) ++ y ∷ []) (get_or_from_slice_get (slot_standing read x) i s s here)
before_next read (x ∷ xs) (suc k) i slot s there at =
    ap (λ r. slot_standing read x ++ r) (before_next read xs k i slot s there at) ∙ sym (append_assoc (slot_standing read x) (lines_before read xs k i) (s ∷ []))

pub stays_so : (read : Read) (at : Position) (old : List Slot) (s : Standing) → line_at read old at ≡ Some s → Becomes read at old old s
stays_so read at old s e =
    let (slot, there, own) = slot_of read old at s e in
    record { count = refl; before = before_next read old at.slot at.index slot s there own; behind = refl }

-- ---- a line is put in

map_put : {X Y : Type 0} (f : X → Y) (xs : List X) (i : ℕ) (x : X) → map f (take i xs ++ x ∷ drop i xs) ≡ take i (map f xs) ++ f x ∷ drop i (map f xs)
map_put f [] zero x = refl
map_put f [] (suc i) x = refl
map_put f (y ∷ xs) zero x = refl
map_put f (y ∷ xs) (suc i) x = ap (λ r. f y ∷ r) (map_put f xs i x)

each_put_in : {X : Type 0} (P : X → Type 0) (xs : List X) (i : ℕ) (x : X) → EachIs P xs → P x → EachIs P (take i xs ++ x ∷ drop i xs)
each_put_in P [] zero x h k = (k, tt)
each_put_in P [] (suc i) x h k = (k, tt)
each_put_in P (y ∷ xs) zero x h k = (k, h)
each_put_in P (y ∷ xs) (suc i) x h k = (h.0, each_put_in P xs i x h.1 k)

pub slot_put : (read : Read) (index : ℕ) (l : Line) (old mid : Slot) (lines made : Vec Line Global) → OpensSlot read.units old mid → mid ≡ slots.Lines lines
    → made.items ≡ take index lines.items ++ l ∷ drop index lines.items → PutsSlot read index l old (slots.Lines made)
slot_put read index l old mid lines made opens opened put text kept kept_line =
    let each = opened_kept text read old mid lines opens opened kept in (
      subst (EachIs (λ (x : Line). BodyKept text read x.body)) (sym put) (each_put_in (λ (x : Line). BodyKept text read x.body) lines.items index l each kept_line),
      ap (map (line_standing read)) put ∙ map_put (line_standing read) lines.items index l
          ∙ ap (λ xs. take index xs ++ line_standing read l ∷ drop index xs) (opened_standing read old mid lines opens opened),
    )

slots_put : (read : Read) (i : ℕ) (t : Standing) (old : List Slot) (k : ℕ) (slot new : Slot) → slice_get old k ≡ Some slot
    → slot_standing read new ≡ take i (slot_standing read slot) ++ t ∷ drop i (slot_standing read slot)
    → slots_standing read (set old k new) ≡ lines_before read old k i ++ t ∷ lines_from read old k i
slots_put read i t [] k slot new there is = cc
slots_put read i t (x ∷ xs) zero slot new there is =
    let e : slot ≡ x = cc in
    ap (λ r. r ++ slots_standing read xs) (is ∙ ap (λ y. take i (slot_standing read y) ++ t ∷ drop i (slot_standing read y)) e)
    ∙ append_assoc (take i (slot_standing read x)) (t ∷ drop i (slot_standing read x)) (slots_standing read xs)
slots_put read i t (x ∷ xs) (suc k) slot new there is =
    ap (λ r. slot_standing read x ++ r) (slots_put read i t xs k slot new there is)
    ∙ sym (append_assoc (slot_standing read x) (lines_before read xs k i) (t ∷ lines_from read xs k i))

pub at_put : (read : Read) (at : Position) (l : Line) (old now : List Slot) (slot new : Slot) → at.slot < length old → slot ≡ get_or old at.slot slot
    → now ≡ set old at.slot new → PutsSlot read at.index l slot new → PutsSlots read at l old now
at_put read at l old now slot new low is put puts within text kept kept_line =
    let (there, kept_now, stands) = slot_replaced (SlotKept text read) at.slot old now slot new low is put kept
    (λ k. puts text k kept_line) in (
      kept_now,
      ap (slots_standing read) put ∙ slots_put read at.index (line_standing read l) old at.slot slot new there stands,
    )

pub no_slot_put : (read : Read) (at : Position) (l : Line) (old now : List Slot) → length old ≤ at.slot → PutsSlots read at l old now
no_slot_put read at l old now past within = absurd (omega (arith, past, within))

-- the lines before the place stay, and from it on the new one is the first
module _ (read : Read) (i : ℕ) (t : Standing) where
  before_put : (old : List Slot) (k : ℕ) (slot new : Slot) → slice_get old k ≡ Some slot → i ≤ length (slot_standing read slot)
      → slot_standing read new ≡ take i (slot_standing read slot) ++ t ∷ drop i (slot_standing read slot)
      → lines_before read (set old k new) k i ≡ lines_before read old k i
  before_put [] k slot new there low is = cc
  before_put (x ∷ xs) zero slot new there low is =
      let e : slot ≡ x = cc in
      ap (take i) is ∙ take_front i (slot_standing read slot) (t ∷ drop i (slot_standing read slot)) low ∙ ap (λ y. take i (slot_standing read y)) e
    where
      take_front : (n : ℕ) (ss back : List Standing) → n ≤ length ss → take n (take n ss ++ back) ≡ take n ss
      take_front zero ss back low = refl
      take_front (suc n) [] back low = absurd (omega (arith, low))
      take_front (suc n) (s ∷ ss) back low = ap (λ r. s ∷ r) (take_front n ss back (omega (arith, low)))
  before_put (x ∷ xs) (suc k) slot new there low is = ap (λ r. slot_standing read x ++ r) (before_put xs k slot new there low is)

  from_put : (old : List Slot) (k : ℕ) (slot new : Slot) → slice_get old k ≡ Some slot → i ≤ length (slot_standing read slot)
      → slot_standing read new ≡ take i (slot_standing read slot) ++ t ∷ drop i (slot_standing read slot)
      → lines_from read (set old k new) k i ≡ t ∷ lines_from read old k i
  from_put [] k slot new there low is = cc
  from_put (x ∷ xs) zero slot new there low is =
      let e : slot ≡ x = cc in
      ap (λ r. r ++ slots_standing read xs) (ap (drop i) is ∙ drop_front i (slot_standing read slot) (t ∷ drop i (slot_standing read slot)) low)
      ∙ ap (λ y. (t ∷ drop i (slot_standing read y)) ++ slots_standing read xs) e
    where
      drop_front : (n : ℕ) (ss back : List Standing) → n ≤ length ss → drop n (take n ss ++ back) ≡ back
      drop_front zero ss back low = refl
      drop_front (suc n) [] back low = absurd (omega (arith, low))
      drop_front (suc n) (s ∷ ss) back low = drop_front n ss back (omega (arith, low))
  from_put (x ∷ xs) (suc k) slot new there low is = from_put xs k slot new there low is

pub at_put_there : (read : Read) (at : Position) (l : Line) (old now : List Slot) (slot new : Slot) → at.slot < length old → slot ≡ get_or old at.slot slot
    → now ≡ set old at.slot new → PutsSlot read at.index l slot new → PutsThere read at l old now
at_put_there read at l old now slot new low is put puts inside text kept kept_line =
    let (there, kept_now, stands) = slot_replaced (SlotKept text read) at.slot old now slot new low is put kept
    (λ k. puts text k kept_line) in
    let same : inside.slot ≡ slot = same_Some inside.slot slot (sym inside.there ∙ there) in
    let within : at.index ≤ length (slot_standing read slot) = subst (λ x. at.index ≤ length (slot_standing read x)) same inside.low in (
      subst (λ n. at.slot < n) (sym (ap length put ∙ length-set old at.slot new)) low,
      ap (λ xs. lines_before read xs at.slot at.index) put ∙ before_put read at.index (line_standing read l) old at.slot slot new there within stands,
      ap (λ xs. lines_from read xs at.slot at.index) put ∙ from_put read at.index (line_standing read l) old at.slot slot new there within stands,
    )

pub no_slot_there : (read : Read) (at : Position) (l : Line) (old now : List Slot) → length old ≤ at.slot → PutsThere read at l old now
no_slot_there read at l old now past inside =
    let within = slice_get_within old at.slot inside.slot inside.there in absurd (omega (arith, past, within))

-- ---- a line behind another

-- one that has a newline stays
pub stays_full : (style : List ℕ) (texts : Texts) (read : Read) (at : Position) (old : List Slot) (b : Bool) → IsLastAt old at b → b ≡ false
    → EndsBefore style texts read at old old style
stays_full style texts read at old b last is kept = (kept, λ s e. by s e s.outline.newline refl)
  where
    by : (s : Standing) → line_at read old at ≡ Some s → (newline : List ℕ) → s.outline.newline ≡ newline
        → Becomes read at old old (ended_before style s newline) × (style ≡ newline_behind style newline)
    by s e [] none = absurd (true≢false (sym ((last (text_of texts.source) read kept s e).1 none) ∙ is))
    by s e (x ∷ xs) some = (stays_so read at old s e, refl)

-- one that has none gets the style's
pub ends_last : (style : List ℕ) (texts : Texts) (read : Read) (at : Position) (old now : List Slot) (b : Bool) → IsLastAt old at b → b ≡ true
    → EndsSlots style texts read at old now → EndsBefore style texts read at old now []
ends_last style texts read at old now b last is ends kept = ((ends kept).0, λ s e. by s e s.outline.newline refl)
  where
    by : (s : Standing) → line_at read old at ≡ Some s → (newline : List ℕ) → s.outline.newline ≡ newline
        → Becomes read at old now (ended_before style s newline) × ([] ≡ newline_behind style newline)
    by s e [] none = ((ends kept).1 s e, refl)
    by s e (x ∷ xs) some = let none : s.outline.newline ≡ [] = (last (text_of texts.source) read kept s e).0 is in cc
