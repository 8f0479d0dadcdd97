-- What becomes of lines of the working tree in whose values something is changed.
use Rattle.std.proofs.Common.{◌≡◌, ◌∙◌, ℕ, ◌<◌, ◌≤◌, Bool, true, ◌&&◌, List, [], ◌∷◌, ◌++◌, length, drop, get_or, set, Option, Some, None, refl, ap, ap₂, sym, subst, append_assoc}
use Rattle.std.specs.Global.{Box}
use Rattle.std.proofs.lemmas.Option.{slice_get_past}
use Rattle.std.specs.Prelude.{slice_get, MatchOption}
use Rattle.toml_names.proofs.Proved.{same_step-equal, same_step-self}
use Rattle.toml_names.specs.model.Addresses.{Address, same_step}
use Rattle.toml_text.specs.Source.{text_of}
use Rattle.toml_tree.specs.Tree as tree
use Rattle.toml_layout.specs.declared.changing.Inside.{Inside}
use Rattle.toml_layout.specs.declared.changing.Inside.TheVariants as changes
use Rattle.toml_working.specs.declared.lines.Body.{Body}
use Rattle.toml_working.specs.declared.lines.Body.TheVariants as bodies
use Rattle.toml_working.specs.declared.lines.Kept.{Kept}
use Rattle.toml_working.specs.declared.lines.Line.{Line}
use Rattle.toml_working.specs.declared.lines.Slot.{Slot}
use Rattle.toml_layout.specs.declared.texts.Texts.{Texts}
use Rattle.toml_layout.specs.declared.tree.OpenLine.{OpenLine}
use Rattle.toml_working.specs.declared.working.Position.{Position}
use Rattle.toml_layout.specs.declared.layout.Layout.{Layout}
use Rattle.toml_layout.specs.SettingIn.{SetsIn}
use Rattle.toml_layout.specs.Holding.{HolderChange, ChangesHolder, PutsHeld, TakesHeld}
use Rattle.toml_working.specs.Changing.{ChangesBody, ChangesOpen, RenamesOpen, SetsOpen, SetsThere, HoldsOpen, HoldsStanding, ChangesAs, ChangesStanding, ChangesLine, ChangesSlot, ChangesSlots}
use Rattle.toml_working.specs.HeldLines.{expr_has_container}
use Rattle.toml_working.specs.OpeningLines.{OpensBody, IsOpened}
use Rattle.toml_layout.specs.OpenOutlines.{line, value}
use Rattle.toml_layout.specs.Outlines.{AssignOutline, ExprOutline, ValueOutline, LineOutline, Pair}
use Rattle.toml_working.specs.RenameStanding.{rename_line_outline, rename_outline_of}
use Rattle.toml_working.specs.Seeing.{steps_to}
use Rattle.toml_working.specs.Standing.{Standing, Read, IsApart, leads_to, expr_has, outline_has, outline_of, body_outline, line_standing, set_line_outline, set_outline_of, slot_standing, slots_standing}
use Rattle.toml_layout.specs.Beginnings.{begins}
use Rattle.toml_working.specs.Stands.{BodyKept, SlotKept}
use Rattle.toml_working.proofs.Alone.{and_parts, item_split, slot_split, split_within}
use Rattle.toml_working.proofs.AtPlace.{line_in, no_line, slot_replaced}

begins_rest : (a p : Address) → begins a p ≡ true → a ++ drop (length a) p ≡ p
begins_rest [] p h = refl
begins_rest (s ∷ a) [] h = cc
begins_rest (s ∷ a) (t ∷ p) h =
    let parts = and_parts (same_step s t) (begins a p) h in
    ap₂ (λ x r. x ∷ r) (same_step-equal s t parts.0) (begins_rest a p parts.1)

begins_front : (a b : Address) → begins a (a ++ b) ≡ true
begins_front [] b = refl
begins_front (s ∷ a) b = ap (λ c. c && begins a (a ++ b)) (same_step-self s) ∙ begins_front a b

abbrev standing_on : ℕ → Address → LineOutline → Standing
standing_on n a l = record { address = Some a; base = Some n; outline = l }

-- the value of a line holds what stands at the address: a `set` at the steps below the line is one at the address
sets_below : (p : Address) (new : ValueOutline) (base : Option ℕ) (own : Option Address) (old now : LineOutline) (done : Bool) → leads_to p base own ≡ true
    → SetsOpen (drop (steps_to own) p) new old now done → IsApart old.expr → (now ≡ set_outline_of p new base own old) × (done ≡ outline_has p base own old.expr)
sets_below p new None own old now done h sets apart = cc
sets_below p new (Some n) None old now done h sets apart = cc
sets_below p new (Some n) (Some a) old now done h sets apart =
    subst (λ q. (now ≡ set_line_outline q new a old) × (done ≡ expr_has q a old.expr)) (begins_rest a p h) (sets apart a)

-- and so is a `rename`
renames_below : (p : Address) (text : List ℕ) (base : Option ℕ) (own : Option Address) (old now : LineOutline) → leads_to p base own ≡ true
    → RenamesOpen (drop (steps_to own) p) text old now → IsApart old.expr → now ≡ rename_outline_of p text base own old
renames_below p text None own old now h renames apart = cc
renames_below p text (Some n) None old now h renames apart = cc
renames_below p text (Some n) (Some a) old now h renames apart = subst (λ q. now ≡ rename_line_outline q text a old) (begins_rest a p h) (renames apart a)

-- what a line is once it is opened
pub opened_outline : (texts : Texts) (read : Read) (lines : List tree.Line) (old mid : Body) (o : Box OpenLine) → read.lines ≡ lines → BodyKept (text_of texts.source) read old
    → OpensBody texts lines old mid → mid ≡ bodies.Open o → body_outline read old ≡ line o.value
opened_outline texts read lines (bodies.Open x) mid o are kept opens is = let e : bodies.Open x ≡ bodies.Open o = sym opens ∙ is in ap (body_outline read) e
opened_outline texts read lines (bodies.Kept k) mid o are kept opens is =
    let there : slice_get lines k.line ≡ Some kept.line = subst (λ ls. slice_get ls k.line ≡ Some kept.line) are kept.is in
    let (b, made, outlined) = subst (λ r. MatchOption r (mid ≡ bodies.Kept k) (λ l. IsOpened texts l mid)) there opens in
    let e : bodies.Open b ≡ bodies.Open o = sym made ∙ is in
    ap outline_of kept.is ∙ sym (outlined kept.stands) ∙ ap (body_outline read) e

-- what the document has is opened
pub never_kept : (texts : Texts) (read : Read) (lines : List tree.Line) (old mid : Body) (k : Kept) → read.lines ≡ lines → BodyKept (text_of texts.source) read old
    → OpensBody texts lines old mid → mid ≡ bodies.Kept k → ⊥
never_kept texts read lines (bodies.Open x) mid k are kept opens is = let e : bodies.Open x ≡ bodies.Kept k = sym opens ∙ is in cc
never_kept texts read lines (bodies.Kept j) mid k are kept opens is =
    let there : slice_get lines j.line ≡ Some kept.line = subst (λ ls. slice_get ls j.line ≡ Some kept.line) are kept.is in
    let (b, made, outlined) = subst (λ r. MatchOption r (mid ≡ bodies.Kept j) (λ l. IsOpened texts l mid)) there opens in
    let e : bodies.Open b ≡ bodies.Kept k = sym made ∙ is in
    cc

-- and so the array or the inline table is found that holds what stands there
holder_below : (makes : HolderChange) (p : Address) (base : Option ℕ) (own : Option Address) (old now : LineOutline) → leads_to p base own ≡ true
    → ChangesHolder SetsOpen makes (drop (steps_to own) p) old now
    → ChangesHolder SetsThere makes p (record { address = own; base = base; outline = old }) (record { address = own; base = base; outline = now })
holder_below makes p None own old now h held = cc
holder_below makes p (Some n) None old now h held = cc
holder_below makes p (Some n) (Some a) old now h held =
    let there : begins a (a ++ held.to) ≡ true = begins_front a held.to in
    record {
      to = a ++ held.to;
      rest = held.rest;
      split = sym (begins_rest a p h) ∙ ap (λ s. a ++ s) held.split ∙ sym (append_assoc a held.to held.rest);
      was = held.was;
      other = held.other;
      stood = (there, λ apart _. let sets = held.stood apart a in (ap (standing_on n a) sets.0, sets.1));
      stands = (there, λ apart _. let sets = held.stands apart a in (ap (standing_on n a) sets.0, sets.1));
      made = held.made;
    }

-- whether it is found, too
told_below : (p : Address) (base : Option ℕ) (own : Option Address) (e : ExprOutline) → leads_to p base own ≡ true
    → expr_has_container e (drop (steps_to own) p) ≡ (leads_to p base own && expr_has_container e (drop (steps_to own) p))
told_below p base own e h = ap (λ b. b && expr_has_container e (drop (steps_to own) p)) (sym h)

holds_below : (makes : HolderChange) (p : Address) (base : Option ℕ) (own : Option Address) (old now old_open now_open : LineOutline) (done : Bool) → old ≡ old_open → now ≡ now_open
    → HoldsOpen (drop (steps_to own) p) makes old_open now_open done
    → HoldsStanding p makes (record { address = own; base = base; outline = old }) (record { address = own; base = base; outline = now }) done
holds_below makes p base own old now old_open now_open done was is holder =
    let at_old = subst (λ l. HoldsOpen (drop (steps_to own) p) makes l now_open done) (sym was) holder in
    let here = subst (λ m. HoldsOpen (drop (steps_to own) p) makes old m done) (sym is) at_old in
    record {
      made = λ h made. holder_below makes p base own old now h (here.made made);
      stays = λ not. ap (λ l. record { address = own; base = base; outline = l }) (here.stays not);
      tells = λ apart h. here.tells apart ∙ told_below p base own old.expr h;
    }

changes_as : (layout : Layout) (p : Address) (change : Inside) (base : Option ℕ) (own : Option Address) (old now old_open now_open : LineOutline) (done : Bool) → old ≡ old_open → now ≡ now_open
    → ChangesOpen layout (drop (steps_to own) p) change old_open now_open done
    → ChangesAs layout p change (record { address = own; base = base; outline = old }) (record { address = own; base = base; outline = now }) done
changes_as layout p (changes.Set new) base own old now old_open now_open done was is sets = λ apart h.
    let sets_old : SetsOpen (drop (steps_to own) p) (value new) old now done = subst (λ l. SetsOpen (drop (steps_to own) p) (value new) l now done) (sym was) (subst (λ m. SetsOpen (drop (steps_to own) p) (value new) old_open m done) (sym is) sets) in
    let (set_to, has_it) = sets_below p (value new) base own old now done h sets_old apart in
    (ap (λ l. record { address = own; base = base; outline = l }) set_to, has_it)
changes_as layout p (changes.Insert spelled new) base own old now old_open now_open done was is holder =
    holds_below (PutsHeld layout spelled.now new) p base own old now old_open now_open done was is holder
changes_as layout p (changes.Rename to) base own old now old_open now_open done was is renames = λ apart h.
    let renames_old : RenamesOpen (drop (steps_to own) p) to.now old now = subst (λ l. RenamesOpen (drop (steps_to own) p) to.now l now) (sym was) (subst (λ m. RenamesOpen (drop (steps_to own) p) to.now old_open m) (sym is) renames) in
    ap (λ l. record { address = own; base = base; outline = l }) (renames_below p to.now base own old now h renames_old apart)
changes_as layout p changes.Remove base own old now old_open now_open done was is holder =
    holds_below (TakesHeld layout) p base own old now old_open now_open done was is holder

pub line_changed : (texts : Texts) (lines : List tree.Line) (p steps : Address) (change : Inside) (old mid now : Line) (done : Bool) → mid.address ≡ old.address → mid.base ≡ old.base
    → OpensBody texts lines old.body mid.body → now.address ≡ mid.address → now.base ≡ mid.base → steps ≡ drop (steps_to mid.address) p
    → ChangesBody texts.layout steps change mid.body now.body done → ChangesLine texts lines p change old now done
line_changed texts lines p steps change old mid now done mid_address mid_base opens address base left changed read are kept = by mid.body refl changed
  where
    by : (body : Body) → mid.body ≡ body → ChangesBody texts.layout steps change body now.body done
        → BodyKept (text_of texts.source) read now.body × ChangesStanding texts.layout p change (line_standing read old) (line_standing read now) done
    by (bodies.Kept k) is unchanged = absurd (never_kept texts read lines old.body mid.body k are kept opens is)
    by (bodies.Open o) opened (n, is, changed_open) =
        let same_address = address ∙ mid_address in
        let same_base = base ∙ mid_base in
        let as_is = changes_as texts.layout p change old.base old.address (body_outline read old.body) (body_outline read now.body) (line o.value) (line n.value) done
        (opened_outline texts read lines old.body mid.body o are kept opens opened) (ap (body_outline read) is)
        (subst (λ s. ChangesOpen texts.layout s change (line o.value) (line n.value) done) (left ∙ ap (λ a. drop (steps_to a) p) mid_address) changed_open) in (
          subst (BodyKept (text_of texts.source) read) (sym is) tt,
          (
            ap₂ (λ a b. record { address = a; base = b }) same_address same_base,
            subst (λ a. ChangesAs texts.layout p change (line_standing read old) (record { address = a; base = now.base; outline = body_outline read now.body }) done) (sym same_address)
                (subst (λ b. ChangesAs texts.layout p change (line_standing read old) (record { address = old.address; base = b; outline = body_outline read now.body }) done) (sym same_base) as_is),
          ),
        )

-- the slot of the place is changed
pub at_changed : (texts : Texts) (read : Read) (at : Position) (p : Address) (change : Inside) (old now : List Slot) (slot new : Slot) (done : Bool) → at.slot < length old → slot ≡ get_or old at.slot slot
    → now ≡ set old at.slot new → ChangesSlot texts read at.index p change slot new done → ChangesSlots texts read at p change old now done
at_changed texts read at p change old now slot new done low is put changed kept =
    let (there, kept_now, changes) = slot_replaced (SlotKept (text_of texts.source) read) at.slot old now slot new low is put kept changed
    in (
      kept_now,
      λ s e.
          let own = line_in read old at slot s there e in
          let (t, new_own, as_is) = changes s own in
          let (before, behind, all, set_to) = slot_split read old at.slot slot there in
          let (front, back, split, new_split) = item_split (slot_standing read slot) at.index s own in
          let outer : slots_standing read now ≡ before ++ (slot_standing read new ++ behind) = ap (slots_standing read) put ∙ set_to new in
          let inner : slot_standing read new ≡ front ++ t ∷ back = new_own ∙ new_split t in (
            before ++ front,
            back ++ behind,
            t,
            split_within before front s back behind (slot_standing read slot) (slots_standing read old) all split,
            split_within before front t back behind (slot_standing read new) (slots_standing read now) outer inner,
            as_is,
          ),
    )

pub no_slot_changed : (texts : Texts) (read : Read) (at : Position) (p : Address) (change : Inside) (old : List Slot) (done : Bool) → length old ≤ at.slot → ChangesSlots texts read at p change old old done
no_slot_changed texts read at p change old done past kept =
    (kept, λ s e. absurd (no_line read old at s (slice_get_past old at.slot past) e))

-- ---- the value of a line that is opened

module _ (ws : List ℕ) (a : AssignOutline) (tail : List ℕ) (comment : Option (List ℕ)) (newline : List ℕ) where
  abbrev with_pair : ValueOutline → LineOutline
  with_pair v = record { ws = ws; expr = Pair a v; tail = tail; comment = comment; newline = newline }

  pair_held : (makes : HolderChange) (steps : Address) (v w : ValueOutline) → ChangesHolder SetsIn makes steps v w
      → ChangesHolder SetsOpen makes steps (with_pair v) (with_pair w)
  pair_held makes steps v w held = record {
    to = held.to;
    rest = held.rest;
    split = held.split;
    was = held.was;
    other = held.other;
    stood = λ apart at. let sets = held.stood apart at in (ap with_pair sets.0, sets.1);
    stands = λ apart at. let sets = held.stands apart at in (ap with_pair sets.0, sets.1);
    made = held.made;
  }
