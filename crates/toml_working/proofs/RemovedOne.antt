-- The line that a `remove` takes out: no other stands at the address or below it.
use Rattle.std.proofs.Common.{◌≡◌, ◌∙◌, inl, inr, ℕ, ◌+◌, ◌-◌, ◌<◌, Bool, true, false, cond, ◌&&◌, ◌||◌, List, [], ◌∷◌, ◌++◌, length, length-append, set, take, Option, Some, None, refl, ap, ap₂, sym, subst, arith, true≢false, append_assoc}
use Rattle.std.specs.Bool.{nat_lt}
use Rattle.std.specs.List.{list_any}
use Rattle.std.specs.Prelude.{flat_map, not, slice_get}
use Rattle.std.proofs.lemmas.Bool.{and_parts}
use Rattle.std.proofs.lemmas.List.{take-append-le, take_all}
use Rattle.std.proofs.lemmas.List.Folds.{list_any-append}
use Rattle.toml_names.proofs.Proved.{same_address-decides, same_step-self}
use Rattle.toml_names.specs.declared.model.address.Step.{Step}
use Rattle.toml_names.specs.model.Addresses.{Address, is_above}
use Rattle.toml_text.specs.Source.{text_of}
use Rattle.toml_tree.specs.Spells.{EachIs}
use Rattle.toml_working.specs.declared.lines.Slot.{Slot}
use Rattle.toml_working.specs.declared.lines.Sought.TheVariants as sought
use Rattle.toml_working.specs.declared.working.Position.{Position}
use Rattle.toml_working.specs.declared.working.Tree.{Tree}
use Rattle.toml_working.specs.Parents.{IsParent}
use Rattle.toml_working.specs.RemoveStanding.{is_pair, is_undotted_at, is_undotted_pair, is_value_at, leaves_parent, left_of_pair, makes, makes_beside, removed_one, remove_standing}
use Rattle.toml_layout.specs.Holders.{parent_of}
use Rattle.toml_working.specs.RemovingIn.{LeavesSlot, RemovesLines, TakesOutLine, TellsStays, base_of, stays_behind, stays_past, steps_or_zero, left_of_all}
use Rattle.toml_working.specs.Seeing.{HoldsNone, IsSoughtAt, line_at, steps_of, steps_to}
use Rattle.toml_working.specs.Standing.{Standing, Read, StandAlone, covers, covers_at, holds, is_below, leads_to, lies_below, slot_standing, slots_standing}
use Rattle.toml_layout.specs.Beginnings.{begins}
use Rattle.toml_working.specs.Stands.{KeepsRest, SlotKept}
use Rattle.toml_working.proofs.Beginning.{begins_self}
use Rattle.toml_working.proofs.Alone.{item_split, slot_split, split_within}
use Rattle.toml_working.proofs.AtPlace.{holder_at}
use Rattle.toml_working.proofs.Each.{each_back, each_front, each_get, each_set, each_weaker}
use Rattle.toml_working.proofs.Removed.{out_append}
use Rattle.toml_working.proofs.Turned.{one_turned}
use Rattle.toml_working.proofs.HeldLines.{steps_left}
use Rattle.toml_working.specs.HeldLines.{HeldIsNoLine, has_container_at}
use Rattle.toml_working.proofs.Pairwise.{PairsAre, pairs_of_all}

-- the address of a pair's line
pair_address : (p : Address) (base : Option ℕ) (own : Option Address) → is_value_at p base own ≡ true → own ≡ Some p
pair_address p None own is = cc
pair_address p (Some n) None is = cc
pair_address p (Some n) (Some a) is = ap Some ((same_address-decides a p).0 is)

-- what the line of a pair covers stands at the pair's address or below it
pair_covers : (p : Address) (base : Option ℕ) (own : Option Address) (t : Standing) → is_value_at p base own ≡ true → covers_at base own t ≡ is_below p t
pair_covers p None own t is = cc
pair_covers p (Some n) None t is = cc
pair_covers p (Some n) (Some a) t is = ap (λ b. is_below b t) ((same_address-decides a p).0 is)

-- what holds the address covers the pair's line
holder_covers : (p : Address) (base : Option ℕ) (own : Option Address) (t : Standing) → leads_to p base own ≡ true → is_pair p t ≡ true → covers_at base own t ≡ true
holder_covers p None own t leads is = cc
holder_covers p (Some n) None t leads is = cc
holder_covers p (Some n) (Some a) t leads is = ap (lies_below a) (pair_address p t.base t.address is) ∙ leads

-- the line of a pair holds its address, and stands there
pair_holds : (p : Address) (base : Option ℕ) (own : Option Address) → is_value_at p base own ≡ true → leads_to p base own ≡ true
pair_holds p None own is = cc
pair_holds p (Some n) None is = cc
pair_holds p (Some n) (Some a) is = subst (λ q. begins q p ≡ true) (sym ((same_address-decides a p).0 is)) (begins_self p)

pair_below : (p : Address) (s : Standing) → is_pair p s ≡ true → is_below p s ≡ true
pair_below p s is = ap (lies_below p) (pair_address p s.base s.address is) ∙ begins_self p

-- what stands elsewhere is no pair's there
no_pair : (p : Address) (base : Option ℕ) (own : Option Address) → lies_below p own ≡ false → is_value_at p base own ≡ false
no_pair p base own apart = by (is_value_at p base own) refl
  where
    by : (b : Bool) → is_value_at p base own ≡ b → is_value_at p base own ≡ false
    by true is = absurd (true≢false (sym (begins_self p) ∙ sym (ap (lies_below p) (pair_address p base own is)) ∙ apart))
    by false is = is

-- of lines that stand alone none is covered by another
around : (front : List Standing) (s : Standing) (back : List Standing) → PairsAre (λ x t. (covers x t ≡ false) × (covers t x ≡ false)) (front ++ s ∷ back)
    → EachIs (λ t. covers s t ≡ false) front × EachIs (λ t. covers s t ≡ false) back
around [] s back h = (tt, each_weaker (λ t. (covers s t ≡ false) × (covers t s ≡ false)) (λ t. covers s t ≡ false) (λ t k. k.0) back h.0)
around (x ∷ front) s back h =
    let here = each_back (λ t. (covers x t ≡ false) × (covers t x ≡ false)) front (s ∷ back) h.0 in
    let rest = around front s back h.1 in
    ((here.0.1, rest.0), rest.1)

-- none of these is the pair's line
none_is : (p : Address) (s : Standing) (ts : List Standing) → holds p s ≡ true → EachIs (λ t. covers s t ≡ false) ts → list_any (is_pair p) ts ≡ false
none_is p s [] leads h = refl
none_is p s (t ∷ ts) leads h = ap (λ b. b || list_any (is_pair p) ts) (by (is_pair p t) refl) ∙ none_is p s ts leads h.1
  where
    by : (b : Bool) → is_pair p t ≡ b → is_pair p t ≡ false
    by true is = absurd (true≢false (sym (holder_covers p s.base s.address t leads is) ∙ h.0))
    by false is = is

or_none : (b : Bool) → (b || false) ≡ b
or_none true = refl
or_none false = refl

-- so the line that holds the address is the pair's
holder_is : (p : Address) (front : List Standing) (s : Standing) (back : List Standing) → holds p s ≡ true
    → EachIs (λ t. covers s t ≡ false) front × EachIs (λ t. covers s t ≡ false) back → list_any (is_pair p) (front ++ s ∷ back) ≡ true → is_pair p s ≡ true
holder_is p front s back leads apart there =
    let none_back : (is_pair p s || list_any (is_pair p) back) ≡ is_pair p s = ap (λ b. is_pair p s || b) (none_is p s back leads apart.1) ∙ or_none (is_pair p s) in
    sym none_back ∙ ap (λ b. b || (is_pair p s || list_any (is_pair p) back)) (sym (none_is p s front leads apart.0))
    ∙ sym (list_any-append (is_pair p) front (s ∷ back)) ∙ there

-- lines that stand elsewhere stay, and so does the table
apart_stay : (p q : Address) (stays : Bool) (xs : List Standing) → EachIs (λ t. is_below p t ≡ false) xs
    → (left_of_all p q stays xs ≡ xs) × (stays_behind p q stays xs ≡ stays)
apart_stay p q stays [] h = (refl, refl)
apart_stay p q stays (x ∷ xs) h =
    let past : stays_past p q stays x ≡ stays = ap (λ b. stays || (b && makes q x.base x.address)) h.0 ∙ or_none stays in
    let (more, same) = apart_stay p q stays xs h.1 in (
      ap₂ (λ b r. cond b (left_of_pair q (stays || not (makes q x.base x.address)) x) (x ∷ []) ++ r) h.0 (ap (λ b. left_of_all p q b xs) past ∙ more),
      ap (λ b. stays_behind p q b xs) past ∙ same,
    )

-- so one line alone is taken out
one_taken : (p q : Address) (stays : Bool) (front : List Standing) (s : Standing) (back : List Standing) → EachIs (λ t. is_below p t ≡ false) front
    → is_below p s ≡ true → EachIs (λ t. is_below p t ≡ false) back
    → left_of_all p q stays (front ++ s ∷ back) ≡ front ++ (left_of_pair q (stays || not (makes q s.base s.address)) s ++ back)
one_taken p q stays front s back ahead here after =
    let its = left_of_pair q (stays || not (makes q s.base s.address)) s in
    let (first, same) = apart_stay p q stays front ahead in
    out_append p q stays front (s ∷ back)
    ∙ ap₂ (λ xs b. xs ++ left_of_all p q b (s ∷ back)) first same
    ∙ ap₂ (λ b r. front ++ (cond b its (s ∷ []) ++ r)) here (apart_stay p q (stays_past p q stays s) back after).0

-- by the definition, too
others_stay : (p : Address) (stays : Bool) (xs : List Standing) → EachIs (λ t. is_pair p t ≡ false) xs → flat_map (removed_one p stays) xs ≡ xs
others_stay p stays [] h = refl
others_stay p stays (x ∷ xs) h = ap₂ (λ b r. cond b (left_of_pair (parent_of p) stays x) (x ∷ []) ++ r) h.0 (others_stay p stays xs h.1)

one_removed : (p : Address) (stays : Bool) (front : List Standing) (s : Standing) (back : List Standing) → EachIs (λ t. is_pair p t ≡ false) front
    → is_pair p s ≡ true → EachIs (λ t. is_pair p t ≡ false) back
    → flat_map (removed_one p stays) (front ++ s ∷ back) ≡ front ++ (left_of_pair (parent_of p) stays s ++ back)
one_removed p stays [] s back ahead here after = ap₂ (λ b r. cond b (left_of_pair (parent_of p) stays s) (s ∷ []) ++ r) here (others_stay p stays back after)
one_removed p stays (x ∷ front) s back ahead here after =
    ap₂ (λ b r. cond b (left_of_pair (parent_of p) stays x) (x ∷ []) ++ r) ahead.0 (one_removed p stays front s back ahead.1 here after)

-- the lines that are left, those of one slot changed
regrouped : (before front left back behind : List Standing) → before ++ ((front ++ (left ++ back)) ++ behind) ≡ (before ++ front) ++ (left ++ (back ++ behind))
regrouped before front left back behind = simp append_assoc

-- the line at the place is the pair's, and the lines around it stand elsewhere
record IsPlaced (p : Address) (read : Read) (slots : List Slot) (at : Position) (ss : List Standing) : Type 0 where
  slot : Slot
  line : Standing
  before : List Standing
  front : List Standing
  back : List Standing
  behind : List Standing
  there : slice_get slots at.slot ≡ Some slot
  placed : line_at read slots at ≡ Some line
  own : slot_standing read slot ≡ front ++ line ∷ back
  set_to : (new : Slot) → slots_standing read (set slots at.slot new) ≡ before ++ (slot_standing read new ++ behind)
  all : ss ≡ (before ++ front) ++ line ∷ (back ++ behind)
  pair : is_pair p line ≡ true
  ahead : EachIs (λ t. is_below p t ≡ false) (before ++ front)
  after : EachIs (λ t. is_below p t ≡ false) (back ++ behind)

is_placed : (p : Address) (read : Read) (slots : List Slot) (at : Position) (ss : List Standing) → IsSoughtAt sought.Holder p read slots at
    → slots_standing read slots ≡ ss → StandAlone ss → list_any (is_pair p) ss ≡ true → IsPlaced p read slots at ss
is_placed p read slots at ss found are alone there =
    let (slot, s, slot_is, placed, line_is, leads) = holder_at read slots at p found in
    let (before, behind, split, set_to) = slot_split read slots at.slot slot slot_is in
    let (front, back, own, new) = item_split (slot_standing read slot) at.index s line_is in
    let all = sym are ∙ split_within before front s back behind (slot_standing read slot) (slots_standing read slots) split own in
    let apart = around (before ++ front) s (back ++ behind) (pairs_of_all _ _ (subst StandAlone all alone)) in
    let pair = holder_is p (before ++ front) s (back ++ behind) leads apart (subst (λ xs. list_any (is_pair p) xs ≡ true) all there) in
    let elsewhere : (t : Standing) → covers s t ≡ false → is_below p t ≡ false = λ t h. sym (pair_covers p s.base s.address t pair) ∙ h in
    record {
      slot = slot;
      line = s;
      before = before;
      front = front;
      back = back;
      behind = behind;
      there = slot_is;
      placed = placed;
      own = own;
      set_to = set_to;
      all = all;
      pair = pair;
      ahead = each_weaker (λ t. covers s t ≡ false) (λ t. is_below p t ≡ false) elsewhere (before ++ front) apart.0;
      after = each_weaker (λ t. covers s t ≡ false) (λ t. is_below p t ≡ false) elsewhere (back ++ behind) apart.1;
    }

-- ---- whether the table right above it stays

-- a pair whose key is not dotted is one
undotted_pair : (p : Address) (base : Option ℕ) (own : Option Address) → is_undotted_at p base own ≡ true → is_value_at p base own ≡ true
undotted_pair p None own is = cc
undotted_pair p (Some n) own is = (and_parts (is_value_at p (Some n) own) (not (nat_lt n (length p - 1))) is).0

-- of lines that stand alone it is the one that is the pair's
undotted_here : (p : Address) (front : List Standing) (s : Standing) (back : List Standing) → EachIs (λ t. is_below p t ≡ false) front
    → EachIs (λ t. is_below p t ≡ false) back → list_any (is_undotted_pair p) (front ++ s ∷ back) ≡ is_undotted_pair p s
undotted_here p front s back ahead after =
    list_any-append (is_undotted_pair p) front (s ∷ back)
    ∙ ap₂ (λ a b. a || (is_undotted_pair p s || b)) (none_there front ahead) (none_there back after) ∙ or_none (is_undotted_pair p s)
  where
    not_here : (t : Standing) → is_below p t ≡ false → (b : Bool) → is_undotted_pair p t ≡ b → is_undotted_pair p t ≡ false
    not_here t apart true is = absurd (true≢false (sym (pair_below p t (undotted_pair p t.base t.address is)) ∙ apart))
    not_here t apart false is = is

    none_there : (ts : List Standing) → EachIs (λ t. is_below p t ≡ false) ts → list_any (is_undotted_pair p) ts ≡ false
    none_there [] h = refl
    none_there (t ∷ ts) h = ap₂ (λ a b. a || b) (not_here t h.0 (is_undotted_pair p t) refl) (none_there ts h.1)

pub parent_is : (q : Address) (last : Step) → parent_of (q ++ last ∷ []) ≡ q
parent_is q last =
    let long : length (q ++ last ∷ []) ≡ length q + 1 = length-append q (last ∷ []) in
    let less : length (q ++ last ∷ []) - 1 ≡ length q = omega (arith, long) in
    ap (λ n. take n (q ++ last ∷ [])) less ∙ take-append-le (length q) q (last ∷ []) (omega arith) ∙ take_all (length q) q (omega arith)

is_over : (q : Address) (last : Step) → is_above q (q ++ last ∷ []) ≡ true
is_over [] last = refl
is_over (s ∷ q) last = ap (λ b. b && is_above q (q ++ last ∷ [])) (same_step-self s) ∙ is_over q last

-- what stays of the line, by what the code has asked
same_left : (n : ℕ) (q : Address) (last : Step) (s : Standing) (stays made some : Bool) → s.base ≡ Some n → s.address ≡ Some (q ++ last ∷ [])
    → stays ≡ (not (nat_lt n (length q)) || some) → made ≡ makes q s.base s.address
    → (stays || not made) ≡ (is_undotted_pair (q ++ last ∷ []) s || some)
same_left n q last s stays made some base own is made_is =
    let p = q ++ last ∷ [] in
    let long : length p ≡ length q + 1 = length-append q (last ∷ []) in
    let less : length p - 1 ≡ length q = omega (arith, long) in
    let dotted = nat_lt n (length q) in
    let makes_it : made ≡ dotted =
    made_is ∙ ap₂ (makes q) base own ∙ ap (λ b. (dotted && b) || false) (is_over q last) ∙ or_none (dotted && true) ∙ and_true dotted in
    let undotted : is_undotted_pair p s ≡ not dotted =
    ap₂ (is_undotted_at p) base own ∙ ap₂ (λ b m. b && not (nat_lt n m)) ((same_address-decides p p).1 refl) less in
    ap₂ (λ a m. a || not m) is makes_it ∙ by dotted some ∙ ap (λ b. b || some) (sym undotted)
  where
    and_true : (b : Bool) → (b && true) ≡ b
    and_true true = refl
    and_true false = refl

    by : (d m : Bool) → ((not d || m) || not d) ≡ (not d || m)
    by true m = or_none m
    by false m = refl

-- what is left of the slot of that line
placed_goes : (p q : Address) (last : Step) (stays : Bool) (read : Read) (old now : List Slot) (at : Position) (ss : List Standing) (t : Slot)
    (h : IsPlaced p read old at ss) → p ≡ q ++ last ∷ [] → slots_standing read old ≡ ss → TellsStays p q read old at stays → now ≡ set old at.slot t
    → slot_standing read t ≡ left_of_all p q stays (slot_standing read h.slot) → slots_standing read now ≡ remove_standing p ss
placed_goes p q last stays read old now at ss t h is are tells put left =
    let no_pairs : (xs : List Standing) → EachIs (λ x. is_below p x ≡ false) xs → EachIs (λ x. is_pair p x ≡ false) xs =
    λ xs. each_weaker (λ x. is_below p x ≡ false) (λ x. is_pair p x ≡ false) (λ x k. no_pair p x.base x.address k) xs in
    let its = left_of_pair q (stays || not (makes q h.line.base h.line.address)) h.line in
    let slot_left = left ∙ ap (left_of_all p q stays) h.own
    ∙ one_taken p q stays h.front h.line h.back (each_back _ h.before h.front h.ahead) (pair_below p h.line h.pair) (each_front _ h.back h.behind h.after) in
    let (n, base) = pair_base p h.line.base h.line.address h.pair in
    let own = pair_address p h.line.base h.line.address h.pair ∙ ap Some is in
    let told = tells ∙ ap₂ (λ o xs. not (nat_lt (base_of o) (length q)) || list_any (makes_beside q p) xs) h.placed are
    ∙ ap (λ b. not (nat_lt (steps_or_zero b) (length q)) || list_any (makes_beside q p) ss) base in
    let some = same_left n q last h.line stays _ (list_any (makes_beside q p) ss) base own told refl in
    let undotted = undotted_here p (h.before ++ h.front) h.line (h.back ++ h.behind) h.ahead h.after in
    let same : (stays || not (makes q h.line.base h.line.address)) ≡ leaves_parent p ss =
    some
    ∙ ap₂ (λ a b. a || list_any (makes_beside b p) ss)
    (ap (λ x. is_undotted_pair x h.line) (sym is) ∙ sym undotted ∙ ap (list_any (is_undotted_pair p)) (sym h.all)) (sym (ap parent_of is ∙ parent_is q last)) in
    ap (slots_standing read) put ∙ h.set_to t ∙ ap (λ r. h.before ++ (r ++ h.behind)) slot_left
    ∙ regrouped h.before h.front its h.back h.behind
    ∙ ap (λ r. (h.before ++ h.front) ++ (r ++ (h.back ++ h.behind))) (ap₂ (λ a b. left_of_pair a b h.line) (sym (ap parent_of is ∙ parent_is q last)) same)
    ∙ sym (one_removed p (leaves_parent p ss) (h.before ++ h.front) h.line (h.back ++ h.behind) (no_pairs _ h.ahead) h.pair (no_pairs _ h.after))
    ∙ ap (flat_map (removed_one p (leaves_parent p ss))) (sym h.all)
  where
    pair_base : (a : Address) (base : Option ℕ) (own : Option Address) → is_value_at a base own ≡ true → (n : ℕ) × (base ≡ Some n)
    pair_base a None own e = cc
    pair_base a (Some n) own e = (n, refl)

pub holder_goes : (p : Address) (read : Read) (old now : Tree) (at : Position) → KeepsRest old now → TakesOutLine p read at old now
    → IsSoughtAt sought.Holder p read old.slots.items at → RemovesLines p read old now
holder_goes p read old now at rest takes found not_root ss stands ordered there =
    let text = text_of old.texts.source in
    let h = is_placed p read old.slots.items at ss found stands.are ordered.alone there in
    let R = LeavesSlot old.texts read p takes.parent takes.stays in
    let (t, put, left) = one_turned R at.slot old.slots.items now.slots.items h.slot h.there takes.leaves in
    let (kept, is) = left (each_get (SlotKept text read) old.slots.items at.slot h.slot stands.kept h.there) in
    let (last, parted) = parent takes.is_parent in (
      rest,
      record {
        kept = subst (EachIs (SlotKept text read)) (sym put) (each_set (SlotKept text read) old.slots.items at.slot t stands.kept kept);
        are = placed_goes p takes.parent last takes.stays read old.slots.items now.slots.items at ss t h parted stands.are takes.tells put is;
      },
    )
  where
    parent : IsParent p takes.parent → (last : Step) × (p ≡ takes.parent ++ last ∷ [])
    parent (inl none) = absurd (not_root none)
    parent (inr found_parent) = found_parent

-- the line at the place does not hold it in its value
pub never_inside : (p : Address) (read : Read) (old now : Tree) (at : Position) (steps : ℕ) → steps ≡ steps_of (line_at read old.slots.items at) → steps < length p
    → IsSoughtAt sought.Holder p read old.slots.items at → RemovesLines p read old now
never_inside p read old now at steps counts low found not_root ss stands ordered there =
    let h = is_placed p read old.slots.items at ss found stands.are ordered.alone there in
    let same : steps ≡ length p = counts ∙ ap steps_of h.placed ∙ ap steps_to (pair_address p h.line.base h.line.address h.pair) in
    absurd (omega arith)

-- a line holds it
any_holds : (p : Address) (ss : List Standing) → list_any (is_pair p) ss ≡ true → list_any (holds p) ss ≡ false → ⊥
any_holds p [] there none = cc
any_holds p (s ∷ ss) there none = by (is_pair p s) refl there none (any_holds p ss)
  where
    later : (b : Bool) → (b || list_any (holds p) ss) ≡ false → list_any (holds p) ss ≡ false
    later true e = absurd (true≢false e)
    later false e = e

    by : (b : Bool) → is_pair p s ≡ b → (b || list_any (is_pair p) ss) ≡ true → (holds p s || list_any (holds p) ss) ≡ false
        → (list_any (is_pair p) ss ≡ true → list_any (holds p) ss ≡ false → ⊥) → ⊥
    by true is h k rest = true≢false (ap (λ b. b || list_any (holds p) ss) (sym (pair_holds p s.base s.address is)) ∙ k)
    by false is h k rest = rest h (later (holds p s) k)

-- where no line holds it, no such edit is made
pub none_goes : (p : Address) (read : Read) (old now : Tree) → HoldsNone p read.units old.slots.items → RemovesLines p read old now
none_goes p read old now none not_root ss stands ordered there =
    let all = none not_root read.lines (subst StandAlone (sym stands.are) ordered.alone) in
    absurd (any_holds p ss there (subst (λ xs. list_any (holds p) xs ≡ false) stands.are all))

-- ---- what is held in a value

-- one of which the test is true, and those around it
pub any_split : {A : Type 0} (test : A → Bool) (xs : List A) → list_any test xs ≡ true
    → (front : List A) × (x : A) × (back : List A) × (xs ≡ front ++ x ∷ back) × (test x ≡ true)
any_split test [] there = absurd (true≢false (sym there))
any_split {A = A} test (x ∷ xs) there = by (any_split test xs) (test x) refl there
  where
    by : (list_any test xs ≡ true → (front : List A) × (y : A) × (back : List A) × (xs ≡ front ++ y ∷ back) × (test y ≡ true)) → (b : Bool) → test x ≡ b
        → (b || list_any test xs) ≡ true → (front : List A) × (y : A) × (back : List A) × (x ∷ xs ≡ front ++ y ∷ back) × (test y ≡ true)
    by behind true is h = ([], x, xs, refl, is)
    by behind false is h = let (front, y, back, split, holds_y) = behind h in (x ∷ front, y, back, ap (λ r. x ∷ r) split, holds_y)

pub held_is_no_line : HeldIsNoLine
held_is_no_line p ss ordered held there =
    let (front, s, back, split, here) = any_split (has_container_at p) ss held in
    let (leads, few) = steps_left p s here in
    let apart = around front s back (pairs_of_all _ _ (subst StandAlone split ordered.alone)) in
    let pair = holder_is p front s back leads apart (subst (λ xs. list_any (is_pair p) xs ≡ true) split there) in
    let same : steps_to s.address ≡ length p = ap steps_to (pair_address p s.base s.address pair) in
    absurd (omega (arith, few, same))
