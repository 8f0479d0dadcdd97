-- The laws of what is protected.
use Rattle.std.proofs.Common.{◌≡◌, ◌⊎◌, inl, inr, ℕ, ◌+◌, ◌<◌, ◌≤◌, ◌^◌, List, [], ◌∷◌, ◌++◌, length, Option, Some, None, IsSome, is_some, true≢false, refl, sym, ap, subst, ◌∙◌, arith, length-append}
use Rattle.std.proofs.lemmas.List.{append-nil}
use Rattle.std.proofs.lemmas.Option.{same_Some, none-some}
use Rattle.std.specs.Prelude.{option_and_then, IfSome, slice_get}
use Rattle.toml_tree.specs.Spells.{EachIs, Spells}
use Rattle.toml_tree.specs.Tree.{Doc}
use Rattle.toml_names.specs.model.Addresses.{Address}
use Rattle.toml_names.specs.model.Indices.{IsLow}
use Rattle.toml_edits.specs.Carry.{carry}
use Rattle.toml_edits.specs.Edits.{Change}
use Rattle.toml_edits.specs.Lists.{carried}
use Rattle.toml_units.specs.declared.unit.UnitKind.{UnitKind}
use Rattle.toml_units.specs.declared.unit.UnitKind.TheVariants as kinds
use Rattle.toml_units.specs.Blocks.{IsUnder}
use Rattle.toml_units.specs.OfLines.{IsOfLine}
use Rattle.toml_units.specs.Places.{line_of}
use Rattle.toml_units.specs.Units.{TextUnit, units}
use Rattle.toml_units.proofs.Proved.{units_nest, units_have_addresses, units_are_sized, units_are_of_lines, holders_are_no_comments}
use Rattle.toml_checker.specs.GoneAndChanged.{Removes, SetsAbove, LineIsGone, IsGone}
use Rattle.toml_checker.specs.Laws.{GoesWith, InnerAreProtected, ProtectedAreCarried}
use Rattle.toml_checker.specs.Protected.{Stays, standing}
use Rattle.toml_checker.proofs.Each.{each_get}
use Rattle.toml_checker.proofs.InBlocks.{InBlock, in_block}
use Rattle.toml_checker.proofs.LowUnits.{units_are_low}
use Rattle.toml_checker.proofs.Sent.{Arrives, sent}
use Rattle.toml_checker.proofs.Within.{st, sets_above, LiesBelow, Holds, Together, together}

-- ---- the line of a unit

abbrev pub HasLine : List TextUnit → ℕ → TextUnit → Type 0
HasLine us i w = ((w.kind ≡ kinds.Line) × (line_of us i ≡ Some w)) ⊎ ((l : TextUnit) × (line_of us i ≡ Some l) × IsOfLine l w)

-- no index of a unit comes near the end of the numbers that an index may be, and the edits are so few that none does
record HasRoom (us : List TextUnit) (cs : List Change) : Type 0 where
  indices : EachIs (λ (u : TextUnit). IfSome u.address (IsLow (2 ^ 63))) us
  edits : length cs < 2 ^ 63

no_base : {P : Type 0} (o : Option ℕ) → o ≡ None → IsSome o → P
no_base o none some = absurd (true≢false (sym some ∙ ap is_some none))

some_base : (o : Option ℕ) → IsSome o → (n : ℕ) × (o ≡ Some n)
some_base None h = no_base None refl h
some_base (Some n) h = (n, refl)

-- ---- what has no address is in a blank line

blank_stays : (cs : List Change) (k : UnitKind) (base lb : Option ℕ) → k ≡ kinds.TailComment → Stays cs (record { kind = k; address = None; base = base; line = None; line_base = lb })
blank_stays [] k base lb is = tt
blank_stays (c ∷ cs) k base lb is =
    subst (λ j. Stays (c ∷ cs) (record { kind = j; address = None; base = base; line = None; line_base = lb })) (sym is) ((λ w. w), (λ w. w), blank_stays cs kinds.TailComment base lb refl)

tail_stays : (cs : List Change) (w u : TextUnit) (o : Option TextUnit) → w.kind ≡ kinds.TailComment → w.address ≡ None → o ≡ Some u → u.address ≡ None → Stays cs (standing w o)
tail_stays cs w u o tail none is blank =
    subst (λ p. Stays cs (standing w p)) (sym is)
    (subst (λ a. Stays cs (record { kind = w.kind; address = w.address; base = w.base; line = a; line_base = u.base })) (sym blank)
    (subst (λ a. Stays cs (record { kind = w.kind; address = a; base = w.base; line = None; line_base = u.base })) (sym none) (blank_stays cs w.kind w.base u.base tail)))

-- ---- what lies in a unit

lies_below : (k : UnitKind) (a rest : Address) (base : Option ℕ) → ¬ (k ≡ kinds.Line) → (k ≡ kinds.Pair → (n : ℕ) × (base ≡ Some n)) → IfSome base (λ n. length a ≤ n) → LiesBelow k a rest base
lies_below kinds.Line a rest base n p h = n refl
lies_below kinds.TailComment a rest base n p h = tt
lies_below kinds.InnerComment a rest base n p h = tt
lies_below kinds.Element a rest base n p h = tt
lies_below kinds.Pair a rest base n p h = let m = p refl in (m.0, m.1, subst (λ o. IfSome o (λ k. length a ≤ k)) m.1 h)

no_rest : (a rest : Address) → Some (a ++ rest) ≡ Some a → rest ≡ []
no_rest a [] e = refl
no_rest a (s ∷ rest) e = absurd (omega (arith, ap length (same_Some (a ++ s ∷ rest) a e), length-append a (s ∷ rest)))

-- in a line at an address
line_holds : (u w : TextUnit) (a rest : Address) (b : Option ℕ) → u.base ≡ b → u.address ≡ Some a → w.address ≡ Some (a ++ rest) → IfSome w.base (λ n. length a ≤ n) → IsOfLine u w → Holds kinds.Line b a w.kind rest w.base a u.base
line_holds u w a rest None base at is low h = let t = h.only_tail base in (no_rest a rest (sym is ∙ (h.tail t).0 ∙ at), t)
line_holds u w a rest (Some n) base at is low h = lies_below w.kind a rest w.base h.inner (λ k. some_base w.base (h.pair k)) low

-- in a pair at an address
pair_holds : (w : TextUnit) (a rest l : Address) (b lb : Option ℕ) → (n : ℕ) × (b ≡ Some n) → LiesBelow w.kind a rest w.base → Holds kinds.Pair b a w.kind rest w.base l lb
pair_holds w a rest l None lb h k = absurd (none-some h.0 h.1)
pair_holds w a rest l (Some n) lb h k = k

-- the standing of a unit with an address in a line with one
at_st : (cs : List Change) (k : UnitKind) (u : TextUnit) (o : Option TextUnit) (l : TextUnit) (a m : Address) → u.kind ≡ k → u.address ≡ Some a → o ≡ Some l → l.address ≡ Some m → Stays cs (standing u o) → Stays cs (st k a u.base m l.base)
at_st cs k u o l a m kind at is of h =
    subst (λ j. Stays cs (st j a u.base m l.base)) kind
    (subst (λ x. Stays cs (record { kind = u.kind; address = Some a; base = u.base; line = x; line_base = l.base })) of
    (subst (λ x. Stays cs (record { kind = u.kind; address = x; base = u.base; line = l.address; line_base = l.base })) at
    (subst (λ p. Stays cs (standing u p)) is h)))

from_st : (cs : List Change) (u : TextUnit) (o : Option TextUnit) (l : TextUnit) (a m : Address) → u.address ≡ Some a → o ≡ Some l → l.address ≡ Some m → Stays cs (st u.kind a u.base m l.base) → Stays cs (standing u o)
from_st cs u o l a m at is of h =
    subst (λ p. Stays cs (standing u p)) (sym is)
    (subst (λ x. Stays cs (record { kind = u.kind; address = x; base = u.base; line = l.address; line_base = l.base })) (sym at)
    (subst (λ x. Stays cs (record { kind = u.kind; address = Some a; base = u.base; line = x; line_base = l.base })) (sym of) h))

-- the line, of the outer unit and so of the inner one, is at an address
pub record Placed (cs : List Change) (us : List TextUnit) (i j : ℕ) (u w : TextUnit) (a rest : Address) : Type 0 where
  pub line : TextUnit
  pub at : Address
  pub rest_of : Address
  pub line_is : line_of us i ≡ Some line
  pub line_at : line.address ≡ Some at
  pub above : a ≡ at ++ rest_of
  pub kind : UnitKind
  pub kind_is : u.kind ≡ kind
  pub holds : Holds kind u.base a w.kind rest w.base at line.base

line_under : (l u : TextUnit) (a : Address) (o : Option Address) → l.address ≡ o → IsUnder o u → u.address ≡ Some a → (m : Address) × (l.address ≡ Some m) × (q : Address) × (a ≡ m ++ q)
line_under l u a None is h at = absurd (none-some a (sym h.0 ∙ at))
line_under l u a (Some m) is h at = (m, is, h.rest, same_Some a (m ++ h.rest) (sym at ∙ h.address))

placed : (cs : List Change) (us : List TextUnit) (i j : ℕ) (u w : TextUnit) (a rest : Address) (b : InBlock u w) → u.address ≡ Some a → w.address ≡ Some (a ++ rest) → IfSome w.base (λ n. length a ≤ n)
    → HasLine us i u → HasLine us j w → line_of us i ≡ line_of us j → (u.kind ≡ kinds.Line) ⊎ (u.kind ≡ kinds.Element) ⊎ (u.kind ≡ kinds.Pair) → Placed cs us i j u w a rest
placed cs us i j u w a rest b at is low hu (inl hw) same k = absurd (b.no_line hw.0)
placed cs us i j u w a rest b at is low (inr hu) (inr hw) same (inl k) = absurd (hu.2.inner k)
placed cs us i j u w a rest b at is low (inl hu) (inr hw) same (inl k) =
    let e : hw.0 ≡ u = same_Some hw.0 u (sym hw.1 ∙ sym same ∙ hu.1) in
    record { line = u; at = a; rest_of = []; line_is = hu.1; line_at = at; above = sym (append-nil a); kind = kinds.Line; kind_is = k; holds = line_holds u w a rest u.base refl at is low (subst (λ (l : TextUnit). IsOfLine l w) e hw.2) }
placed cs us i j u w a rest b at is low (inl hu) (inr hw) same (inr (inl k)) = absurd (let e : kinds.Element ≡ kinds.Line = sym k ∙ hu.0 in cc)
placed cs us i j u w a rest b at is low (inl hu) (inr hw) same (inr (inr k)) = absurd (let e : kinds.Pair ≡ kinds.Line = sym k ∙ hu.0 in cc)
placed cs us i j u w a rest b at is low (inr hu) (inr hw) same (inr (inl k)) =
    let l = line_under hu.0 u a hu.0.address refl hu.2.under at in
    record { line = hu.0; at = l.0; rest_of = l.2; line_is = hu.1; line_at = l.1; above = l.3; kind = kinds.Element; kind_is = k; holds = lies_below w.kind a rest w.base hw.2.inner (λ k. some_base w.base (hw.2.pair k)) low }
placed cs us i j u w a rest b at is low (inr hu) (inr hw) same (inr (inr k)) =
    let l = line_under hu.0 u a hu.0.address refl hu.2.under at in
    record { line = hu.0; at = l.0; rest_of = l.2; line_is = hu.1; line_at = l.1; above = l.3; kind = kinds.Pair; kind_is = k; holds = pair_holds w a rest l.0 u.base hu.0.base (some_base u.base (hu.2.pair k)) (lies_below w.kind a rest w.base hw.2.inner (λ k. some_base w.base (hw.2.pair k)) low) }

low_at : (us : List TextUnit) (i : ℕ) (u : TextUnit) (a : Address) → EachIs (λ (x : TextUnit). IfSome x.address (IsLow (2 ^ 63))) us → slice_get us i ≡ Some u → u.address ≡ Some a → IsLow (2 ^ 63) a
low_at us i u a h is at = subst (λ o. IfSome o (IsLow (2 ^ 63))) at (each_get (λ (x : TextUnit). IfSome x.address (IsLow (2 ^ 63))) us i u h is)

room_for : (m : ℕ) → m < 2 ^ 63 → 2 ^ 63 + m < 2 ^ 64
room_for m h = omega arith

at_address : (d : Doc) (text : List ℕ) → Spells d text → (cs : List Change) → HasRoom (units d.lines) cs → (i j : ℕ) (u w : TextUnit) → slice_get (units d.lines) i ≡ Some u → slice_get (units d.lines) j ≡ Some w → InBlock u w
    → HasLine (units d.lines) i u → HasLine (units d.lines) j w → line_of (units d.lines) i ≡ line_of (units d.lines) j → (u.kind ≡ kinds.Line) ⊎ (u.kind ≡ kinds.Element) ⊎ (u.kind ≡ kinds.Pair)
    → Stays cs (standing u (line_of (units d.lines) i)) → (o : Option Address) → u.address ≡ o → IsUnder o w → Stays cs (standing w (line_of (units d.lines) j)) × GoesWith cs o w.address
at_address d text h cs room i j u w is are b hu hw same k stays (Some a) at under =
    let p = placed cs (units d.lines) i j u w a under.rest b at under.address under.base hu hw same k in
    let t : Together cs w.kind a under.rest w.base p.at p.line.base =
    together cs (2 ^ 63) (room_for (length cs) room.edits) p.kind u.base w.kind a under.rest w.base p.at p.rest_of p.line.base p.above (low_at (units d.lines) i u a room.indices is at) p.holds
    (at_st cs p.kind u (line_of (units d.lines) i) p.line a p.at p.kind_is at p.line_is p.line_at stays) in
    (from_st cs w (line_of (units d.lines) j) p.line (a ++ under.rest) p.at under.address (sym same ∙ p.line_is) p.line_at t.0, (under.rest, under.address, t.1))
at_address d text h cs room i j u w is are b hu hw same k stays None at under = by hu (each_get (λ (x : TextUnit). x.address ≡ None → (x.kind ≡ kinds.Line) ⊎ (x.kind ≡ kinds.TailComment)) (units d.lines) j w (units_have_addresses d text h) are under.0)
    (each_get (λ (x : TextUnit). x.address ≡ None → (x.kind ≡ kinds.Line) ⊎ (x.kind ≡ kinds.TailComment)) (units d.lines) i u (units_have_addresses d text h) is at)
  where
    by : HasLine (units d.lines) i u → (w.kind ≡ kinds.Line) ⊎ (w.kind ≡ kinds.TailComment) → (u.kind ≡ kinds.Line) ⊎ (u.kind ≡ kinds.TailComment) → Stays cs (standing w (line_of (units d.lines) j)) × (w.address ≡ None)
    by l (inl line) v = absurd (b.no_line line)
    by (inl l) (inr tail) v = (tail_stays cs w u (line_of (units d.lines) j) tail under.0 (sym same ∙ l.1) at, under.0)
    by (inr l) (inr tail) (inl line) = absurd (l.2.inner line)
    by (inr l) (inr tail) (inr other) = absurd (no_tail k)
      where
        no_tail : (u.kind ≡ kinds.Line) ⊎ (u.kind ≡ kinds.Element) ⊎ (u.kind ≡ kinds.Pair) → ⊥
        no_tail (inl e) = let f : kinds.TailComment ≡ kinds.Line = sym other ∙ e in cc
        no_tail (inr (inl e)) = let f : kinds.TailComment ≡ kinds.Element = sym other ∙ e in cc
        no_tail (inr (inr e)) = let f : kinds.TailComment ≡ kinds.Pair = sym other ∙ e in cc

pub inner_are_protected : InnerAreProtected
inner_are_protected profile text doc cs few i j l p =
    let d = doc.1 in
    let h = doc.2 in
    let us = units doc.1.lines in
    let room : HasRoom us cs = record { indices = units_are_low profile text doc; edits = few } in
    let u = l.outer in
    let w = l.inner in
    let b = in_block us (units_nest d text h).0 i j u w l.later l.outer_is l.inner_is l.lies in
    let same : p.0 ≡ u = same_Some p.0 u (sym p.1 ∙ l.outer_is) in
    let stays : Stays cs (standing u (line_of us i)) = subst (λ (x : TextUnit). Stays cs (standing x (line_of us i))) same p.2 in
    let r = at_address d text h cs room i j u w l.outer_is l.inner_is b (units_are_of_lines d.lines i u l.outer_is) (units_are_of_lines d.lines j w l.inner_is) ((units_are_sized d text h).2 i j l) (holders_are_no_comments d text h i j l) stays u.address refl b.under in
    ((w, l.inner_is, r.0), r.1)

-- ---- the first law

-- an edit that makes it neither gone nor changed removes nothing at its address or above it, and sets nothing above it
reached : (c : Change) (n : ℕ) → n < 2 ^ 64 → (k : UnitKind) (a : Address) (b : Option ℕ) (p : Option Address) (lb : Option ℕ) → IsLow n a → (k ≡ kinds.TailComment → p ≡ Some a)
    → ¬ IsGone k c (record { kind = k; address = Some a; base = b; line = p; line_base = lb }) → Arrives n (carry c a)
reached c n room k a b p lb low tail gone = by (sent c n room a low)
  where
    line : (o : Option ℕ) → ¬ LineIsGone c (Some a) o → Removes c a ⊎ SetsAbove c a → ⊥
    line None m (inl w) = m (inl w)
    line None m (inr w) = m (inr (sets_above c a w))
    line (Some x) m (inl w) = m (inl w)
    line (Some x) m (inr w) = m (inr w)

    part : (k : UnitKind) → (k ≡ kinds.TailComment → p ≡ Some a) → ¬ IsGone k c (record { kind = k; address = Some a; base = b; line = p; line_base = lb }) → Removes c a ⊎ SetsAbove c a → ⊥
    part kinds.Line t m w = line b m w
    part kinds.TailComment t m w = line lb (subst (λ o. ¬ LineIsGone c o lb) (t refl) m) w
    part kinds.InnerComment t m (inl w) = m (inr (inl w))
    part kinds.InnerComment t m (inr w) = m (inr (inr (sets_above c a w)))
    part kinds.Element t m (inl w) = m (inl w)
    part kinds.Element t m (inr w) = m (inr (sets_above c a w))
    part kinds.Pair t m w = line b m w

    by : Arrives n (carry c a) ⊎ (Removes c a ⊎ SetsAbove c a) → Arrives n (carry c a)
    by (inl w) = w
    by (inr w) = absurd (part k tail gone w)

reaches : (cs : List Change) (n : ℕ) → n + length cs < 2 ^ 64 → (k : UnitKind) (a : Address) (b : Option ℕ) (p : Option Address) (lb : Option ℕ) → IsLow n a → (k ≡ kinds.TailComment → p ≡ Some a)
    → Stays cs (record { kind = k; address = Some a; base = b; line = p; line_base = lb }) → (x : Address) × (carried cs a ≡ Some x)
reaches [] n room k a b p lb low tail h = (a, refl)
reaches (c ∷ cs) n room k a b p lb low tail h =
    let to = reached c n (omega arith) k a b p lb low tail h.0 in
    let next = reaches cs (n + 1) (omega arith) k to.0 b (option_and_then (carry c) p) lb to.2 (λ e. ap (option_and_then (carry c)) (tail e) ∙ to.1)
    (subst (λ x. Stays cs (record { kind = k; address = x; base = b; line = option_and_then (carry c) p; line_base = lb })) to.1 h.2) in
    (next.0, ap (option_and_then (carried cs)) to.1 ∙ next.1)

line_address : (us : List TextUnit) (i : ℕ) (u : TextUnit) (a : Address) → HasLine us i u → u.address ≡ Some a → u.kind ≡ kinds.TailComment → option_and_then (λ (l : TextUnit). l.address) (line_of us i) ≡ Some a
line_address us i u a (inl h) at tail = ap (option_and_then (λ (l : TextUnit). l.address)) h.1 ∙ at
line_address us i u a (inr h) at tail = ap (option_and_then (λ (l : TextUnit). l.address)) h.1 ∙ sym (h.2.tail tail).0 ∙ at

carried_at : (d : Doc) (cs : List Change) → HasRoom (units d.lines) cs → (i : ℕ) (u : TextUnit) → slice_get (units d.lines) i ≡ Some u → Stays cs (standing u (line_of (units d.lines) i)) → (o : Option Address) → u.address ≡ o
    → IfSome o (λ a. (b : Address) × (carried cs a ≡ Some b))
carried_at d cs room i u is stays None at = tt
carried_at d cs room i u is stays (Some a) at =
    reaches cs (2 ^ 63) (room_for (length cs) room.edits) u.kind a u.base (option_and_then (λ (l : TextUnit). l.address) (line_of (units d.lines) i)) (option_and_then (λ (l : TextUnit). l.base) (line_of (units d.lines) i))
    (low_at (units d.lines) i u a room.indices is at) (line_address (units d.lines) i u a (units_are_of_lines d.lines i u is) at)
    (subst (λ x. Stays cs (record { kind = u.kind; address = x; base = u.base; line = option_and_then (λ (l : TextUnit). l.address) (line_of (units d.lines) i); line_base = option_and_then (λ (l : TextUnit). l.base) (line_of (units d.lines) i) })) at stays)

pub protected_are_carried : ProtectedAreCarried
protected_are_carried profile text doc cs few i p = carried_at doc.1 cs (record { indices = units_are_low profile text doc; edits = few }) i p.0 p.1 p.2 p.0.address refl
