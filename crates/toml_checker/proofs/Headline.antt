-- From pairs that are certified to a partner for each protected unit.
use Rattle.std.proofs.Common.{◌≡◌, ◌⊎◌, inl, inr, ℕ, suc, ◌+◌, ◌<◌, ◌≤◌, ◌^◌, Bool, true, List, [], ◌∷◌, ◌++◌, length, Option, Some, None, refl, sym, ap, subst, ◌∙◌, arith}
use Rattle.std.proofs.lemmas.Option.{same_Some}
use Rattle.std.specs.Prelude.{option_map, IfSome, IsSome, slice_get, ◌↔◌}
use Rattle.toml_text.specs.Limit.{IsText}
use Rattle.toml_tree.specs.declared.profile.Profile.{Profile}
use Rattle.toml_tree.specs.Profiles.{IsOfProfile}
use Rattle.toml_tree.specs.Spells.{EachIs, Spells}
use Rattle.toml_tree.specs.Tree.{Doc}
use Rattle.toml_names.specs.model.Addresses.{Address}
use Rattle.toml_names.specs.model.Data.{Kinds, IsDataOf}
use Rattle.toml_names.specs.mentions.Mentions.{named}
use Rattle.toml_names.specs.reader.Names.{AreGood}
use Rattle.toml_names.specs.mentions.Rules.{KeepsRules}
use Rattle.toml_edits.specs.Edits.{Change}
use Rattle.toml_edits.specs.Lists.{carried, Lead}
use Rattle.toml_units.specs.declared.unit.UnitKind.{UnitKind}
use Rattle.toml_units.specs.declared.unit.UnitKind.TheVariants as kinds
use Rattle.toml_units.specs.Alike.{unit_in}
use Rattle.toml_units.specs.Apart.{AreComments}
use Rattle.toml_units.specs.Places.{LiesInside, size}
use Rattle.toml_units.specs.Units.{TextUnit, units}
use Rattle.toml_units.proofs.Proved.{units_are_apart, units_nest, units_are_named, units_are_sized, units_are_twins}
use Rattle.toml_checker.specs.CarriedTo.{IsCarriedTo}
use Rattle.toml_checker.specs.Kept.{AllKept}
use Rattle.toml_checker.specs.Laws.{GoesWith}
use Rattle.toml_checker.specs.Pairs.{StandsAs, RiseFrom, Rise, AllFit, IsFirst}
use Rattle.toml_checker.specs.Protected.{Stays, standing, IsProtected}
use Rattle.toml_checker.proofs.Between.{member_at, before_at, two_at}
use Rattle.toml_checker.proofs.Each.{each_get}
use Rattle.toml_checker.proofs.InBlocks.{in_block as block_at}
use Rattle.toml_checker.proofs.ProtectedUnits.{inner_are_protected}

-- what is certified, as far as partners go
pub record Given (cs : List Change) (d e : Doc) (ps : List (ℕ × ℕ)) (flags : ℕ → Bool) : Type 0 where
  pub profile : Profile
  pub text : List ℕ
  pub other : List ℕ
  pub spells : Spells d text
  pub spelled : Spells e other
  pub within : IsText text
  pub good : AreGood d.lines
  pub of_profile : IsOfProfile profile d
  pub old : Kinds
  pub new : Kinds
  pub old_is : IsDataOf (named d.lines) old
  pub lead : Lead profile cs old new
  pub rise : Rise ps
  pub fit : AllFit cs d e ps
  pub kept : AllKept cs d ps
  pub few : length cs < 2 ^ 63
  pub flags_are : (i : ℕ) → (flags i ≡ true) ↔ IsProtected cs (units d.lines) i

-- ---- pairs

abbrev pub IsPair : ℕ × ℕ → List (ℕ × ℕ) → Type 0
IsPair p [] = ⊥
IsPair p (q ∷ qs) = (p ≡ q) ⊎ IsPair p qs

pub pair_is : (P : ℕ × ℕ → Type 0) (ps : List (ℕ × ℕ)) (p : ℕ × ℕ) → EachIs P ps → IsPair p ps → P p
pair_is P [] p h m = absurd m
pair_is P (q ∷ ps) p h (inl e) = subst P (sym e) h.0
pair_is P (q ∷ ps) p h (inr m) = pair_is P ps p h.1 m

pub first_pair : (ps : List (ℕ × ℕ)) (i : ℕ) → IsFirst ps i → (p : ℕ × ℕ) × IsPair p ps × (p.0 ≡ i)
first_pair [] i h = absurd h
first_pair (q ∷ ps) i (inl e) = (q, inl refl, e)
first_pair (q ∷ ps) i (inr h) = let r = first_pair ps i h in (r.0, inr r.1, r.2)

pub past_first : (i k : ℕ) (ps : List (ℕ × ℕ)) (p : ℕ × ℕ) → RiseFrom i k ps → IsPair p ps → (i < p.0) × (k < p.1)
past_first i k [] p r m = absurd m
past_first i k (q ∷ ps) p r (inl e) = (subst (λ (x : ℕ × ℕ). i < x.0) (sym e) r.0, subst (λ (x : ℕ × ℕ). k < x.1) (sym e) r.1)
past_first i k (q ∷ ps) p r (inr m) = let s = past_first q.0 q.1 ps p r.2 m in (omega (arith, r.0, s.0), omega (arith, r.1, s.1))

pub rise_from : (i k : ℕ) (ps : List (ℕ × ℕ)) → RiseFrom i k ps → Rise ps
rise_from i k [] r = tt
rise_from i k (p ∷ ps) r = r.2

-- the first numbers rise as the second ones
pub both_rise : (ps : List (ℕ × ℕ)) (p q : ℕ × ℕ) → Rise ps → IsPair p ps → IsPair q ps → p.0 < q.0 → p.1 < q.1
both_rise [] p q r m n lt = absurd m
both_rise (x ∷ ps) p q r (inr m) (inr n) lt = both_rise ps p q (rise_from x.0 x.1 ps r) m n lt
both_rise (x ∷ ps) p q r (inl e) (inr n) lt = subst (λ (y : ℕ × ℕ). y.1 < q.1) (sym e) (past_first x.0 x.1 ps q r n).1
both_rise (x ∷ ps) p q r (inr m) (inl f) lt = absurd (let a = (past_first x.0 x.1 ps p r m).0 in let b : p.0 < x.0 = subst (λ (y : ℕ × ℕ). p.0 < y.0) f lt in omega arith)
both_rise (x ∷ ps) p q r (inl e) (inl f) lt = absurd (let b : p.0 < x.0 = subst (λ (y : ℕ × ℕ). p.0 < y.0) f lt in let c : x.0 < x.0 = subst (λ (y : ℕ × ℕ). y.0 < x.0) e b in omega arith)

-- ---- what lies in a paired unit stands

cancel : (a r s : Address) → a ++ r ≡ a ++ s → r ≡ s
cancel [] r s e = e
cancel (t ∷ a) r s e = cancel a r s cc

goes : (cs : List Change) (r : Address) (o p : Option Address) → IsCarriedTo cs o p → GoesWith cs o (option_map (λ a. a ++ r) o) → IsCarriedTo cs (option_map (λ a. a ++ r) o) (option_map (λ a. a ++ r) p)
goes cs r None None h g = tt
goes cs r None (Some b) h g = h
goes cs r (Some a) None h g = h
goes cs r (Some a) (Some b) h g =
    let same : r ≡ g.0 = cancel a r g.0 (same_Some (a ++ r) (a ++ g.0) g.1) in
    ap (λ x. carried cs (a ++ x)) same ∙ g.2 ∙ ap (option_map (λ x. x ++ g.0)) h ∙ ap (λ x. Some (b ++ x)) (sym same)

pub inner_stands : (cs : List Change) (d e : Doc) (ps : List (ℕ × ℕ)) (flags : ℕ → Bool) → Given cs d e ps flags → (i k : ℕ) → StandsAs cs d e i k → IsProtected cs (units d.lines) i → (m : ℕ) → m < size (units d.lines) i → StandsAs cs d e (i + suc m) (k + suc m)
inner_stands cs d e ps flags g i k f p m low =
    let us = units d.lines in
    let t = (units_are_twins d e g.text g.other g.spells g.spelled i k f.first f.second f.first_is f.second_is f.kind f.text).1 m low in
    let l : LiesInside us i (i + suc m) = ((units_are_sized d g.text g.spells).0 i (i + suc m)).1 (omega arith, omega (arith, low)) in
    let u : l.outer ≡ f.first = same_Some l.outer f.first (sym l.outer_is ∙ f.first_is) in
    let w : l.inner ≡ unit_in f.first t.relative = same_Some l.inner (unit_in f.first t.relative) (sym l.inner_is ∙ t.first) in
    let law = (inner_are_protected g.profile g.text (g.within, d, g.spells, g.good, g.of_profile) cs g.few i (i + suc m) l p).1 in
    let b = block_at us (units_nest d g.text g.spells).0 i (i + suc m) l.outer l.inner l.later l.outer_is l.inner_is l.lies in
    record {
      first = unit_in f.first t.relative;
      first_is = t.first;
      second = unit_in f.second t.relative;
      second_is = t.second;
      kind = refl;
      text = refl;
      address = goes cs t.relative.address f.first.address f.second.address f.address (subst (λ (x : TextUnit). GoesWith cs f.first.address x.address) w (subst (λ (x : TextUnit). GoesWith cs x.address l.inner.address) u law));
      newline = λ is. absurd (b.no_line (ap (λ (x : TextUnit). x.kind) w ∙ is));
    }

-- ---- pairs apart

-- a blank line stays
blank_stays : (cs : List Change) (k : UnitKind) (o : Option Address) (base : Option ℕ) (p : Option Address) (lb : Option ℕ) → k ≡ kinds.Line → o ≡ None → Stays cs (record { kind = k; address = o; base = base; line = p; line_base = lb })
blank_stays cs k o base p lb is none = subst (λ x. Stays cs (record { kind = k; address = x; base = base; line = p; line_base = lb })) (sym none) (subst (λ x. Stays cs (record { kind = x; address = None; base = base; line = p; line_base = lb })) (sym is) (of cs p))
  where
    of : (cs : List Change) (p : Option Address) → Stays cs (record { kind = kinds.Line; address = None; base = base; line = p; line_base = lb })
    of [] p = tt
    of (c ∷ cs) p = ((λ w. w), (λ w. w), of cs _)

pub line_stays : (cs : List Change) (u : TextUnit) (o : Option TextUnit) → u.kind ≡ kinds.Line → u.address ≡ None → Stays cs (standing u o)
line_stays cs u o is none = blank_stays cs u.kind u.address u.base (standing u o).line (standing u o).line_base is none

pub paired_line : (cs : List Change) (d e : Doc) (ps : List (ℕ × ℕ)) (flags : ℕ → Bool) → Given cs d e ps flags → (i : ℕ) (u : TextUnit) → slice_get (units d.lines) i ≡ Some u → u.kind ≡ kinds.Line → IsProtected cs (units d.lines) i → IsFirst ps i
paired_line cs d e ps flags g i u is line p = by (g.kept i p)
  where
    by : IsFirst ps i ⊎ ((j : ℕ) × LiesInside (units d.lines) j i × IsProtected cs (units d.lines) j × IsFirst ps j) → IsFirst ps i
    by (inl h) = h
    by (inr (j, l, q, h)) =
        let b = block_at (units d.lines) (units_nest d g.text g.spells).0 j i l.outer l.inner l.later l.outer_is l.inner_is l.lies in
        absurd (b.no_line (ap (λ (x : TextUnit). x.kind) (same_Some l.inner u (sym l.inner_is ∙ is)) ∙ line))

-- where a unit lies in a block, a later one of its kind and at its address does too
pub same_place : (d : Doc) (text : List ℕ) → Spells d text → KeepsRules (named d.lines) → (v i j : ℕ) (x u : TextUnit) (a : Address) → v < i → i ≤ v + size (units d.lines) v → i < j → slice_get (units d.lines) i ≡ Some x → slice_get (units d.lines) j ≡ Some u
    → x.kind ≡ u.kind → x.address ≡ Some a → u.address ≡ Some a → j ≤ v + size (units d.lines) v
same_place d text h keeps v i j x u a low high lt is are kind at there =
    let us = units d.lines in
    let apart = units_are_apart d text h keeps in
    let l = ((units_are_sized d text h).0 v i).1 (low, high) in
    let comment : x.kind ≡ kinds.InnerComment = two_at AreComments us i j x u apart.0 lt is are kind a at there in
    let same : l.inner ≡ x = same_Some l.inner x (sym l.inner_is ∙ is) in
    let lies = subst (λ (y : TextUnit). (l.outer.piece.start ≤ y.piece.start) × (y.piece.start + length y.piece.text ≤ l.outer.piece.start + length l.outer.piece.text)) same l.lies in
    let held =
    apart.1 l.outer x u (record { before = before_at us v i l.outer x low l.outer_is is; lies = lies }) (member_at us j u are)
    (record { first = comment; second = sym kind ∙ comment; address = at ∙ sym there }) in
    (((units_are_sized d text h).0 v j).0 (record { later = omega arith; outer = l.outer; outer_is = l.outer_is; inner = u; inner_is = are; lies = held.lies })).1

pub named_at : (d : Doc) (text : List ℕ) → Spells d text → (old : Kinds) → IsDataOf (named d.lines) old → (i : ℕ) (u : TextUnit) (a : Address) → slice_get (units d.lines) i ≡ Some u → u.address ≡ Some a → IsSome (old a)
named_at d text h old facts i u a is at =
    subst (λ o. IfSome o (λ b. IsSome (old b))) at (each_get (λ (x : TextUnit). IfSome x.address (λ b. IsSome (old b))) (units d.lines) i u (units_are_named d text h old facts) is)
