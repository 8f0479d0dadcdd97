-- The partners of protected units.
use Rattle.std.proofs.Common.{◌≡◌, ◌⊎◌, inl, inr, ℕ, zero, suc, ◌+◌, ◌-◌, ◌<◌, ◌≤◌, ◌^◌, ◌&&◌, Bool, true, false, cond, List, [], ◌∷◌, length, Option, Some, None, refl, sym, ap, subst, ◌∙◌, arith}
use Rattle.std.proofs.lemmas.Bool.Decides.{nat_tests}
use Rattle.std.proofs.lemmas.Option.{same_Some}
use Rattle.std.specs.Bool.{nat_le}
use Rattle.std.specs.Prelude.{slice_get, map, ◌↔◌}
use Rattle.toml_tree.specs.Tree.{Doc}
use Rattle.toml_tree.proofs.Proved.{one_tree}
use Rattle.toml_tree.specs.declared.profile.Profile.{Profile}
use Rattle.toml_names.specs.model.Addresses.{Address}
use Rattle.toml_names.specs.model.Data.{IsDataOf}
use Rattle.toml_names.specs.mentions.Mentions.{named}
use Rattle.toml_names.proofs.Proved.{lines_are_closed}
use Rattle.toml_edits.specs.Edits.{Change}
use Rattle.toml_units.specs.declared.unit.UnitKind.{UnitKind}
use Rattle.toml_units.specs.declared.unit.UnitKind.TheVariants as kinds
use Rattle.toml_units.specs.Places.{LiesInside, size, line_of}
use Rattle.toml_units.specs.Units.{TextUnit, units}
use Rattle.toml_edits.proofs.Proved.{lists_carry_apart}
use Rattle.toml_units.specs.OfLines.{IsOfLine}
use Rattle.toml_units.proofs.Proved.{units_nest, units_have_addresses, units_are_sized, units_are_of_lines, units_are_twins, tails_end_lines}
use Rattle.toml_checker.specs.CarriedTo.{IsCarriedTo}
use Rattle.toml_checker.specs.Comments.{NoCommentsAdded}
use Rattle.toml_checker.specs.Demands.{Certified}
use Rattle.toml_checker.specs.Headline.{AllStand}
use Rattle.toml_checker.specs.Kept.{AllKept}
use Rattle.toml_checker.specs.Lines.{NoLinesAdded}
use Rattle.toml_checker.specs.Pairs.{StandsAs, PairsFit, IsFirst, Rise}
use Rattle.toml_checker.specs.Plain.{site, flags}
use Rattle.toml_checker.specs.Protected.{IsProtected}
use Rattle.toml_checker.proofs.Between.{Between, between}
use Rattle.toml_checker.proofs.Each.{each_get}
use Rattle.toml_checker.proofs.Flags.{flags_tell}
use Rattle.toml_checker.proofs.InBlocks.{in_block as block_at}
use Rattle.toml_checker.proofs.Partners.{in_block, Covered, partner, ApartFrom, Apart, block_low, block_high, block_in, both_true, clash, rises}
use Rattle.toml_checker.proofs.Headline.{Given, IsPair, pair_is, first_pair, past_first, rise_from, both_rise, inner_stands, line_stays, paired_line, same_place, named_at}

-- a line and a comment are not one
line_no_tail : (k : UnitKind) → k ≡ kinds.Line → k ≡ kinds.TailComment → ⊥
line_no_tail k e f = let g : kinds.Line ≡ kinds.TailComment = sym e ∙ f in cc

sooner : (i j : ℕ) → i ≤ j → ¬ (i ≡ j) → i < j
sooner i j le other = by (nat_le j i) refl
  where
    by : (b : Bool) → nat_le j i ≡ b → i < j
    by true e = absurd (other (let l : j ≤ i = grind (arith, nat_tests) in omega arith))
    by false e = grind (arith, nat_tests)

-- no comment of a blank line is paired with one in another blank line's partner
blank_apart : (cs : List Change) (d e : Doc) (ps : List (ℕ × ℕ)) (flags : ℕ → Bool) → Given cs d e ps flags → (p q : ℕ × ℕ) → IsPair p ps → IsPair q ps → (fp : StandsAs cs d e p.0 p.1) (fq : StandsAs cs d e q.0 q.1)
    → (i : ℕ) (x : TextUnit) → p.0 < i → i ≤ p.0 + size (units d.lines) p.0 → i < q.0 → slice_get (units d.lines) i ≡ Some x → x.kind ≡ fq.first.kind → x.address ≡ None → fq.first.address ≡ None
    → q.1 ≤ p.1 + size (units d.lines) p.0 → ⊥
blank_apart cs d e ps flags g p q mp mq fp fq i x low high lt is kind none blank near =
    by (each_get (λ (y : TextUnit). y.address ≡ None → (y.kind ≡ kinds.Line) ⊎ (y.kind ≡ kinds.TailComment)) (units d.lines) i x (units_have_addresses d g.text g.spells) is none)
  where
    l : LiesInside (units d.lines) p.0 i
    l = ((units_are_sized d g.text g.spells).0 p.0 i).1 (low, high)

    no_line : ¬ (l.inner.kind ≡ kinds.Line)
    no_line = (block_at (units d.lines) (units_nest d g.text g.spells).0 p.0 i l.outer l.inner l.later l.outer_is l.inner_is l.lies).no_line

    line_in : (r : ℕ × ℕ) (fr : StandsAs cs d e r.0 r.1) → fr.first.kind ≡ kinds.Line → IsPair r ps → p.0 < r.0 → r.0 < q.0 → ⊥
    line_in r fr line m lo hi =
        let a = both_rise ps p r g.rise mp m lo in
        let b = both_rise ps r q g.rise m mq hi in
        let s = (units_are_twins d e g.text g.other g.spells g.spelled p.0 p.1 fp.first fp.second fp.first_is fp.second_is fp.kind fp.text).0 in
        let k = ((units_are_sized e g.other g.spelled).0 p.1 r.1).1 (a, omega (arith, near, b, s)) in
        let n = (block_at (units e.lines) (units_nest e g.other g.spelled).0 p.1 r.1 k.outer k.inner k.later k.outer_is k.inner_is k.lies).no_line in
        n (ap (λ (y : TextUnit). y.kind) (same_Some k.inner fr.second (sym k.inner_is ∙ fr.second_is)) ∙ sym fr.kind ∙ line)

    at_line : Between (units d.lines) None i q.0 → ((m : TextUnit) × (line_of (units d.lines) q.0 ≡ Some m) × IsOfLine m fq.first) → fq.first.kind ≡ kinds.TailComment → ⊥
    at_line b (m, of, inl_) tail =
        let same : m ≡ b.at.unit = same_Some m b.at.unit (sym of ∙ b.at.is) in
        let empty : b.at.unit.address ≡ None = ap (λ (y : TextUnit). y.address) (sym same) ∙ sym (inl_.tail tail).0 ∙ blank in
        let first = first_pair ps b.at.place (paired_line cs d e ps flags g b.at.place b.at.unit b.at.there b.at.kind (b.at.unit, b.at.there, line_stays cs b.at.unit (line_of (units d.lines) b.at.place) b.at.kind empty)) in
        let fr = pair_is (λ r. StandsAs cs d e r.0 r.1) ps first.0 g.fit first.1 in
        let line : fr.first.kind ≡ kinds.Line = ap (λ (y : TextUnit). y.kind) (same_Some fr.first b.at.unit (sym fr.first_is ∙ ap (slice_get (units d.lines)) first.2 ∙ b.at.there)) ∙ b.at.kind in
        let other : ¬ (b.at.place ≡ q.0) = λ s. line_no_tail b.at.unit.kind b.at.kind (ap (λ (y : TextUnit). y.kind) (same_Some b.at.unit fq.first (sym b.at.there ∙ ap (slice_get (units d.lines)) s ∙ fq.first_is)) ∙ tail) in
        let under : b.at.place < q.0 = sooner b.at.place q.0 b.at.low other in
        line_in first.0 fr line first.1 (omega (arith, first.2, b.high, low)) (omega (arith, first.2, under))

    with_line : Between (units d.lines) None i q.0 → fq.first.kind ≡ kinds.TailComment → ((fq.first.kind ≡ kinds.Line) × (line_of (units d.lines) q.0 ≡ Some fq.first)) ⊎ ((m : TextUnit) × (line_of (units d.lines) q.0 ≡ Some m) × IsOfLine m fq.first) → ⊥
    with_line b tail (inl h) = line_no_tail fq.first.kind h.0 tail
    with_line b tail (inr h) = at_line b h tail

    by : (x.kind ≡ kinds.Line) ⊎ (x.kind ≡ kinds.TailComment) → ⊥
    by (inl line) = no_line (ap (λ (y : TextUnit). y.kind) (same_Some l.inner x (sym l.inner_is ∙ is)) ∙ line)
    by (inr tail) = with_line (between (units d.lines) None i q.0 x fq.first (tails_end_lines d.lines) lt is fq.first_is tail) (sym kind ∙ tail) (units_are_of_lines d.lines q.0 fq.first fq.first_is)

-- no unit behind a block is paired with one in the block's partner
apart : (cs : List Change) (d e : Doc) (ps : List (ℕ × ℕ)) (flags : ℕ → Bool) → Given cs d e ps flags → (p q : ℕ × ℕ) → IsPair p ps → IsPair q ps → IsProtected cs (units d.lines) p.0 → p.0 + size (units d.lines) p.0 < q.0 → q.1 ≤ p.1 + size (units d.lines) p.0 → ⊥
apart cs d e ps flags g p q mp mq protected far near =
    by f.first.address refl fq.first.address refl fq.second.address (subst (λ (y : TextUnit). IsCarriedTo cs f.first.address y.address) same f.address) fq.address
  where
    fp : StandsAs cs d e p.0 p.1
    fp = pair_is (λ r. StandsAs cs d e r.0 r.1) ps p g.fit mp

    fq : StandsAs cs d e q.0 q.1
    fq = pair_is (λ r. StandsAs cs d e r.0 r.1) ps q g.fit mq

    rise : p.1 < q.1
    rise = both_rise ps p q g.rise mp mq (omega arith)

    at : p.1 + suc (q.1 - suc p.1) ≡ q.1
    at = omega (arith, rise)

    low : (q.1 - suc p.1) < size (units d.lines) p.0
    low = omega (arith, rise)

    f : StandsAs cs d e (p.0 + suc (q.1 - suc p.1)) (p.1 + suc (q.1 - suc p.1))
    f = inner_stands cs d e ps flags g p.0 p.1 fp protected (q.1 - suc p.1) low

    same : f.second ≡ fq.second
    same = same_Some f.second fq.second (sym f.second_is ∙ ap (slice_get (units e.lines)) at ∙ fq.second_is)

    kind : f.first.kind ≡ fq.first.kind
    kind = f.kind ∙ ap (λ (y : TextUnit). y.kind) same ∙ sym fq.kind

    by : (o : Option Address) → f.first.address ≡ o → (o' : Option Address) → fq.first.address ≡ o' → (t : Option Address) → IsCarriedTo cs o t → IsCarriedTo cs o' t → ⊥
    by None x None y None h k = blank_apart cs d e ps flags g p q mp mq fp fq (p.0 + suc (q.1 - suc p.1)) f.first (omega arith) (omega (arith, low)) (omega (arith, low)) f.first_is kind x y near
    by None x None y (Some t) h k = h
    by None x (Some b) y None h k = k
    by None x (Some b) y (Some t) h k = h
    by (Some a) x None y None h k = h
    by (Some a) x None y (Some t) h k = k
    by (Some a) x (Some b) y None h k = h
    by (Some a) x (Some b) y (Some t) h k =
        let one : a ≡ b = lists_carry_apart g.profile cs g.old g.new (lines_are_closed d.lines g.old g.good.0 g.old_is) g.lead a b t (named_at d g.text g.spells g.old g.old_is (p.0 + suc (q.1 - suc p.1)) f.first a f.first_is x) (named_at d g.text g.spells g.old g.old_is q.0 fq.first b fq.first_is y) h k in
        let in_it = same_place d g.text g.spells g.good.0 p.0 (p.0 + suc (q.1 - suc p.1)) q.0 f.first fq.first a (omega arith) (omega (arith, low)) (omega (arith, low)) f.first_is fq.first_is kind x (y ∙ ap Some (sym one)) in
        omega (arith, in_it)

apart_from : (cs : List Change) (d e : Doc) (ps : List (ℕ × ℕ)) (flags : ℕ → Bool) → Given cs d e ps flags → (p : ℕ × ℕ) (qs : List (ℕ × ℕ)) → IsPair p ps → ((q : ℕ × ℕ) → IsPair q qs → IsPair q ps) → ApartFrom flags (size (units d.lines)) p qs
apart_from cs d e ps flags g p [] mp sub = tt
apart_from cs d e ps flags g p (q ∷ qs) mp sub = ((λ a b far. of (nat_le q.1 (p.1 + size (units d.lines) p.0)) refl a far), apart_from cs d e ps flags g p qs mp (λ r m. sub r (inr m)))
  where
    of : (b : Bool) → nat_le q.1 (p.1 + size (units d.lines) p.0) ≡ b → flags p.0 ≡ true → p.0 + size (units d.lines) p.0 < q.0 → p.1 + size (units d.lines) p.0 < q.1
    of false is a far = grind (arith, nat_tests)
    of true is a far = absurd (apart cs d e ps flags g p q mp (sub q (inl refl)) ((g.flags_are p.0).0 a) far (grind (arith, nat_tests)))

all_pairs_apart : (cs : List Change) (d e : Doc) (ps : List (ℕ × ℕ)) (flags : ℕ → Bool) → Given cs d e ps flags → (qs : List (ℕ × ℕ)) → ((q : ℕ × ℕ) → IsPair q qs → IsPair q ps) → Apart flags (size (units d.lines)) qs
all_pairs_apart cs d e ps flags g [] sub = tt
all_pairs_apart cs d e ps flags g (q ∷ qs) sub = (apart_from cs d e ps flags g q qs (sub q (inl refl)) (λ r m. sub r (inr m)), all_pairs_apart cs d e ps flags g qs (λ r m. sub r (inr m)))

-- ---- partners

covered_by : (flags : ℕ → Bool) (size_of : ℕ → ℕ) (ps : List (ℕ × ℕ)) (p : ℕ × ℕ) (i : ℕ) → IsPair p ps → flags p.0 ≡ true → in_block size_of p.0 i ≡ true → Covered flags size_of ps i
covered_by flags size_of [] p i m a b = absurd m
covered_by flags size_of (q ∷ ps) p i (inl e) a b = inl (subst (λ (y : ℕ × ℕ). (flags y.0 ≡ true) × (in_block size_of y.0 i ≡ true)) e (a, b))
covered_by flags size_of (q ∷ ps) p i (inr m) a b = inr (covered_by flags size_of ps p i m a b)

pub record Found (flags : ℕ → Bool) (size_of : ℕ → ℕ) (ps : List (ℕ × ℕ)) (i : ℕ) (to : ℕ) : Type 0 where
  pub pair : ℕ × ℕ
  pub there : IsPair pair ps
  pub flag : flags pair.0 ≡ true
  pub inside : in_block size_of pair.0 i ≡ true
  pub is : to ≡ pair.1 + (i - pair.0)

both : (a b : Bool) → a ≡ true → b ≡ true → a && b ≡ true
both true b e f = f
both false b e f = cc

found : (flags : ℕ → Bool) (size_of : ℕ → ℕ) (ps : List (ℕ × ℕ)) (i : ℕ) → Covered flags size_of ps i → Found flags size_of ps i (partner flags size_of ps i)
found flags size_of [] i c = absurd c
found flags size_of (q ∷ ps) i c = by c (λ n. found flags size_of ps i n) (flags q.0 && in_block size_of q.0 i) refl
  where
    by : Covered flags size_of (q ∷ ps) i → (Covered flags size_of ps i → Found flags size_of ps i (partner flags size_of ps i)) → (b : Bool) → flags q.0 && in_block size_of q.0 i ≡ b
        → Found flags size_of (q ∷ ps) i (cond b (q.1 + (i - q.0)) (partner flags size_of ps i))
    by c next true e = let h = both_true (flags q.0) (in_block size_of q.0 i) e in record { pair = q; there = inl refl; flag = h.0; inside = h.1; is = refl }
    by (inl h) next false e = absurd (clash _ (both _ _ h.0 h.1) e)
    by (inr n) next false e = let f = next n in record { pair = f.pair; there = inr f.there; flag = f.flag; inside = f.inside; is = f.is }

covered : (cs : List Change) (d e : Doc) (ps : List (ℕ × ℕ)) (flags : ℕ → Bool) → Given cs d e ps flags → (i : ℕ) → IsProtected cs (units d.lines) i → Covered flags (size (units d.lines)) ps i
covered cs d e ps flags g i p = by (g.kept i p)
  where
    by : IsFirst ps i ⊎ ((j : ℕ) × LiesInside (units d.lines) j i × IsProtected cs (units d.lines) j × IsFirst ps j) → Covered flags (size (units d.lines)) ps i
    by (inl h) =
        let r = first_pair ps i h in
        covered_by flags (size (units d.lines)) ps r.0 i r.1 ((g.flags_are r.0.0).1 (subst (IsProtected cs (units d.lines)) (sym r.2) p)) (block_in (size (units d.lines)) r.0.0 i (omega (arith, r.2)) (omega (arith, r.2)))
    by (inr (j, l, q, h)) =
        let r = first_pair ps j h in
        let s = ((units_are_sized d g.text g.spells).0 j i).0 l in
        let t : size (units d.lines) r.0.0 ≡ size (units d.lines) j = ap (size (units d.lines)) r.2 in
        covered_by flags (size (units d.lines)) ps r.0 i r.1 ((g.flags_are r.0.0).1 (subst (IsProtected cs (units d.lines)) (sym r.2) q)) (block_in (size (units d.lines)) r.0.0 i (omega (arith, r.2, s.0)) (omega (arith, r.2, s.1, t)))

partner_stands : (cs : List Change) (d e : Doc) (ps : List (ℕ × ℕ)) (flags : ℕ → Bool) → Given cs d e ps flags → (i : ℕ) → IsProtected cs (units d.lines) i → StandsAs cs d e i (partner flags (size (units d.lines)) ps i)
partner_stands cs d e ps flags g i p = by (i - f.pair.0) refl
  where
    f : Found flags (size (units d.lines)) ps i (partner flags (size (units d.lines)) ps i)
    f = found flags (size (units d.lines)) ps i (covered cs d e ps flags g i p)

    low : f.pair.0 ≤ i
    low = block_low (size (units d.lines)) f.pair.0 i f.inside

    high : i ≤ f.pair.0 + size (units d.lines) f.pair.0
    high = block_high (size (units d.lines)) f.pair.0 i f.inside

    fits : StandsAs cs d e f.pair.0 f.pair.1
    fits = pair_is (λ r. StandsAs cs d e r.0 r.1) ps f.pair g.fit f.there

    moved_to : (a b k : ℕ) → a ≡ i → b ≡ partner flags (size (units d.lines)) ps i → StandsAs cs d e a b → StandsAs cs d e i (partner flags (size (units d.lines)) ps i)
    moved_to a b k x y s = subst (λ c. StandsAs cs d e i c) y (subst (λ c. StandsAs cs d e c b) x s)

    by : (n : ℕ) → i - f.pair.0 ≡ n → StandsAs cs d e i (partner flags (size (units d.lines)) ps i)
    by zero is = moved_to f.pair.0 f.pair.1 0 (omega (arith, low)) (omega (arith, f.is)) fits
    by (suc m) is = moved_to (f.pair.0 + suc m) (f.pair.1 + suc m) 0 (omega (arith, low)) (omega (arith, f.is)) (inner_stands cs d e ps flags g f.pair.0 f.pair.1 fits ((g.flags_are f.pair.0).0 f.flag) m (omega (arith, high, low)))

pub all_stand : (cs : List Change) (d e : Doc) (ps : List (ℕ × ℕ)) (flags : ℕ → Bool) → Given cs d e ps flags → AllStand cs d e
all_stand cs d e ps flags g = record {
  partner = partner flags (size (units d.lines)) ps;
  rises = λ i j p q lt. rises flags (size (units d.lines)) ps (units_are_sized d g.text g.spells).1 g.rise (all_pairs_apart cs d e ps flags g ps (λ r m. m)) i j lt (covered cs d e ps flags g i p) (covered cs d e ps flags g j q);
  stands = partner_stands cs d e ps flags g;
}

-- ---- what is certified

abbrev flag_at : Option Bool → Bool
flag_at None = false
flag_at (Some b) = b

flag_is : (o : Option Bool) → (flag_at o ≡ true) ↔ (o ≡ Some true)
flag_is None = ((λ e. cc), (λ e. cc))
flag_is (Some b) = ((λ e. ap Some e), (λ e. same_Some b true e))

abbrev pub flag_of : List Change → List TextUnit → ℕ → Bool
flag_of cs us i = flag_at (slice_get (flags cs (map site us)) i)

pub flag_tells : (cs : List Change) (us : List TextUnit) (i : ℕ) → (flag_of cs us i ≡ true) ↔ IsProtected cs us i
flag_tells cs us i =
    let f = flag_is (slice_get (flags cs (map site us)) i) in
    let t = (flags_tell cs us).1 i in
    ((λ e. t.0 (f.0 e)), (λ p. f.1 (t.1 p)))

-- the one tree of each text, and the demands on them
pub record Read (before : List ℕ) (cs : List Change) (after : List ℕ) (ps : List (ℕ × ℕ)) (d e : Doc) : Type 0 where
  pub fit : PairsFit cs d e ps
  pub kept : AllKept cs d ps
  pub lines : NoLinesAdded cs e ps
  pub comments : NoCommentsAdded cs e ps

pub read : (profile : Profile) (before after : List ℕ) (cs : List Change) (ps : List (ℕ × ℕ)) (c : Certified profile before cs after ps) → Read before cs after ps c.old.1 c.new.1
read profile before after cs ps c = record {
  fit = subst (λ x. PairsFit cs x c.new.1 ps) (one_tree c.pairs.0 c.old.1 before c.pairs.1 c.old.2) (subst (λ x. PairsFit cs c.pairs.0 x ps) (one_tree c.pairs.2.0 c.new.1 after c.pairs.2.1 c.new.2) c.pairs.2.2);
  kept = subst (λ x. AllKept cs x ps) (one_tree c.kept.0 c.old.1 before c.kept.1 c.old.2) c.kept.2;
  lines = subst (λ x. NoLinesAdded cs x ps) (one_tree c.lines.0 c.new.1 after c.lines.1 c.new.2) c.lines.2;
  comments = subst (λ x. NoCommentsAdded cs x ps) (one_tree c.comments.0 c.new.1 after c.comments.1 c.new.2) c.comments.2;
}

pub given : (profile : Profile) (before after : List ℕ) (cs : List Change) (ps : List (ℕ × ℕ)) (c : Certified profile before cs after ps) → length cs < 2 ^ 63 → Given cs c.old.1 c.new.1 ps (flag_of cs (units c.old.1.lines))
given profile before after cs ps c few =
    let d = c.old.1 in
    let r = read profile before after cs ps c in
    record {
      profile = profile;
      text = before;
      other = after;
      spells = c.old.2;
      spelled = c.new.2;
      within = c.old.0;
      good = c.old.3;
      of_profile = c.old.4;
      old = c.facts.2;
      new = c.facts.4.2;
      old_is = subst (λ (x : Doc). IsDataOf (named x.lines) c.facts.2) (one_tree c.facts.0 d before c.facts.1 c.old.2) c.facts.3;
      lead = c.facts.4.4;
      rise = r.fit.0;
      fit = r.fit.1;
      kept = r.kept;
      few = few;
      flags_are = flag_tells cs (units d.lines);
    }

-- ---- a paired line that is protected is the partner of its first

pub one_second : (ps : List (ℕ × ℕ)) (p q : ℕ × ℕ) → Rise ps → IsPair p ps → IsPair q ps → p.0 ≡ q.0 → p.1 ≡ q.1
one_second [] p q r m n e = absurd m
one_second (x ∷ ps) p q r (inl a) (inl b) e = ap (λ (y : ℕ × ℕ). y.1) (a ∙ sym b)
one_second (x ∷ ps) p q r (inl a) (inr n) e = absurd (omega (arith, (past_first x.0 x.1 ps q r n).0, ap (λ (y : ℕ × ℕ). y.0) a, e))
one_second (x ∷ ps) p q r (inr m) (inl b) e = absurd (omega (arith, (past_first x.0 x.1 ps p r m).0, ap (λ (y : ℕ × ℕ). y.0) b, e))
one_second (x ∷ ps) p q r (inr m) (inr n) e = one_second ps p q (rise_from x.0 x.1 ps r) m n e

pub line_partner : (cs : List Change) (d e : Doc) (ps : List (ℕ × ℕ)) (flags : ℕ → Bool) (g : Given cs d e ps flags) (p : ℕ × ℕ) → IsPair p ps → (u : TextUnit) → slice_get (units d.lines) p.0 ≡ Some u → u.kind ≡ kinds.Line → IsProtected cs (units d.lines) p.0
    → (all_stand cs d e ps flags g).partner p.0 ≡ p.1
unfolding all_stand
line_partner cs d e ps flags g p m u is line protected = by (nat_le p.0 f.pair.0) refl
  where
    f : Found flags (size (units d.lines)) ps p.0 (partner flags (size (units d.lines)) ps p.0)
    f = found flags (size (units d.lines)) ps p.0 (covered cs d e ps flags g p.0 protected)

    low : f.pair.0 ≤ p.0
    low = block_low (size (units d.lines)) f.pair.0 p.0 f.inside

    high : p.0 ≤ f.pair.0 + size (units d.lines) f.pair.0
    high = block_high (size (units d.lines)) f.pair.0 p.0 f.inside

    by : (b : Bool) → nat_le p.0 f.pair.0 ≡ b → partner flags (size (units d.lines)) ps p.0 ≡ p.1
    by true t = let same : f.pair.0 ≡ p.0 = (let l : p.0 ≤ f.pair.0 = grind (arith, nat_tests) in omega (arith, low)) in let second = one_second ps f.pair p g.rise f.there m same in omega (arith, f.is, same, second)
    by false t =
        let before : f.pair.0 < p.0 = grind (arith, nat_tests) in
        let l = ((units_are_sized d g.text g.spells).0 f.pair.0 p.0).1 (before, high) in
        absurd ((block_at (units d.lines) (units_nest d g.text g.spells).0 f.pair.0 p.0 l.outer l.inner l.later l.outer_is l.inner_is l.lies).no_line (ap (λ (x : TextUnit). x.kind) (same_Some l.inner u (sym l.inner_is ∙ is)) ∙ line))
