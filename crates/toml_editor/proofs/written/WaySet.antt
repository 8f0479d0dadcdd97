-- The way of a `set`.
use Rattle.std.proofs.Common.{◌≡◌, ◌⊎◌, inl, inr, ◌≤◌, ◌+◌, ℕ, true, false, cond, ◌&&◌, Option, Some, None, IsSome, option_map, List, [], ◌∷◌, ◌++◌, map, refl, sym, ap, ap₂, ◌∙◌, subst, subst₂, true≢false, arith, append-nil}
use Rattle.std.specs.Prelude.{slice_get, option_and_then, not}
use Rattle.std.proofs.Math.Bool.{and-false}
use Rattle.std.proofs.lemmas.Bool.{cond-true}
use Rattle.toml_tree.specs.Spells.{IsValue, AreLines}
use Rattle.toml_tree.specs.Tree.{Value, Line}
use Rattle.toml_names.specs.declared.model.address.Step.{Step as AddressStep}
use Rattle.toml_names.specs.mentions.Mentions.{Named, named, named_by, root}
use Rattle.toml_names.specs.mentions.Rules.{KeepsRules}
use Rattle.toml_names.specs.model.Addresses.{Address, IsAbove}
use Rattle.toml_names.proofs.Proved.{same_step-self, line_values_stand_alone}
use Rattle.toml_edits.specs.Carry.{carry, carry_below, emptied, setting}
use Rattle.toml_edits.specs.Edits.{Change, set}
use Rattle.toml_units.specs.declared.unit.UnitKind.{UnitKind}
use Rattle.toml_units.specs.declared.unit.UnitKind.TheVariants as kinds
use Rattle.toml_units.specs.Units.{TextUnit, inside, units}
use Rattle.toml_edits.specs.declared.side.Side.{Side}
use Rattle.toml_edits.specs.declared.side.Side.TheVariants as sides
use Rattle.toml_checker.specs.declared.tables.Part.TheVariants as parts
use Rattle.toml_checker.specs.CarriedTo.{At}
use Rattle.toml_checker.specs.Comments.{texts, times, is_comment}
use Rattle.toml_checker.specs.Owed.{IsOwed}
use Rattle.toml_checker.specs.Plain.{Site, site, next_line, stands, is_named, is_kept, home_stands, part_is_gone}
use Rattle.toml_edits.specs.Sides.{side}
use Rattle.toml_edits.proofs.Proved.{sides_are_right}
use Rattle.toml_editor.specs.ChangedUnits.{is_inner, LiesInValue, HoldsValue, HasNewValue, IsSetTo, AreMadeOf}
use Rattle.toml_editor.specs.Held.{HoldAt}
use Rattle.toml_working.specs.Lines.{lines_from}
use Rattle.toml_editor.specs.RenamedUnits.{IsCarried}
use Rattle.toml_working.specs.Setting.{set_line, set_lines}
use Rattle.toml_working.specs.Premises.{HasValue}
use Rattle.toml_editor.proofs.written.Clear.{self}
use Rattle.toml_editor.proofs.written.Pairwise.{Alone, pairs_of_all}
use Rattle.toml_editor.proofs.written.SetKept.{values_at}
use Rattle.toml_editor.proofs.written.UnitsGone.{inner_line, value_in}
use Rattle.toml_editor.proofs.written.UnitsSet.{set_units}
use Rattle.toml_editor.proofs.written.Way.{Step, both, old, new, olds, news, one_line, is_here}
use Rattle.toml_editor.proofs.written.WayBlock.{line_after, olds_append, news_append, added_append, fits_append, new_fits, new_olds, new_news, new_adds, inside_lines, same_comments, inside_asked}
use Rattle.toml_editor.proofs.written.WayComments.{added, comments}
use Rattle.toml_editor.proofs.written.WayFits.{Matches, Fits, newlines}
use Rattle.toml_editor.proofs.written.WayHeld.{has_value, stands_there, one_held, held, lines_held, one_there_only}
use Rattle.toml_editor.proofs.written.WayKeeps.{moved_site, Keeps, line_goes, site_goes, next_after}
use Rattle.toml_editor.proofs.written.WayKept.{HeaderIsOwed, header_named, carried_stays, new_keeps, inner_blank, inner_next, keeps_append}
use Rattle.toml_editor.proofs.written.WayWhole.{HasWay, as_many}
use Rattle.toml_editor.proofs.written.WayZip.{unchanged, IsNear, lost_line, carried_to, lines_in}

set_newlines : (p : Address) (v : Value) (ls : List Line) (xs : List Named) (n : ℕ) → newlines (lines_from (set_line p v) xs n ls) ≡ newlines ls
set_newlines p v [] xs n = refl
set_newlines p v (l ∷ ls) xs n = ap (λ r. l.newline.text ∷ r) (set_newlines p v ls (xs ++ named_by xs n l.expr) (n + 1))

-- what is below goes
below_goes : (p : Address) (s : AddressStep) (rest : Address) → carry_below p emptied (p ++ s ∷ rest) ≡ None
below_goes [] s rest = refl
below_goes (t ∷ p) s rest = cond-true _ _ _ (same_step-self t) ∙ ap (option_map (λ r. t ∷ r)) (below_goes p s rest)

-- the place stays
setting_here : (p : Address) → option_and_then (setting p) (Some p) ≡ Some p
setting_here [] = refl
setting_here (s ∷ p) = here (s ∷ p)
  where
    here : (p : Address) → carry_below p emptied p ≡ Some p
    here [] = refl
    here (t ∷ p) = cond-true _ _ _ (same_step-self t) ∙ ap (option_map (λ r. t ∷ r)) (here p)

not_below : (p a : Address) → setting p a ≡ Some a → ¬ (p ≡ []) → ¬ IsAbove p a
not_below [] a is some above = some refl
not_below (t ∷ p) a is some (s, rest, at) =
    let e : ◌≡◌ {A = Option Address} None (Some a) = sym (ap (setting (t ∷ p)) at ∙ below_goes (t ∷ p) s rest) ∙ is in cc

module _ (p : Address) (some : ¬ (p ≡ [])) (text : List ℕ) (IsOld : Value → Type 0) (v : Value) (before after : List (List ℕ)) (ends : before ≡ after) where
  abbrev c : Change
  c = set p text

  abbrev ts : List (List ℕ)
  ts = texts (comments (inside [] v))

  abbrev Fit : Option Site → ℕ → ℕ → List Step → Type 0
  Fit = Fits (c ∷ []) (ts ∷ []) before after

  abbrev Match : Option Site → ℕ → TextUnit → TextUnit → Type 0
  Match line a = Matches (c ∷ []) (ts ∷ []) before after line a a

  abbrev IsHome : Option Site → Type 0
  IsHome line = home_stands (c ∷ []) line ≡ true

  abbrev Units : UnitKind → Option Address → Option ℕ → Site
  Units kind a base = record { kind = kind; address = a; base = base }

  owed : (a : Address) → IsNear p a → IsOwed (c ∷ []) a
  owed a (inl below) = inl (p, p, refl, refl, inr below)
  owed a (inr (s, rest, is)) = inl (p, p, refl, refl, inl (s ∷ rest, is))

  -- ---- what lies in the old value goes

  lies_lost : (line : Option Site) (u : TextUnit) → LiesInValue p u → is_here (c ∷ []) line u ≡ false
  lies_lost line u lies = by u.kind u.address u.base lies.0 lies.1
    where
      above : (a : Address) → IsAbove p a → side p a ≡ sides.Above
      above a h = (sides_are_right p a).above.1 h

      by : (kind : UnitKind) (o : Option Address) (base : Option ℕ) → is_inner kind ≡ true → At o (λ a. IsAbove p a ⊎ ((a ≡ p) × (kind ≡ kinds.InnerComment))) → is_kept kind (c ∷ []) (next_line line (Units kind o base)) (Units kind o base) ≡ false
      by kinds.Line o base inner lies = absurd (true≢false (sym inner))
      by kinds.TailComment o base inner lies = absurd (true≢false (sym inner))
      by kind None base inner lies = absurd lies
      by kinds.Element (Some a) base inner (inl h) = ap (λ s. not (is_named parts.Element c base s) && true) (above a h)
      by kinds.Element (Some a) base inner (inr h) = let e = h.1 in cc
      by kinds.Pair (Some a) None inner (inl h) = ap (λ s. not (is_named parts.Line c None s) && true) (above a h)
      by kinds.Pair (Some a) (Some n) inner (inl h) = ap (λ s. not (is_named parts.Line c (Some n) s) && true) (above a h)
      by kinds.Pair (Some a) base inner (inr h) = let e = h.1 in cc
      by kinds.InnerComment (Some a) base inner (inl h) = ap (λ s. home_stands (c ∷ []) line && (not (part_is_gone c s) && true)) (above a h) ∙ and-false (home_stands (c ∷ []) line)
      by kinds.InnerComment (Some a) base inner (inr h) = ap (λ s. home_stands (c ∷ []) line && (not (part_is_gone c s) && true)) ((sides_are_right p a).at.1 (sym h.0)) ∙ and-false (home_stands (c ∷ []) line)

  -- ---- what has the value

  holds_lost : (line : Option Site) (u : TextUnit) → HoldsValue p u → (u.kind ≡ kinds.Line → IsSome u.base) → is_here (c ∷ []) line u ≡ false
  holds_lost line u holds keyed = by u.kind u.address u.base holds.0 holds.1 keyed
    where
      at_it : side p p ≡ sides.At
      at_it = (sides_are_right p p).at.1 refl

      by : (kind : UnitKind) (o : Option Address) (base : Option ℕ) → o ≡ Some p → is_comment kind ≡ false → (kind ≡ kinds.Line → IsSome base) → is_kept kind (c ∷ []) (next_line line (Units kind o base)) (Units kind o base) ≡ false
      by kinds.TailComment o base is plain keyed = absurd (true≢false plain)
      by kinds.InnerComment o base is plain keyed = absurd (true≢false plain)
      by kinds.Line o None is plain keyed = absurd (true≢false (sym (keyed refl)))
      by kinds.Line o (Some n) is plain keyed = ap (λ x. stands parts.Line (c ∷ []) x (Some n)) is ∙ ap (λ s. not (is_named parts.Line c (Some n) s) && true) at_it
      by kinds.Pair o None is plain keyed = ap (λ x. stands parts.Line (c ∷ []) x None) is ∙ ap (λ s. not (is_named parts.Line c None s) && true) at_it
      by kinds.Pair o (Some n) is plain keyed = ap (λ x. stands parts.Line (c ∷ []) x (Some n)) is ∙ ap (λ s. not (is_named parts.Line c (Some n) s) && true) at_it
      by kinds.Element o base is plain keyed = ap (λ x. stands parts.Element (c ∷ []) x base) is ∙ ap (λ s. not (is_named parts.Element c base s) && true) at_it

  holds_match : (line : Option Site) (a : ℕ) (u w : TextUnit) → HoldsValue p u → HasNewValue IsOld v u w → Match line a u w
  holds_match line a u w holds is = record {
    kind = is.kind;
    kept = λ here. absurd (true≢false (sym here ∙ holds_lost line u holds is.keyed));
    lost = λ gone. (
      (λ is_line. subst (λ o. At o (IsOwed (c ∷ []))) (sym (is.address ∙ holds.0)) (owed p (inl ([], sym (append-nil p))))),
      ap is_comment is.kind ∙ holds.1,
    );
  }

  -- the line that goes on with a unit stays
  holds_home : (line : Option Site) (u : TextUnit) → IsHome line → HoldsValue p u → (u.kind ≡ kinds.Line → IsSome u.base) → IsHome (next_line line (site u))
  holds_home line u home holds keyed = by u.kind u.address u.base holds.0 keyed
    where
      by : (kind : UnitKind) (o : Option Address) (base : Option ℕ) → o ≡ Some p → (kind ≡ kinds.Line → IsSome base) → IsHome (next_line line (Units kind o base))
      by kinds.Line o None is keyed = absurd (true≢false (sym (keyed refl)))
      by kinds.Line o (Some n) is keyed = ap (λ x. stands parts.Home (c ∷ []) x (Some n)) is ∙ ap (λ s. not (is_named parts.Home c (Some n) s) && true) ((sides_are_right p p).at.1 refl)
      by kinds.TailComment o base is keyed = home
      by kinds.InnerComment o base is keyed = home
      by kinds.Element o base is keyed = home
      by kinds.Pair o base is keyed = home

  -- ---- what stays

  record Stays (u w : TextUnit) : Type 0 where
    not_in : ¬ LiesInValue p u
    not_it : ¬ HoldsValue p u
    carried : IsCarried c u w
    same : w.address ≡ u.address

  far : (u w : TextUnit) → Stays u w → (a : Address) → u.address ≡ Some a → ¬ IsAbove p a
  far u w s a at =
      not_below p a (let e : option_and_then (carry c) (Some a) ≡ Some a = sym (ap (option_and_then (carry c)) at) ∙ sym s.carried.address ∙ s.same ∙ at in e) some

  stays_home : (line : Option Site) (u w : TextUnit) → IsHome line → Stays u w → IsHome (next_line line (site u))
  stays_home line u w home s = by u.kind refl u.address u.base refl
    where
      at_side : (a : Address) (base : Option ℕ) → ¬ IsAbove p a → ¬ (a ≡ p) → (t : Side) → side p a ≡ t → not (is_named parts.Home c base t) && true ≡ true
      at_side a base far apart sides.Above is = absurd (far ((sides_are_right p a).above.0 is))
      at_side a base far apart sides.At is = absurd (apart (sym ((sides_are_right p a).at.0 is)))
      at_side a None far apart sides.Apart is = refl
      at_side a (Some n) far apart sides.Apart is = refl
      at_side a None far apart sides.Below is = refl
      at_side a (Some n) far apart sides.Below is = refl

      by : (kind : UnitKind) → u.kind ≡ kind → (o : Option Address) (base : Option ℕ) → u.address ≡ o → IsHome (next_line line (Units kind o base))
      by kinds.Line is None base at = refl
      by kinds.Line is (Some a) base at = at_side a base (far u w s a at) (λ e. s.not_it (at ∙ ap Some e, ap is_comment is)) (side p a) refl
      by kinds.TailComment is o base at = home
      by kinds.InnerComment is o base at = home
      by kinds.Element is o base at = home
      by kinds.Pair is o base at = home

  stays_comment : (line : Option Site) (u w : TextUnit) → IsHome line → Stays u w → is_here (c ∷ []) line u ≡ false → is_comment u.kind ≡ false
  stays_comment line u w home s lost = by u.kind refl u.address u.base refl lost
    where
      at_side : (a : Address) → ¬ IsAbove p a → ¬ (a ≡ p) → (t : Side) → side p a ≡ t → not (part_is_gone c t) && true ≡ true
      at_side a far apart sides.Above is = absurd (far ((sides_are_right p a).above.0 is))
      at_side a far apart sides.At is = absurd (apart (sym ((sides_are_right p a).at.0 is)))
      at_side a far apart sides.Apart is = refl
      at_side a far apart sides.Below is = refl

      by : (kind : UnitKind) → u.kind ≡ kind → (o : Option Address) (base : Option ℕ) → u.address ≡ o → is_kept kind (c ∷ []) (next_line line (Units kind o base)) (Units kind o base) ≡ false → is_comment kind ≡ false
      by kinds.Line is o base at lost = refl
      by kinds.Pair is o base at lost = refl
      by kinds.Element is o base at lost = refl
      by kinds.TailComment is o base at lost = absurd (true≢false (sym home ∙ lost))
      by kinds.InnerComment is None base at lost = absurd (true≢false (sym (ap (λ b. b && true) home) ∙ lost))
      by kinds.InnerComment is (Some a) base at lost =
          absurd (true≢false (sym (ap₂ (λ x y. x && y) home (at_side a (far u w s a at)
          (λ e. s.not_in (ap is_inner is, subst (λ o. At o (λ b. IsAbove p b ⊎ ((b ≡ p) × (u.kind ≡ kinds.InnerComment)))) (sym at) (inr (e, is)))) (side p a) refl)) ∙ lost))

  stays_match : (line : Option Site) (a : ℕ) (u w : TextUnit) → IsHome line → Stays u w → Match line a u w
  stays_match line a u w home s = record {
    kind = s.carried.kind;
    kept = λ here. record {
      text = s.carried.text None (unchanged c line u None here);
      address = carried_to c u.address w.address s.carried.address (λ x at. (x, let e : option_and_then (carry c) (Some x) ≡ Some x = sym (ap (option_and_then (carry c)) at) ∙ sym s.carried.address ∙ s.same ∙ at in e));
      newline = λ is. inl (ap (λ ns. slice_get ns a) ends);
    };
    lost = λ gone. (
      (λ is_line. let l = lost_line c tt line u (sym s.carried.kind ∙ is_line) gone in subst (λ o. At o (IsOwed (c ∷ []))) (sym (s.same ∙ l.1)) (owed l.0 l.2)),
      ap is_comment s.carried.kind ∙ stays_comment line u w home s gone,
    );
  }

  -- a line of a header stays
  stays_header : (u w : TextUnit) → Stays u w → HeaderIsOwed c u w
  stays_header u w s is none line gone = let h = header_named c line u is none gone in absurd (by h.0 h.1 (side p h.0) refl h.2)
    where
      by : (a : Address) → u.address ≡ Some a → (t : Side) → side p a ≡ t → is_named parts.Line c None t ≡ true → ⊥
      by a at sides.Above lies is = far u w s a at ((sides_are_right p a).above.0 lies)
      by a at sides.At lies named = s.not_it (at ∙ ap Some (sym ((sides_are_right p a).at.0 lies)), ap is_comment is)
      by a at sides.Apart lies is = true≢false (sym is)
      by a at sides.Below lies is = true≢false (sym is)

  -- ---- the way

  abbrev Keep : Option Site → Option Site → ℕ → ℕ → List Step → Type 0
  Keep = Keeps (c ∷ []) before after

  abbrev Goes : Option Site → Option Site → Type 0
  Goes line next = next ≡ option_map (moved_site (c ∷ [])) line

  record SetWay (us ws : List TextUnit) : Type 0 where
    way : List Step
    olds_are : olds way ≡ us
    news_are : news way ≡ ws
    fits : (line : Option Site) → IsHome line → (a : ℕ) → Fit line a a way
    keeps : (line next : Option Site) → Goes line next → (a : ℕ) → Keep line next a a way
    none : held p us ≡ 0 → added way ≡ []
    few : held p us ≤ 1 → (t : List ℕ) → times t (texts (comments (added way))) ≤ times t ts

  goes : (u : TextUnit) (us ws : List TextUnit) → LiesInValue p u → SetWay us ws → SetWay (u ∷ us) ws
  goes u us ws lies m = record {
    way = old u ∷ m.way;
    olds_are = ap (λ l. u ∷ l) m.olds_are;
    news_are = m.news_are;
    fits = λ line home a. (
      lies_lost line u lies,
      subst₂ (λ (l : Option Site) (b : ℕ). Fit l b a m.way) (sym (ap (λ b. cond b (Some (site u)) line) (inner_line u.kind lies.0)))
          (let e : ◌≡◌ {A = ℕ} (one_line u.kind) 0 = ap (λ b. cond {A = ℕ} b 1 0) (inner_line u.kind lies.0) in let f : a ≡ a + one_line u.kind = omega (arith, e) in f) (m.fits line home a),
    );
    keeps = λ line next home a.
        subst₂ (λ (l : Option Site) (b : ℕ). Keep l next b a m.way) (sym (ap (λ b. cond b (Some (site u)) line) (inner_line u.kind lies.0)))
        (let e : ◌≡◌ {A = ℕ} (one_line u.kind) 0 = ap (λ b. cond {A = ℕ} b 1 0)
        (inner_line u.kind lies.0) in let f : a ≡ a + one_line u.kind = omega (arith, e) in f) (m.keeps line next home a);
    none = λ is. m.none (omega (arith, is));
    few = λ low t. m.few (omega (arith, low)) t;
  }

  stays : (u w : TextUnit) (us ws : List TextUnit) → Stays u w → SetWay us ws → SetWay (u ∷ us) (w ∷ ws)
  stays u w us ws s m = record {
    way = both u w ∷ m.way;
    olds_are = ap (λ l. u ∷ l) m.olds_are;
    news_are = ap (λ l. w ∷ l) m.news_are;
    fits = λ line home a. (stays_match line a u w home s, subst (λ k. Fit (next_line line (site u)) (a + one_line u.kind) (a + one_line k) m.way) (sym s.carried.kind) (m.fits (next_line line (site u)) (stays_home line u w home s) (a + one_line u.kind)));
    keeps = λ line next home a.
        let goes = site_goes c u w s.carried.kind s.carried.address s.carried.base in (
          carried_stays c before after ends line next a u w goes home (stays_header u w s),
          subst (λ k. Keep (next_line line (site u)) (next_line next (site w)) (a + one_line u.kind) (a + one_line k) m.way)
              (sym s.carried.kind)
              (m.keeps (next_line line (site u)) (next_line next (site w)) (line_goes (c ∷ []) line next u w goes (inl home))
              (a + one_line u.kind)),
        );
    none = λ is. m.none (omega (arith, is));
    few = λ low t. m.few (omega (arith, low)) t;
  }

  holds_one : (u : TextUnit) → HoldsValue p u → (u.kind ≡ kinds.Line → IsSome u.base) → one_held p u ≡ 1
  holds_one u holds keyed = by u.kind u.address u.base holds.0 holds.1 keyed
    where
      by : (kind : UnitKind) (o : Option Address) (base : Option ℕ) → o ≡ Some p → is_comment kind ≡ false → (kind ≡ kinds.Line → IsSome base) → cond {A = ℕ} (has_value kind base && stands_there p o) 1 0 ≡ 1
      by kinds.TailComment o base is plain keyed = absurd (true≢false plain)
      by kinds.InnerComment o base is plain keyed = absurd (true≢false plain)
      by kinds.Line o base is plain keyed = ap₂ (λ x y. cond {A = ℕ} (x && y) 1 0) (keyed refl) (ap (stands_there p) is ∙ self p)
      by kinds.Element o base is plain keyed = ap (λ y. cond {A = ℕ} y 1 0) (ap (stands_there p) is ∙ self p)
      by kinds.Pair o base is plain keyed = ap (λ y. cond {A = ℕ} y 1 0) (ap (stands_there p) is ∙ self p)

  changes : (u w : TextUnit) (us ws : List TextUnit) → HoldsValue p u → HasNewValue IsOld v u w → SetWay us ws → SetWay (u ∷ us) (w ∷ (inside p v ++ ws))
  changes u w us ws holds is m =
      let block = map new (inside p v) in
      let one = holds_one u holds is.keyed in
      record {
        way = both u w ∷ (block ++ m.way);
        olds_are = ap (λ l. u ∷ l) (olds_append block m.way ∙ ap₂ (λ x y. x ++ y) (new_olds (inside p v)) m.olds_are);
        news_are = ap (λ l. w ∷ l) (news_append block m.way ∙ ap₂ (λ x y. x ++ y) (new_news (inside p v)) m.news_are);
        fits = λ line home a. (
          holds_match line a u w holds is,
          (let next = next_line line (site u) in
              let b = a + one_line u.kind in
              subst (λ k. Fit next b (a + one_line k) (block ++ m.way)) (sym is.kind)
              (fits_append (c ∷ []) (ts ∷ []) before after block m.way next b b (new_fits (c ∷ []) (ts ∷ []) before after (inside p v) next b b (inside_asked c v before after))
              (subst₂ (λ (l : Option Site) (n : ℕ × ℕ). Fit l n.0 n.1 m.way) (sym (new_line_after (inside p v) next))
              (ap₂ (λ x y. (x, y)) (let e = ap lines_in (new_olds (inside p v)) in let f : b ≡ b + lines_in (olds block) = omega (arith, e) in f)
              (let e = ap lines_in (new_news (inside p v)) in let z = inside_lines p v in let f : b ≡ b + lines_in (news block) = omega (arith, e, z) in f))
              (m.fits next (holds_home line u home holds is.keyed) b)))),
        );
        keeps = λ line next home a.
            let at = site_goes c u w is.kind
            (is.address ∙ holds.0 ∙ sym (setting_here p) ∙ ap (option_and_then (carry c)) (sym holds.0)) is.base in
            let behind = next_line line (site u) in
            let then = next_line next (site w) in
            let b = a + one_line u.kind in (
              carried_stays c before after ends line next a u w at home
                  (λ is_line none l gone. absurd (true≢false (sym (subst IsSome none (is.keyed is_line))))),
              subst (λ k. Keep behind then b (a + one_line k) (block ++ m.way)) (sym is.kind)
                  (keeps_append c before after block m.way behind then b b
                  (new_keeps c before after (inside p v)
                  (inner_blank c before after p (inside p v) (value_in p v p (inr refl))) behind then b b)
                  (subst (λ l. Keep l (next_after then block) (b + lines_in (olds block)) (b + lines_in (news block)) m.way)
                  (sym (new_line_after (inside p v) behind))
                  (subst (λ l. Keep behind l (b + lines_in (olds block)) (b + lines_in (news block)) m.way)
                  (sym (inner_next p (inside p v) (value_in p v p (inr refl)) then))
                  (subst₂ (λ x y. Keep behind then x y m.way)
                  (let e = ap lines_in (new_olds (inside p v)) in let f : b ≡ b + lines_in (olds block) = omega (arith, e) in f)
                  (let e = ap lines_in (new_news (inside p v)) in let z = inside_lines p v in let f : b ≡ b + lines_in (news block) = omega
                  (arith, e, z) in f)
                  (m.keeps behind then (line_goes (c ∷ []) line next u w at (inl home)) b))))),
            );
        none = λ is. absurd (let e : ⊥ = omega (arith, is, one) in e);
        few = λ low t.
            let rest = m.none (omega (arith, low, one)) in
            as_many t (texts (comments (added (block ++ m.way)))) ts
            (ap (λ xs. texts (comments xs)) (added_append block m.way ∙ ap₂ (λ x y. x ++ y) (new_adds (inside p v)) rest ∙ append-nil (inside p v)) ∙ same_comments p v);
      }
    where
      new_line_after : (xs : List TextUnit) (l : Option Site) → line_after l (map new xs) ≡ l
      new_line_after [] l = refl
      new_line_after (x ∷ xs) l = new_line_after xs l

  way_of : (us ws : List TextUnit) → AreMadeOf (IsSetTo p text IsOld v) us ws → SetWay us ws
  way_of [] ws made =
      record {
        way = [];
        olds_are = refl;
        news_are = sym made;
        fits = λ line home a. tt;
        keeps = λ line next home a. tt;
        none = λ is. refl;
        few = λ low t. omega arith;
      }
  way_of (u ∷ us) ws (here, rest, inl (lies, gone), is, more) = subst (SetWay (u ∷ us)) (sym (is ∙ ap (λ l. l ++ rest) gone)) (goes u us rest lies (way_of us rest more))
  way_of (u ∷ us) ws (here, rest, inr (inl (holds, w, has, made)), is, more) = subst (SetWay (u ∷ us)) (sym (is ∙ ap (λ l. l ++ rest) made)) (changes u w us rest holds has (way_of us rest more))
  way_of (u ∷ us) ws (here, rest, inr (inr (not_in, not_it, w, carried, bytes, same, made)), is, more) =
      subst (SetWay (u ∷ us)) (sym (is ∙ ap (λ l. l ++ rest) made)) (stays u w us rest (record { not_in = not_in; not_it = not_it; carried = carried; same = same }) (way_of us rest more))

pub set_way : (p : Address) (text : List ℕ) (v : Value) (lines : List Line) → ¬ (p ≡ []) → AreLines lines → IsValue v → HasValue lines p → KeepsRules (named lines)
    → HasWay (set p text ∷ []) (texts (comments (inside [] v)) ∷ []) lines (set_lines p v lines)
set_way p text v lines some is formed at keeps =
    let ends = sym (set_newlines p v lines (root ∷ []) 0) in
    let m = way_of p some text (HoldAt lines p) v (newlines lines) (newlines (set_lines p v lines)) ends (units lines) (units (set_lines p v lines)) (set_units p text v lines some is formed at keeps) in
    let ts = texts (comments (inside [] v)) in
    let few : held p (units lines) ≤ 1 = (let a = lines_held p lines (root ∷ []) 0 in let b = one_there_only p (named lines) (values_at p lines at keeps) (pairs_of_all Alone (named lines) (line_values_stand_alone lines keeps)) in omega (arith, a, b)) in
    record {
      way = m.way;
      olds_are = m.olds_are;
      news_are = m.news_are;
      fits = m.fits None refl 0;
      keeps = m.keeps None None refl 0;
      comments_few = λ t. let a = m.few few t in let b = as_many t ts (ts ++ []) (sym (append-nil ts)) in omega (arith, a, b);
    }
