-- Where the line of a value alone makes the table right above it, no other line names that table.
use Rattle.std.proofs.Common.{◌≡◌, ◌∙◌, inl, inr, ℕ, ◌+◌, ◌-◌, ◌==◌, ◌<◌, Bool, cond, true, false, ◌&&◌, ◌||◌, Option, Some, None, List, [], ◌∷◌, ◌++◌, length, length-append, refl, sym, ap, ap₂, subst, subst₂, append_assoc, append-nil, true≢false, arith}
use Rattle.std.specs.Bool.{nat_lt}
use Rattle.std.specs.List.{list_any}
use Rattle.std.specs.Prelude.{not}
use Rattle.std.proofs.lemmas.Bool.Decides.{nat_tests}
use Rattle.toml_tree.specs.Spells.{EachIs}
use Rattle.toml_tree.specs.Tree.{Piece, Value, Expr, BlankLine, KeyValLine, TableLine, ArrayTableLine, Line}
use Rattle.toml_names.specs.declared.model.address.Step.TheVariants.{Name, Index}
use Rattle.toml_names.specs.model.Addresses.{Address, IsAbove, below, child, element, is_above}
use Rattle.toml_names.specs.mentions.Alike.{AreAlike}
use Rattle.toml_names.specs.mentions.Keys.{Key, key_names}
use Rattle.toml_names.specs.mentions.Mentions.{Named, a_table, count_tables, ends_table, ends_tables, entered, followed, fronts, inside, named_by, pair_named, section, value_named}
use Rattle.toml_names.specs.declared.mentions.mention.Role.TheVariants.{Valued}
use Rattle.toml_names.specs.reader.Names.{header_end}
use Rattle.toml_names.proofs.Proved.{above_is_above, inside_is_below}
use Rattle.toml_layout.specs.Beginnings.{begins}
use Rattle.toml_working.specs.RemoveStanding.{is_pair, is_value_at, makes, makes_beside}
use Rattle.toml_working.specs.Seeing.{heads_below}
use Rattle.toml_working.specs.Standing.{AreOrdered, Standing, covers, covers_at, holds, is_below, leads_to, lies_below, line_stands, standing_from}
use Rattle.toml_editor.proofs.Each.{each_append, each_back, each_front, each_weaker}
use Rattle.toml_editor.proofs.written.Clear.{IsUnder, same_is}
use Rattle.toml_editor.proofs.written.DocumentSections.{begins_longer}
use Rattle.toml_editor.proofs.written.Pairwise.{PairsAre, pairs_of_all}
use Rattle.toml_editor.proofs.written.Plain.{behind, next_alike}
use Rattle.toml_editor.proofs.written.StandingOrder.{begins_is}
use Rattle.toml_editor.proofs.written.TablesStay.{begins_self, fronts_above, value_below}
use Rattle.toml_editor.proofs.written.UnitsAlike.{own_alike}

-- ---- a line that neither makes a table nor holds it names nothing there

-- the tables that a key makes are below the one in which it stands
fronts_deep : (s : Address) (key : Key) → EachIs (λ m. length s < length m.address) (fronts 0 s key)
fronts_deep s [] = tt
fronts_deep s (n ∷ []) = tt
fronts_deep s (n ∷ m ∷ more) =
    let long : length (child s n) ≡ length s + 1 = length-append s (Name n ∷ []) in (
      omega (arith, long),
      each_weaker (λ (x : Named). length (child s n) < length x.address) (λ x. length s < length x.address) (λ x low. omega (arith, low, long))
          (fronts 0 (child s n) (m ∷ more)) (fronts_deep (child s n) (m ∷ more)),
    )

pub each_both : {A : Type 0} (P Q : A → Type 0) (xs : List A) → EachIs P xs → EachIs Q xs → EachIs (λ x. P x × Q x) xs
each_both P Q [] h k = tt
each_both P Q (x ∷ xs) h k = ((h.0, k.0), each_both P Q xs h.1 k.1)

pub under_trans : (a b c : Address) → IsUnder a b → IsUnder b c → IsUnder a c
under_trans a b c (r, is) (t, at) = (r ++ t, at ∙ ap (λ x. x ++ t) is ∙ append_assoc a r t)

-- where a header goes on lies below what it passes
entered_under : (xs : List Named) (at e : Address) → IsUnder at e → IsUnder at (entered xs e)
entered_under xs at e under = by (count_tables xs e == 0)
  where
    by : (b : Bool) → IsUnder at (cond b e (element e (count_tables xs e - 1)))
    by true = under
    by false = under_trans at e (element e (count_tables xs e - 1)) under (Index (count_tables xs e - 1) ∷ [], refl)

-- what a header passes lies above where its key ends
end_under : (xs : List Named) (key : Key) (at : Address) → IsUnder at (header_end xs at key)
end_under xs [] at = ([], sym (append-nil at))
end_under xs (n ∷ []) at = (Name n ∷ [], refl)
end_under xs (n ∷ m ∷ more) at =
    under_trans at (entered xs (child at n)) (header_end xs (entered xs (child at n)) (m ∷ more)) (entered_under xs at (child at n) (Name n ∷ [], refl))
    (end_under xs (m ∷ more) (entered xs (child at n)))

-- and so does what it names
pub first_under : (xs : List Named) (key : Key) (n : List ℕ) (at : Address) → IsUnder (child at n) (header_end xs at (n ∷ key))
first_under xs [] n at = ([], sym (append-nil (child at n)))
first_under xs (m ∷ key) n at =
    under_trans (child at n) (entered xs (child at n)) (header_end xs (entered xs (child at n)) (m ∷ key))
    (entered_under xs (child at n) (child at n) ([], sym (append-nil (child at n)))) (end_under xs (m ∷ key) (entered xs (child at n)))

followed_over : (line : ℕ) (xs : List Named) (end : Address → List Named) (key : Key) (at own : Address) → IsUnder (header_end xs at key) own
    → EachIs (λ m. IsUnder m.address own) (end (header_end xs at key)) → EachIs (λ m. IsUnder m.address own) (followed line xs end at key)
followed_over line xs end [] at own under ends = tt
followed_over line xs end (n ∷ []) at own under ends = ends
followed_over line xs end (n ∷ m ∷ more) at own under ends = (
  under_trans (entered xs (child at n)) (header_end xs (entered xs (child at n)) (m ∷ more)) own (end_under xs (m ∷ more) (entered xs (child at n))) under,
  followed_over line xs end (m ∷ more) (entered xs (child at n)) own under ends,
)

module _ (q : Address) where
  abbrev pub NotThere : Named → Type 0
  NotThere m = ¬ (m.address ≡ q)

  pub record IsAway (s : Standing) : Type 0 where
    pub makes_none : makes q s.base s.address ≡ false
    pub holds_none : holds q s ≡ false

  -- a pair
  pair_away : (s : Address) (key : Key) (v : Value) → (nat_lt (length s) (length q) && is_above q (below s key)) ≡ false → begins (below s key) q ≡ false
      → EachIs NotThere (fronts 0 s key ++ (value_named 0 Valued (below s key) v ∷ inside 0 (below s key) v))
  pair_away s key v no_dotted no_holder =
      each_append NotThere (fronts 0 s key) _
      (each_weaker (λ m. (length s < length m.address) × (IsAbove m.address (below s key) × (m.kind ≡ a_table))) NotThere front_away (fronts 0 s key)
      (each_both (λ m. length s < length m.address) (λ m. IsAbove m.address (below s key) × (m.kind ≡ a_table)) (fronts 0 s key) (fronts_deep s key) (fronts_above s key))) (
        (λ here. true≢false (sym (subst (λ x. begins x q ≡ true) (sym here) (begins_self q)) ∙ no_holder)),
        each_weaker (λ m. IsAbove (below s key) m.address) NotThere (λ m above here. inner_away (subst (IsAbove (below s key)) here above)) (inside 0 (below s key) v)
            (inside_is_below 0 v (below s key)),
      )
    where
      front_away : (m : Named) → (length s < length m.address) × (IsAbove m.address (below s key) × (m.kind ≡ a_table)) → NotThere m
      front_away m (low, (above, more)) here =
          let lower : nat_lt (length s) (length q) ≡ true = low_is (length s) (length q) (subst (λ x. length s < length x) here low) in
          let over : is_above q (below s key) ≡ true = (above_is_above q (below s key)).1 (subst (λ x. IsAbove x (below s key)) here above) in
          true≢false (sym (ap₂ (λ a b. a && b) lower over) ∙ no_dotted)
        where
          low_is : (x y : ℕ) → x < y → nat_lt x y ≡ true
          low_is x y h = let e : nat_lt x y ≡ true = grind (arith, nat_tests, h) in e

      inner_away : IsAbove (below s key) q → ⊥
      inner_away (t, r, is) = true≢false (sym (subst (λ x. begins (below s key) x ≡ true) (sym is) (begins_longer (below s key) (t ∷ r))) ∙ no_holder)

  header_away : (ms : List Named) (own : Address) → EachIs (λ m. IsUnder m.address own) ms → begins q own ≡ false → EachIs NotThere ms
  header_away ms own over none =
      each_weaker (λ m. IsUnder m.address own) NotThere
      (λ m under here. true≢false (sym (subst₂ (λ x y. begins x y ≡ true) here (sym under.1) (begins_longer m.address under.0)) ∙ none)) ms over

  line_away : (xs ys : List Named) → AreAlike xs ys → (e : Expr) (newline : Piece) → IsAway (line_stands xs (record { expr = e; newline = newline }))
      → EachIs NotThere (named_by ys 0 e)
  line_away xs ys alike (BlankLine b) newline away = tt
  line_away xs ys alike (KeyValLine ws pair tail) newline away =
      subst (λ s. EachIs NotThere (pair_named 0 s pair.assign pair.value)) alike.sections
      (pair_away (section xs) (key_names pair.assign.key) pair.value (first_false _ away.makes_none) away.holds_none)
    where
      first_false : (a : Bool) → (a || false) ≡ false → a ≡ false
      first_false true h = h
      first_false false h = refl
  line_away xs ys alike (TableLine ws header tail) newline away =
      let own = header_end ys [] (key_names header.key) in
      header_away (named_by ys 0 (TableLine ws header tail)) own
      (followed_over 0 ys (ends_table 0) (key_names header.key) [] own ([], sym (append-nil own)) (([], sym (append-nil own)), tt))
      (subst (λ o. heads_below q None o ≡ false) (own_alike xs ys alike (TableLine ws header tail)) away.makes_none)
  line_away xs ys alike (ArrayTableLine ws header tail) newline away =
      let at = header_end ys [] (key_names header.key) in
      let own = element at (count_tables ys at) in
      header_away (named_by ys 0 (ArrayTableLine ws header tail)) own
      (followed_over 0 ys (ends_tables 0 ys) (key_names header.key) [] own (Index (count_tables ys at) ∷ [], refl)
      ((Index (count_tables ys at) ∷ [], refl), (([], sym (append-nil own)), tt)))
      (subst (λ o. heads_below q None o ≡ false) (own_alike xs ys alike (ArrayTableLine ws header tail)) away.makes_none)

  pub lines_away : (ls : List Line) (xs ys : List Named) (n : ℕ) → AreAlike xs ys → EachIs IsAway (standing_from xs n ls) → EachIs NotThere (behind ys ls)
  lines_away [] xs ys n alike away = tt
  lines_away (l ∷ ls) xs ys n alike away =
      each_append NotThere (named_by ys 0 l.expr) (behind (ys ++ named_by ys 0 l.expr) ls) (line_away xs ys alike l.expr l.newline away.0)
      (lines_away ls (xs ++ named_by xs n l.expr) (ys ++ named_by ys 0 l.expr) (n + 1) (next_alike xs ys n l.expr alike) away.1)

-- ---- the other lines are such

abbrev AreApart : Standing → Standing → Type 0
AreApart s t = (covers s t ≡ false) × (covers t s ≡ false)

around : (front : List Standing) (s : Standing) (back : List Standing) → PairsAre AreApart (front ++ s ∷ back)
    → EachIs (AreApart s) front × EachIs (AreApart s) back
around [] s back h = (tt, h.0)
around (x ∷ front) s back h =
    let here : AreApart x s = (each_back (AreApart x) front (s ∷ back) h.0).0 in
    let rest = around front s back h.1 in
    (((here.1, here.0), rest.0), rest.1)

pub not_any : (test : Standing → Bool) (ss : List Standing) → list_any test ss ≡ false → EachIs (λ t. test t ≡ false) ss
not_any test [] h = tt
not_any test (s ∷ ss) h = by (test s) refl h (not_any test ss)
  where
    by : (b : Bool) → test s ≡ b → (b || list_any test ss) ≡ false → (list_any test ss ≡ false → EachIs (λ t. test t ≡ false) ss)
        → (test s ≡ false) × EachIs (λ t. test t ≡ false) ss
    by true is e more = absurd (true≢false e)
    by false is e more = (is, more e)

module _ (p : Address) (s : Standing) (pair : is_pair p s ≡ true) where
  covers_below : (t : Standing) → covers s t ≡ is_below p t
  covers_below t = by s.base s.address pair
    where
      by : (base : Option ℕ) (own : Option Address) → is_value_at p base own ≡ true
          → covers_at base own t ≡ is_below p t
      by None own is = cc
      by (Some n) None is = cc
      by (Some n) (Some a) is = ap (λ x. is_below x t) (same_is a p is)

  -- nor has one of them the value
  not_pair : (t : Standing) → AreApart s t → is_pair p t ≡ false
  not_pair t (one, other) = by (is_pair p t) refl
    where
      by : (b : Bool) → is_pair p t ≡ b → is_pair p t ≡ false
      by true is = absurd (true≢false (sym (value_below p t.base t.address is) ∙ sym (covers_below t) ∙ one))
      by false is = is

  pub others_apart : (front back : List Standing) → AreOrdered (front ++ s ∷ back)
      → EachIs (λ t. is_pair p t ≡ false) front × EachIs (λ t. is_pair p t ≡ false) back
  others_apart front back ordered =
      let (ahead, after) = around front s back (pairs_of_all AreApart (front ++ s ∷ back) ordered.alone) in
      (each_weaker (AreApart s) (λ t. is_pair p t ≡ false) not_pair front ahead, each_weaker (AreApart s) (λ t. is_pair p t ≡ false) not_pair back after)

module _ (p q : Address) (under : IsUnder q p) (s : Standing) (pair : is_pair p s ≡ true) where
  is_away : (t : Standing) → AreApart s t → makes_beside q p t ≡ false → IsAway q t
  is_away t (one, other) none = record {
    makes_none = by (makes q t.base t.address) refl (sym (ap (λ b. makes q t.base t.address && not b) (sym (covers_below p s pair t) ∙ one)) ∙ none);
    holds_none = held (holds q t) refl;
  }
    where
      by : (b : Bool) → makes q t.base t.address ≡ b → (makes q t.base t.address && true) ≡ false → makes q t.base t.address ≡ false
      by false is h = is
      by true is h = absurd (true≢false (ap (λ b. b && true) (sym is) ∙ h))

      begins_on : (a : Address) → begins a q ≡ true → begins a p ≡ true
      begins_on a is =
          let (r, at) : IsUnder a q = elim (begins_is a q is) [
            | inl same ↦ ([], sym same ∙ sym (append-nil a))
            | inr above ↦ (above.0 ∷ above.1, above.2)
          ] in
          let (t, on) = under_trans a q p (r, at) under in
          subst (λ x. begins a x ≡ true) (sym on) (begins_longer a t)

      covers_it : (base : Option ℕ) (own : Option Address) → leads_to q base own ≡ true
          → covers_at base own s ≡ true
      covers_it None own is = cc
      covers_it (Some n) None is = cc
      covers_it (Some n) (Some a) is = there s.base s.address pair
        where
          there : (base : Option ℕ) (own : Option Address) → is_value_at p base own ≡ true
              → lies_below a own ≡ true
          there None own e = cc
          there (Some m) None e = cc
          there (Some m) (Some b) e = subst (λ x. begins a x ≡ true) (sym (same_is b p e)) (begins_on a is)

      held : (b : Bool) → holds q t ≡ b → holds q t ≡ false
      held true is = absurd (true≢false (sym (covers_it t.base t.address is) ∙ other))
      held false is = is

  all_away : (ts : List Standing) → EachIs (AreApart s) ts → EachIs (λ t. makes_beside q p t ≡ false) ts → EachIs (IsAway q) ts
  all_away [] h k = tt
  all_away (t ∷ ts) h k = (is_away t h.0 k.0, all_away ts h.1 k.1)

  -- of lines as the table rules have them
  pub others_away : (front back : List Standing) → AreOrdered (front ++ s ∷ back) → list_any (makes_beside q p) (front ++ s ∷ back) ≡ false
      → EachIs (IsAway q) front × EachIs (IsAway q) back
  others_away front back ordered none =
      let (ahead, after) = around front s back (pairs_of_all AreApart (front ++ s ∷ back) ordered.alone) in
      let all = not_any (makes_beside q p) (front ++ s ∷ back) none in
      (all_away front ahead (each_front _ front (s ∷ back) all), all_away back after (each_back _ front (s ∷ back) all).1)
