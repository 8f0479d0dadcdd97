-- Lines in sections: below a header a new line has one place.
use Rattle.std.proofs.Common.{◌≡◌, ◌∙◌, ◌⊎◌, inl, inr, ℕ, ◌==◌, Bool, true, false, ◌||◌, Option, Some, None, List, [], ◌∷◌, ◌++◌, length, refl, sym, ap, ap₂, subst, true≢false, append_assoc, arith}
use Rattle.std.specs.List.{list_any}
use Rattle.std.proofs.lemmas.Bool.{and_parts, eqb-true}
use Rattle.toml_tree.specs.Spells.{EachIs}
use Rattle.toml_names.specs.mentions.Mentions.{root}
use Rattle.toml_names.specs.model.Addresses.{Address, same_step, same_address}
use Rattle.toml_names.proofs.Proved.{same_step-equal}
use Rattle.toml_layout.specs.Beginnings.{begins}
use Rattle.toml_working.specs.declared.lines.Sought.TheVariants as sought
use Rattle.toml_working.specs.InsertStanding.{has_pair, pair_or}
use Rattle.toml_working.specs.Placing.{IsNoHeader, IsPair, is_header}
use Rattle.toml_working.specs.Sections.{StandsBelow, is_of_section, stands_in}
use Rattle.toml_working.specs.Seeing.{heads, is_sought_line}
use Rattle.toml_working.specs.Standing.{Standing}
use Rattle.toml_editor.proofs.written.Clear.{same_is, self}

-- ---- sections

-- the table in whose section the lines behind a line stand
abbrev pub section_behind : Address → Option ℕ → Option Address → Address
section_behind q (Some n) own = q
section_behind q None None = q
section_behind q None (Some a) = a

abbrev pub section_over : Address → List Standing → Address
section_over q [] = q
section_over q (s ∷ ss) = section_over (section_behind q s.base s.address) ss

-- a line with a key and a value stands in the section of the table, and so does each one in that of the last header
abbrev pub StandsIn : Address → Standing → Type 0
StandsIn q s = IsPair s → is_of_section q s ≡ true

abbrev pub AreSectioned : Address → List Standing → Type 0
AreSectioned q [] = Unit {0}
AreSectioned q (s ∷ ss) = StandsIn q s × AreSectioned (section_behind q s.base s.address) ss

abbrev pub Heads : Address → Standing → Type 0
Heads q s = is_sought_line sought.Header q s ≡ true

pub over_append : (front back : List Standing) (q : Address) → section_over q (front ++ back) ≡ section_over (section_over q front) back
over_append [] back q = refl
over_append (s ∷ front) back q = over_append front back (section_behind q s.base s.address)

pub sectioned_back : (front back : List Standing) (q : Address) → AreSectioned q (front ++ back) → AreSectioned (section_over q front) back
sectioned_back [] back q are = are
sectioned_back (s ∷ front) back q are = sectioned_back front back (section_behind q s.base s.address) are.1

heads_section : (q r : Address) (base : Option ℕ) (own : Option Address) → heads q base own ≡ true → section_behind r base own ≡ q
heads_section q r (Some n) own h = cc
heads_section q r None None h = cc
heads_section q r None (Some a) h = same_is a q h

pub pair_section : (r : Address) (base : Option ℕ) (own : Option Address) (n : ℕ) → base ≡ Some n → section_behind r base own ≡ r
pair_section r base own n is = ap (λ b. section_behind r b own) is

bare_section : (r : Address) (base : Option ℕ) (own : Option Address) → is_header base own ≡ false → section_behind r base own ≡ r
bare_section r (Some n) own not = refl
bare_section r None None not = refl
bare_section r None (Some a) not = cc

pub over_between : (ss : List Standing) (q : Address) → EachIs IsNoHeader ss → section_over q ss ≡ q
over_between [] q none = refl
over_between (s ∷ ss) q none = ap (λ r. section_over r ss) (bare_section q s.base s.address none.0) ∙ over_between ss q none.1

-- one of some lines
pub record IsAmong (P : Standing → Type 0) (ss : List Standing) : Type 0 where
  pub front : List Standing
  pub line : Standing
  pub back : List Standing
  pub is : ss ≡ front ++ line ∷ back
  pub holds : P line

pub among_behind : (P : Standing → Type 0) (front ss : List Standing) → IsAmong P ss → IsAmong P (front ++ ss)
among_behind P front ss h = record {
  front = front ++ h.front;
  line = h.line;
  back = h.back;
  is = ap (λ r. front ++ r) h.is ∙ sym (append_assoc front h.front (h.line ∷ h.back));
  holds = h.holds;
}

pub among_before : (P : Standing → Type 0) (ss back : List Standing) → IsAmong P ss → IsAmong P (ss ++ back)
among_before P ss back h = record {
  front = h.front;
  line = h.line;
  back = h.back ++ back;
  is = ap (λ r. r ++ back) h.is ∙ append_assoc h.front (h.line ∷ h.back) back;
  holds = h.holds;
}

pub among_of : (test : Standing → Bool) (ss : List Standing) → list_any test ss ≡ true → IsAmong (λ s. test s ≡ true) ss
among_of test [] there = absurd (true≢false (sym there))
among_of test (s ∷ ss) there = by (test s) refl there (λ more. among_of test ss more)
  where
    by : (b : Bool) → test s ≡ b → (b || list_any test ss) ≡ true → (list_any test ss ≡ true → IsAmong (λ x. test x ≡ true) ss) → IsAmong (λ x. test x ≡ true) (s ∷ ss)
    by true is h more = record { front = []; line = s; back = ss; is = refl; holds = is }
    by false is h more = among_behind (λ x. test x ≡ true) (s ∷ []) ss (more h)

-- where the section is another's, its header was passed
pub heads_within : (ss : List Standing) (r q : Address) → section_over r ss ≡ q → (r ≡ q) ⊎ IsAmong (Heads q) ss
heads_within [] r q is = inl is
heads_within (s ∷ ss) r q is = by s.base refl s.address refl (heads_within ss (section_behind r s.base s.address) q is)
  where
    later : IsAmong (Heads q) ss → IsAmong (Heads q) (s ∷ ss)
    later h = among_behind (Heads q) (s ∷ []) ss h

    by : (base : Option ℕ) → s.base ≡ base → (own : Option Address) → s.address ≡ own → (section_behind r base own ≡ q) ⊎ IsAmong (Heads q) ss
        → (r ≡ q) ⊎ IsAmong (Heads q) (s ∷ ss)
    by base b own o (inr h) = inr (later h)
    by (Some n) b own o (inl e) = inl e
    by None b None o (inl e) = inl e
    by None b (Some a) o (inl e) = inr (record {
      front = [];
      line = s;
      back = ss;
      is = refl;
      holds = ap₂ (heads q) b o ∙ ap (λ x. same_address x q) e ∙ self q;
    })

-- a header stands before a line with a key and a value that is not the last one of a section
pub header_within : (mid : List Standing) (t : Standing) (back : List Standing) → has_pair (mid ++ t ∷ back) ≡ false → IsPair t
    → IsAmong (λ s. is_header s.base s.address ≡ true) mid
header_within [] t back none (n, is) = absurd (true≢false (sym (ap (λ b. pair_or b t.address (has_pair back)) is) ∙ none))
header_within (m ∷ mid) t back none pair = by m.base refl m.address refl none (λ h. header_within mid t back h pair)
  where
    by : (base : Option ℕ) → m.base ≡ base → (own : Option Address) → m.address ≡ own → pair_or base own (has_pair (mid ++ t ∷ back)) ≡ false
        → (has_pair (mid ++ t ∷ back) ≡ false → IsAmong (λ s. is_header s.base s.address ≡ true) mid)
        → IsAmong (λ s. is_header s.base s.address ≡ true) (m ∷ mid)
    by (Some n) b own o h more = cc
    by None b None o h more = among_behind (λ s. is_header s.base s.address ≡ true) (m ∷ []) mid (more h)
    by None b (Some a) o h more = record { front = []; line = m; back = mid; is = refl; holds = ap₂ is_header b o }

-- ---- a line below a header

pub same_begin : (q r a : Address) → begins q a ≡ true → begins r a ≡ true → length q ≡ length r → q ≡ r
same_begin [] [] a h k long = refl
same_begin [] (t ∷ r) a h k long = absurd (omega (arith, long))
same_begin (s ∷ q) [] a h k long = absurd (omega (arith, long))
same_begin (s ∷ q) (t ∷ r) [] h k long = absurd (true≢false (sym h))
same_begin (s ∷ q) (t ∷ r) (u ∷ a) h k long =
    let (hs, hq) = and_parts (same_step s u) (begins q a) h in
    let (ks, kr) = and_parts (same_step t u) (begins r a) k in
    ap₂ (λ x y. x ∷ y) (same_step-equal s u hs ∙ sym (same_step-equal t u ks)) (same_begin q r a hq kr (omega (arith, long)))

-- the line is that table's header, or has a key and a value
abbrev pub IsEither : Address → Standing → Type 0
IsEither q s = Heads q s ⊎ IsPair s

pub in_section : (q : Address) (s : Standing) → is_of_section q s ≡ true → IsPair s
in_section q s is = by s.base refl s.address is
  where
    by : (base : Option ℕ) → s.base ≡ base → (own : Option Address) → stands_in q base own ≡ true → IsPair s
    by None b own h = cc
    by (Some n) b own h = (n, b)

pub one_section : (q r : Address) (s : Standing) → is_of_section q s ≡ true → is_of_section r s ≡ true → q ≡ r
one_section q r s here there = by s.base s.address here there
  where
    by : (base : Option ℕ) (own : Option Address) → stands_in q base own ≡ true → stands_in r base own ≡ true → q ≡ r
    by None own h k = cc
    by (Some n) None h k = cc
    by (Some n) (Some a) h k =
        let (long, begin) = and_parts (n == length q) (begins q a) h in
        let (longer, beginning) = and_parts (n == length r) (begins r a) k in
        same_begin q r a begin beginning (sym (eqb-true n (length q) long) ∙ eqb-true n (length r) longer)

pub stands_below : (q r : Address) (front : List Standing) (s : Standing) (back : List Standing) → AreSectioned r (front ++ s ∷ back) → StandsBelow q front s
    → (section_over r (front ++ s ∷ []) ≡ q) × IsEither q s
stands_below q r front s back are (inl heads_it) = (over_append front (s ∷ []) r ∙ heads_section q (section_over r front) s.base s.address heads_it, inl heads_it)
stands_below q r front s back are (inr (inl of_section)) =
    let (n, is) = in_section q s of_section in
    let own = (sectioned_back front (s ∷ back) r are).0 (n, is) in (
      over_append front (s ∷ []) r ∙ pair_section (section_over r front) s.base s.address n is ∙ sym (one_section q (section_over r front) s of_section own),
      inr (n, is),
    )
stands_below q r front s back are (inr (inr ((n, is), (before, h, between, split, heads_it, none)))) = (
  over_append front (s ∷ []) r ∙ pair_section (section_over r front) s.base s.address n is ∙ ap (section_over r) split ∙ over_append before (h ∷ between) r
      ∙ ap (λ t. section_over t between) (heads_section q (section_over r before) h.base h.address heads_it) ∙ over_between between q none,
  inr (n, is),
)

-- no two lines are headers of one table
abbrev pub HeadersDiffer : List Standing → Type 0
HeadersDiffer ss = (q : Address) (front : List Standing) (s : Standing) (mid : List Standing) (t : Standing) (back : List Standing)
    → ss ≡ front ++ s ∷ (mid ++ t ∷ back) → Heads q s → Heads q t → ⊥

-- a line behind which no more stand in the section does not stand before another in that section
module _ (q : Address) (some : ¬ (q ≡ [])) (old : List Standing) (are : AreSectioned [] old) (differ : HeadersDiffer old) where
  again : (mid : List Standing) (t : Standing) (back : List Standing) → has_pair (mid ++ t ∷ back) ≡ false → section_over q (mid ++ t ∷ []) ≡ q → IsEither q t
      → IsAmong (Heads q) (mid ++ t ∷ [])
  again mid t back none ends (inl heads_it) = record { front = mid; line = t; back = []; is = refl; holds = heads_it }
  again mid t back none ends (inr (n, is)) =
      let g = header_within mid t back none (n, is) in
      let over : section_over (section_behind (section_over q g.front) g.line.base g.line.address) g.back ≡ q =
      sym (over_append g.front (g.line ∷ g.back) q) ∙ ap (section_over q) (sym g.is)
      ∙ sym (pair_section (section_over q mid) t.base t.address n is) ∙ sym (over_append mid (t ∷ []) q) ∙ ends in
      among_before (Heads q) mid (t ∷ []) (subst (IsAmong (Heads q)) (sym g.is) (among_behind (Heads q) g.front (g.line ∷ g.back) (last g.line g.back (section_over q g.front) g.holds over)))
    where
      last : (h : Standing) (between : List Standing) (r : Address) → is_header h.base h.address ≡ true → section_over (section_behind r h.base h.address) between ≡ q
          → IsAmong (Heads q) (h ∷ between)
      last h between r head over = by h.base refl h.address refl head over
        where
          by : (base : Option ℕ) → h.base ≡ base → (own : Option Address) → h.address ≡ own → is_header base own ≡ true
              → section_over (section_behind r base own) between ≡ q → IsAmong (Heads q) (h ∷ between)
          by (Some n) b own o k over' = cc
          by None b None o k over' = cc
          by None b (Some a) o k over' = elim (heads_within between a q over') [
            | inl e ↦ record { front = []; line = h; back = between; is = refl; holds = ap₂ (heads q) b o ∙ ap (λ x. same_address x q) e ∙ self q }
            | inr more ↦ among_behind (Heads q) (h ∷ []) between more
          ]

  pub never_twice : (front : List Standing) (x : Standing) (mid : List Standing) (y : Standing) (back : List Standing) → old ≡ front ++ x ∷ (mid ++ y ∷ back)
      → IsAmong (Heads q) (front ++ x ∷ []) → IsAmong (Heads q) (mid ++ y ∷ []) → ⊥
  never_twice front x mid y back split first second =
      differ q first.front first.line (first.back ++ second.front) second.line (second.back ++ back)
      (split ∙ sym (append_assoc front (x ∷ []) (mid ++ y ∷ back))
      ∙ ap₂ (λ u w. u ++ w) first.is (sym (append_assoc mid (y ∷ []) back) ∙ ap (λ r. r ++ back) second.is ∙ append_assoc second.front (second.line ∷ second.back) back)
      ∙ append_assoc first.front (first.line ∷ first.back) (second.front ++ second.line ∷ (second.back ++ back))
      ∙ ap (λ r. first.front ++ first.line ∷ r) (sym (append_assoc first.back second.front (second.line ∷ (second.back ++ back)))))
      first.holds second.holds

  pub not_before : (front : List Standing) (x : Standing) (mid : List Standing) (y : Standing) (back : List Standing) → old ≡ front ++ x ∷ (mid ++ y ∷ back)
      → has_pair (mid ++ y ∷ back) ≡ false → StandsBelow q front x → StandsBelow q (front ++ x ∷ mid) y → ⊥
  not_before front x mid y back split none below_x below_y =
      let regrouped : front ++ x ∷ (mid ++ y ∷ back) ≡ (front ++ x ∷ mid) ++ y ∷ back = sym (append_assoc front (x ∷ mid) (y ∷ back)) in
      let (over_x, either_x) = stands_below q [] front x (mid ++ y ∷ back) (subst (AreSectioned []) split are) below_x in
      let (over_y, either_y) = stands_below q [] (front ++ x ∷ mid) y back (subst (AreSectioned []) (split ∙ regrouped) are) below_y in
      let parts : (front ++ x ∷ mid) ++ y ∷ [] ≡ (front ++ x ∷ []) ++ (mid ++ y ∷ []) =
      append_assoc front (x ∷ mid) (y ∷ []) ∙ sym (append_assoc front (x ∷ []) (mid ++ y ∷ [])) in
      let ends : section_over q (mid ++ y ∷ []) ≡ q =
      ap (λ r. section_over r (mid ++ y ∷ [])) (sym over_x) ∙ sym (over_append (front ++ x ∷ []) (mid ++ y ∷ []) []) ∙ ap (section_over []) (sym parts) ∙ over_y in
      elim (heads_within (front ++ x ∷ []) [] q over_x) [
        | inl root ↦ some (sym root)
        | inr first ↦ never_twice front x mid y back split first (again mid y back none ends either_y)
      ]

-- ---- two places in one list

pub record IsLater (front : List Standing) (x : Standing) (back other : List Standing) (y : Standing) (rest : List Standing) : Type 0 where
  pub mid : List Standing
  pub front_is : other ≡ front ++ x ∷ mid
  pub back_is : back ≡ mid ++ y ∷ rest

pub two_places : (front other : List Standing) (x y : Standing) (back rest : List Standing) → front ++ x ∷ back ≡ other ++ y ∷ rest
    → ((front ≡ other) × (x ≡ y) × (back ≡ rest)) ⊎ (IsLater front x back other y rest ⊎ IsLater other y rest front x back)
two_places [] [] x y back rest is = let e : x ≡ y = cc in let f : back ≡ rest = cc in inl (refl, e, f)
two_places [] (o ∷ other) x y back rest is =
    let e : x ≡ o = cc in
    let f : back ≡ other ++ y ∷ rest = cc in
    inr (inl (record { mid = other; front_is = ap (λ z. z ∷ other) (sym e); back_is = f }))
two_places (f ∷ front) [] x y back rest is =
    let e : y ≡ f = cc in
    let g : rest ≡ front ++ x ∷ back = cc in
    inr (inr (record { mid = front; front_is = ap (λ z. z ∷ front) (sym e); back_is = g }))
two_places (f ∷ front) (o ∷ other) x y back rest is =
    let e : f ≡ o = cc in
    let more : front ++ x ∷ back ≡ other ++ y ∷ rest = cc in
    elim (two_places front other x y back rest more) [
      | inl same ↦ inl (ap₂ (λ a b. a ∷ b) e same.0, same.1, same.2)
      | inr (inl later) ↦ inr (inl (record { mid = later.mid; front_is = ap₂ (λ a b. a ∷ b) (sym e) later.front_is; back_is = later.back_is }))
      | inr (inr later) ↦ inr (inr (record { mid = later.mid; front_is = ap₂ (λ a b. a ∷ b) e later.front_is; back_is = later.back_is }))
    ]
