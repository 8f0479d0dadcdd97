-- Lines in sections, of which no header is there twice and none is a dotted key's table too: those below a table stand together.
use Rattle.std.proofs.Common.{◌≡◌, ◌∙◌, ◌⊎◌, inl, inr, ℕ, ◌<◌, Bool, true, false, Option, Some, None, List, [], ◌∷◌, ◌++◌, length, refl, sym, ap, ap₂, subst, true≢false, append_assoc, append-nil, arith}
use Rattle.std.specs.Bool.{nat_lt}
use Rattle.std.specs.List.{list_any}
use Rattle.std.proofs.lemmas.Bool.{or_parts}
use Rattle.std.proofs.lemmas.Bool.Decides.{nat_tests}
use Rattle.toml_names.specs.model.Addresses.{Address, same_address}
use Rattle.toml_layout.specs.Beginnings.{begins}
use Rattle.toml_working.specs.declared.lines.Sought.TheVariants as sought
use Rattle.toml_working.specs.Headers.{begins_later, has_below}
use Rattle.toml_working.specs.Placing.{is_header}
use Rattle.toml_working.specs.RemovingTables.{HeaderIsFirst, NoneBehindLater, StandInOneSection}
use Rattle.toml_working.specs.Sections.{stands_in}
use Rattle.toml_working.specs.Seeing.{heads, is_sought_line}
use Rattle.toml_working.specs.Standing.{Standing, holds, is_below, lies_below}
use Rattle.toml_editor.proofs.written.Clear.{self}
use Rattle.toml_editor.proofs.written.HeaderSplit.{any_back}
use Rattle.toml_editor.proofs.written.HeadersAlone.{is_less}
use Rattle.toml_editor.proofs.written.ImpliedHeaders.{none_front}
use Rattle.toml_editor.proofs.written.LinesBelow.{below_has, dotted_pair, made_between, root_not_below, section_above}
use Rattle.toml_editor.proofs.written.OneSection.{AreSectioned, Heads, HeadersDiffer, IsAmong, among_before, among_behind, among_of, heads_within, over_append, same_begin, section_behind, section_over, sectioned_back}
use Rattle.toml_editor.proofs.written.TablesStay.{any_at}

-- ---- lists of lines

any_of : (test : Standing → Bool) (ss : List Standing) → IsAmong (λ s. test s ≡ true) ss → list_any test ss ≡ true
any_of test ss one = ap (list_any test) one.is ∙ any_at test one.front one.line one.back one.holds

any_first : (test : Standing → Bool) (front back : List Standing) → list_any test front ≡ true → list_any test (front ++ back) ≡ true
any_first test front back there = any_of test (front ++ back) (among_before (λ s. test s ≡ true) front back (among_of test front there))

any_last : (test : Standing → Bool) (front back : List Standing) → list_any test back ≡ true → list_any test (front ++ back) ≡ true
any_last test front back there = any_of test (front ++ back) (among_behind (λ s. test s ≡ true) front back (among_of test back there))

sectioned_front : (front back : List Standing) (q : Address) → AreSectioned q (front ++ back) → AreSectioned q front
sectioned_front [] back q are = tt
sectioned_front (s ∷ front) back q are = (are.0, sectioned_front front back (section_behind q s.base s.address) are.1)

-- what a header line has
header_own : (base : Option ℕ) (own : Option Address) → is_header base own ≡ true → (a : Address) × (base ≡ None) × (own ≡ Some a)
header_own (Some n) own is = absurd (true≢false (sym is))
header_own None None is = absurd (true≢false (sym is))
header_own None (Some a) is = (a, refl, refl)

-- no header line below the table stands before the table's own
abbrev pub NoneAhead : Address → List Standing → Type 0
NoneAhead p ss = (front : List Standing) (h : Standing) (back : List Standing) → ss ≡ front ++ h ∷ back → is_sought_line sought.Header p h ≡ true
    → has_below p front ≡ false

-- each header line below the table is the table's own
abbrev pub AreItsOwn : Address → List Standing → Type 0
AreItsOwn p ss = (front : List Standing) (s : Standing) (back : List Standing) → ss ≡ front ++ s ∷ back → is_sought_line sought.HeaderBelow p s ≡ true → Heads p s

-- ---- two header lines, and a header of what a dotted key makes

module _ (ss : List Standing) (are : AreSectioned [] ss) (differ : HeadersDiffer ss)
    (alone : (q : Address) → list_any (is_sought_line sought.Header q) ss ≡ true → list_any (is_sought_line sought.Dotted q) ss ≡ false) where
  not_twice : (q : Address) (front back : List Standing) → ss ≡ front ++ back → IsAmong (Heads q) front → IsAmong (Heads q) back → ⊥
  not_twice q front back split one two =
      differ q one.front one.line (one.back ++ two.front) two.line two.back
      (split ∙ ap₂ (λ x y. x ++ y) one.is two.is ∙ append_assoc one.front (one.line ∷ one.back) (two.front ++ two.line ∷ two.back)
      ∙ ap (λ r. one.front ++ one.line ∷ r) (sym (append_assoc one.back two.front (two.line ∷ two.back))))
      one.holds two.holds

  not_both : (q : Address) → list_any (is_sought_line sought.Header q) ss ≡ true → list_any (is_sought_line sought.Dotted q) ss ≡ true → ⊥
  not_both q header dotted = true≢false (sym dotted ∙ alone q header)

  -- a line whose dotted key makes the table has its section above the table, and makes what lies between
  module _ (p : Address) (front : List Standing) (t : Standing) (back : List Standing) (split : ss ≡ front ++ t ∷ back)
      (makes : is_sought_line sought.Dotted p t ≡ true) where
    its_section : stands_in (section_over [] front) t.base t.address ≡ true
    its_section = (sectioned_back front (t ∷ back) [] (subst (AreSectioned []) split are)).0 (dotted_pair p t.base t.address makes)

    section_begins : (begins (section_over [] front) p ≡ true) × (length (section_over [] front) < length p)
    section_begins = section_above (section_over [] front) p t.base t.address its_section makes

    unheaded_between : (v : Address) → begins v p ≡ true → length (section_over [] front) < length v → list_any (is_sought_line sought.Header v) ss ≡ true → ⊥
    unheaded_between v between longer header =
        not_both v header
        (ap (list_any (is_sought_line sought.Dotted v)) split
        ∙ any_at (is_sought_line sought.Dotted v) front t back (made_between (section_over [] front) v p t.base t.address its_section makes between longer))

  headed : (front back : List Standing) → ss ≡ front ++ back → 0 < length (section_over [] front)
      → list_any (is_sought_line sought.Header (section_over [] front)) ss ≡ true
  headed front back split long = elim (heads_within front [] (section_over [] front) refl) [
    | inl root ↦ let e : 0 ≡ length (section_over [] front) = ap length root in absurd (omega (arith, e, long))
    | inr one ↦
        let q = section_over [] front in
        ap (list_any (is_sought_line sought.Header q)) split ∙ any_of (is_sought_line sought.Header q) (front ++ back) (among_before (Heads q) front back one)
  ]

  -- two such lines have one section
  module _ (p : Address) (front : List Standing) (t : Standing) (back : List Standing) (split : ss ≡ front ++ t ∷ back)
      (makes : is_sought_line sought.Dotted p t ≡ true) (other : List Standing) (u : Standing) (rest : List Standing) (split_too : ss ≡ other ++ u ∷ rest)
      (makes_too : is_sought_line sought.Dotted p u ≡ true) where
    same_section : section_over [] front ≡ section_over [] other
    same_section = by (nat_lt (length w) (length v)) refl (nat_lt (length v) (length w)) refl
      where
        w : Address
        w = section_over [] front

        v : Address
        v = section_over [] other

        begun : (begins w p ≡ true) × (length w < length p)
        begun = section_begins p front t back split makes

        begun_too : (begins v p ≡ true) × (length v < length p)
        begun_too = section_begins p other u rest split_too makes_too

        by : (a : Bool) → nat_lt (length w) (length v) ≡ a → (b : Bool) → nat_lt (length v) (length w) ≡ b → w ≡ v
        by true less b more =
            let low = is_less (length w) (length v) less in
            let long : 0 < length v = omega (arith, low) in
            absurd (unheaded_between p front t back split makes v begun_too.0 low (headed other (u ∷ rest) split_too long))
        by false less true more =
            let low = is_less (length v) (length w) more in
            let long : 0 < length w = omega (arith, low) in
            absurd (unheaded_between p other u rest split_too makes_too w begun.0 low (headed front (t ∷ back) split long))
        by false less false more = let e : length w ≡ length v = grind (arith, nat_tests, less, more) in same_begin w v p begun.0 begun_too.0 e

  -- so no header line stands between two of them
  not_between : (p : Address) → list_any (is_sought_line sought.Header []) ss ≡ false → (front : List Standing) (h : Standing) (back : List Standing)
      → ss ≡ front ++ h ∷ back → is_header h.base h.address ≡ true → list_any (is_sought_line sought.Dotted p) front ≡ true
      → list_any (is_sought_line sought.Dotted p) back ≡ true → ⊥
  not_between p rootless front h back split head first second =
      let one = among_of (is_sought_line sought.Dotted p) front first in
      let two = among_of (is_sought_line sought.Dotted p) back second in
      let (a, base, own) = header_own h.base h.address head in
      let q = section_over [] one.front in
      let split_one : ss ≡ one.front ++ one.line ∷ (one.back ++ h ∷ back) =
      split ∙ ap (λ r. r ++ h ∷ back) one.is ∙ append_assoc one.front (one.line ∷ one.back) (h ∷ back) in
      let split_two : ss ≡ (front ++ h ∷ two.front) ++ two.line ∷ two.back =
      split ∙ ap (λ r. front ++ h ∷ r) two.is ∙ sym (append_assoc front (h ∷ two.front) (two.line ∷ two.back)) in
      let same : q ≡ section_over [] (front ++ h ∷ two.front) =
      same_section p one.front one.line (one.back ++ h ∷ back) split_one one.holds (front ++ h ∷ two.front) two.line two.back split_two two.holds in
      let over : section_over a two.front ≡ q =
      sym (same ∙ over_append front (h ∷ two.front) [] ∙ ap (λ r. section_over r two.front) (ap₂ (section_behind (section_over [] front)) base own)) in
      let behind = header_behind q h a base own two.front over in
      let in_back : IsAmong (Heads q) (h ∷ back) =
      subst (λ r. IsAmong (Heads q) (h ∷ r)) (sym two.is) (among_before (Heads q) (h ∷ two.front) (two.line ∷ two.back) behind) in
      elim (heads_within one.front [] q refl) [
        | inl root ↦
            true≢false (sym (any_of (is_sought_line sought.Header []) ss
            (subst (λ x. IsAmong (Heads x) ss) (sym root) (subst (IsAmong (Heads q)) (sym split) (among_behind (Heads q) front (h ∷ back) in_back))))
            ∙ rootless)
        | inr header ↦
            not_twice q front (h ∷ back) split
            (subst (IsAmong (Heads q)) (sym one.is) (among_before (Heads q) one.front (one.line ∷ one.back) header)) in_back
      ]
    where
      header_behind : (q : Address) (h : Standing) (a : Address) → h.base ≡ None → h.address ≡ Some a → (ts : List Standing) → section_over a ts ≡ q
          → IsAmong (Heads q) (h ∷ ts)
      header_behind q h a base own ts over = elim (heads_within ts a q over) [
        | inl same ↦ record {
          front = [];
          line = h;
          back = ts;
          is = refl;
          holds = ap₂ (heads q) base own ∙ ap (λ x. same_address x q) same ∙ self q;
        }
        | inr more ↦ among_behind (Heads q) (h ∷ []) ts more
      ]

  -- ---- the lines below a table

  module _ (p : Address) (some : ¬ (p ≡ [])) (out : list_any (holds p) ss ≡ false) where
    in_front : (front back : List Standing) → ss ≡ front ++ back → list_any (is_below p) front ≡ true
        → (has_below p front ≡ true) ⊎ (list_any (is_sought_line sought.Dotted p) front ≡ true)
    in_front front back split there =
        below_has p front [] (root_not_below p some) (sectioned_front front back [] (subst (AreSectioned []) split are))
        (none_front (holds p) front back (ap (list_any (holds p)) (sym split) ∙ out)) there

    in_back : (front : List Standing) (h : Standing) (back : List Standing) → ss ≡ front ++ h ∷ back → (a : Address) → h.base ≡ None → h.address ≡ Some a
        → begins p a ≡ false → list_any (is_below p) back ≡ true → (has_below p back ≡ true) ⊎ (list_any (is_sought_line sought.Dotted p) back ≡ true)
    in_back front h back split a base own away there =
        below_has p back a away
        (subst (λ r. AreSectioned r back) (ap₂ (section_behind (section_over [] front)) base own)
        (sectioned_back front (h ∷ back) [] (subst (AreSectioned []) split are)).1)
        (or_parts (holds p h) (list_any (holds p) back) (any_back (holds p) front (h ∷ back) (ap (list_any (holds p)) (sym split) ∙ out))).1 there

    pub header_first : NoneAhead p ss → HeaderIsFirst p ss
    header_first ahead front h back split heads_it = by (list_any (is_below p) front) refl
      where
        by : (b : Bool) → list_any (is_below p) front ≡ b → b ≡ false
        by false is = refl
        by true is = absurd (elim (in_front front (h ∷ back) split is) [
          | inl headers ↦ true≢false (sym headers ∙ ahead front h back split heads_it)
          | inr dotted ↦
              not_both p (ap (list_any (is_sought_line sought.Header p)) split ∙ any_at (is_sought_line sought.Header p) front h back heads_it)
              (ap (list_any (is_sought_line sought.Dotted p)) split ∙ any_first (is_sought_line sought.Dotted p) front (h ∷ back) dotted)
        ])

    -- of an element, which no dotted key makes
    pub none_later : ((front : List Standing) (h : Standing) (back : List Standing) → ss ≡ front ++ h ∷ back → begins_later p h.base h.address ≡ true
        → (has_below p back ≡ false) × (a : Address) × (h.base ≡ None) × (h.address ≡ Some a) × (begins p a ≡ false))
        → list_any (is_sought_line sought.Dotted p) ss ≡ false → NoneBehindLater p ss
    none_later last unmade front h back split later = by (list_any (is_below p) back) refl (last front h back split later)
      where
        by : (b : Bool) → list_any (is_below p) back ≡ b → (has_below p back ≡ false) × (a : Address) × (h.base ≡ None) × (h.address ≡ Some a) × (begins p a ≡ false)
            → b ≡ false
        by false is it = refl
        by true is (none, a, base, own, away) = absurd (elim (in_back front h back split a base own away is) [
          | inl headers ↦ true≢false (sym headers ∙ none)
          | inr dotted ↦
              true≢false (sym (ap (list_any (is_sought_line sought.Dotted p)) split
              ∙ any_last (is_sought_line sought.Dotted p) front (h ∷ back)
              (any_last (is_sought_line sought.Dotted p) (h ∷ []) back dotted)) ∙ unmade)
        ])

    -- ---- a table in which none stands

    module _ (its : AreItsOwn p ss) where
      own_among : (front ts back : List Standing) → ss ≡ front ++ (ts ++ back) → has_below p ts ≡ true → IsAmong (Heads p) ts
      own_among front ts back split there =
          let one = among_of (is_sought_line sought.HeaderBelow p) ts there in
          record {
            front = one.front;
            line = one.line;
            back = one.back;
            is = one.is;
            holds =
                its (front ++ one.front) one.line (one.back ++ back)
                (split ∙ ap (λ r. front ++ (r ++ back)) one.is ∙ ap (λ r. front ++ r) (append_assoc one.front (one.line ∷ one.back) back)
                ∙ sym (append_assoc front one.front (one.line ∷ (one.back ++ back))))
                one.holds;
          }

      pub flat_ahead : NoneAhead p ss
      flat_ahead front h back split heads_it = by (has_below p front) refl
        where
          by : (b : Bool) → has_below p front ≡ b → b ≡ false
          by false is = refl
          by true is =
              absurd (not_twice p front (h ∷ back) split (own_among [] front (h ∷ back) split is)
              (record { front = []; line = h; back = back; is = refl; holds = heads_it }))

      pub flat_section : list_any (is_sought_line sought.Header []) ss ≡ false → StandInOneSection p ss
      flat_section rootless front h back split there head apart = by (list_any (is_below p) back) refl
        where
          header_in : (ts : List Standing) → IsAmong (Heads p) ts → list_any (is_sought_line sought.Header p) ts ≡ true
          header_in ts one = any_of (is_sought_line sought.Header p) ts one

          front_has : (what : Standing → Bool) → list_any what front ≡ true → list_any what ss ≡ true
          front_has what is = ap (list_any what) split ∙ any_first what front (h ∷ back) is

          back_has : (what : Standing → Bool) → list_any what back ≡ true → list_any what ss ≡ true
          back_has what is = ap (list_any what) split ∙ any_last what front (h ∷ back) (any_last what (h ∷ []) back is)

          heads_front : has_below p front ≡ true → IsAmong (Heads p) front
          heads_front is = own_among [] front (h ∷ back) split is

          heads_back : has_below p back ≡ true → IsAmong (Heads p) back
          heads_back is =
              own_among (front ++ h ∷ []) back []
              (split ∙ sym (append_assoc front (h ∷ []) back) ∙ ap (λ r. (front ++ h ∷ []) ++ r) (sym (append-nil back))) is

          both : (has_below p front ≡ true) ⊎ (list_any (is_sought_line sought.Dotted p) front ≡ true)
              → (has_below p back ≡ true) ⊎ (list_any (is_sought_line sought.Dotted p) back ≡ true) → ⊥
          both (inl x) (inl y) = not_twice p front (h ∷ back) split (heads_front x) (among_behind (Heads p) (h ∷ []) back (heads_back y))
          both (inl x) (inr y) = not_both p (front_has (is_sought_line sought.Header p) (header_in front (heads_front x))) (back_has (is_sought_line sought.Dotted p) y)
          both (inr x) (inl y) = not_both p (back_has (is_sought_line sought.Header p) (header_in back (heads_back y))) (front_has (is_sought_line sought.Dotted p) x)
          both (inr x) (inr y) = not_between p rootless front h back split head x y

          by : (b : Bool) → list_any (is_below p) back ≡ b → b ≡ false
          by false is = refl
          by true is =
              let (a, base, own) = header_own h.base h.address head in
              absurd (both (in_front front (h ∷ back) split there) (in_back front h back split a base own (ap (lies_below p) (sym own) ∙ apart) is))
