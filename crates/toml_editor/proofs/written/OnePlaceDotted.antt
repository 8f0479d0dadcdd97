-- In the section whose dotted keys make a table a new line has one place.
use Rattle.std.proofs.Common.{◌≡◌, ◌∙◌, ◌⊎◌, inl, inr, ℕ, Bool, true, false, ◌&&◌, not, cond, Option, Some, None, List, [], ◌∷◌, ◌++◌, refl, sym, ap, ap₂, subst, true≢false, append_assoc}
use Rattle.toml_tree.specs.Tree.{Expr, BlankLine, KeyValLine, TableLine, ArrayTableLine, Line}
use Rattle.toml_names.specs.mentions.Keys.{Key, key_names, part_name, rest_names}
use Rattle.toml_names.specs.mentions.Mentions.{Named, count_tables, named}
use Rattle.toml_names.specs.mentions.Rules.{KeepsRules}
use Rattle.toml_names.specs.model.Addresses.{Address, below, same_address}
use Rattle.toml_names.specs.reader.Names.{header_end, own_address}
use Rattle.toml_names.specs.declared.model.address.Step.TheVariants.{Index}
use Rattle.toml_layout.specs.declared.layout.Layout.{Layout}
use Rattle.toml_layout.specs.declared.layout.Layout.TheVariants as layouts
use Rattle.toml_units.specs.Units.{line_base}
use Rattle.toml_working.specs.DottedTables.{StandsAmong, StandsInTable, has_in_table, has_more, is_in_table}
use Rattle.toml_working.specs.FirstKeys.{spacing_put}
use Rattle.toml_working.specs.InsertStanding.{line_put}
use Rattle.toml_working.specs.Placing.{IsPair, is_header}
use Rattle.toml_working.specs.Seeing.{heads}
use Rattle.toml_working.specs.Standing.{Standing, standing}
use Rattle.toml_editor.specs.StandingLaws.{OnePlaceAmong}
use Rattle.toml_editor.proofs.written.Clear.{same_is, self}
use Rattle.toml_editor.proofs.written.Closed.{no_end}
use Rattle.toml_editor.proofs.written.DocumentSections.{document_sectioned, headers_differ, line_of}
use Rattle.toml_editor.proofs.written.HeaderNamed.{end_behind_name}
use Rattle.toml_editor.proofs.written.OneMaker.{one_key, one_maker}
use Rattle.toml_editor.proofs.written.OneSection.{AreSectioned, Heads, IsAmong, among_before, among_behind, header_within, heads_within, in_section, never_twice, one_section, over_append, over_between, pair_section, section_behind, section_over, sectioned_back, two_places}

-- ---- a header between

abbrev IsHeaderAmong : List Standing → Type 0
IsHeaderAmong = IsAmong (λ s. is_header s.base s.address ≡ true)

-- a header stands before a line below the table that is not the last one in its section
header_in_table : (q : Address) (mid : List Standing) (t : Standing) (back : List Standing) → has_in_table q (mid ++ t ∷ back) ≡ false → is_in_table q t ≡ true → IsHeaderAmong mid
header_in_table q [] t back none in_table =
    absurd (true≢false (sym (ap (λ b. cond b true (not (is_header t.base t.address) && has_in_table q back)) in_table) ∙ none))
header_in_table q (m ∷ mid) t back none in_table =
    by (is_in_table q m) refl (is_header m.base m.address) refl none (λ h. header_in_table q mid t back h in_table)
  where
    by : (a : Bool) → is_in_table q m ≡ a → (b : Bool) → is_header m.base m.address ≡ b
        → cond (is_in_table q m) true (not (is_header m.base m.address) && has_in_table q (mid ++ t ∷ back)) ≡ false
        → (has_in_table q (mid ++ t ∷ back) ≡ false → IsHeaderAmong mid) → IsHeaderAmong (m ∷ mid)
    by true is b head h more =
        absurd (true≢false (sym (ap (λ x. cond x true (not (is_header m.base m.address) && has_in_table q (mid ++ t ∷ back))) is) ∙ h))
    by false is true head h more = record { front = []; line = m; back = mid; is = refl; holds = head }
    by false is false head h more =
        among_behind (λ s. is_header s.base s.address ≡ true) (m ∷ []) mid
        (more (sym (ap₂ (λ x y. cond x true (not y && has_in_table q (mid ++ t ∷ back))) is head) ∙ h))

header_between : (layout : Layout) (q : Address) (mid : List Standing) (t : Standing) (back : List Standing) → has_more layout q (mid ++ t ∷ back) ≡ false
    → IsPair t → StandsInTable layout q t → IsHeaderAmong mid
header_between layouts.Plain q mid t back none pair in_table = header_within mid t back none pair
header_between layouts.Follow q mid t back none pair in_table = header_in_table q mid t back none in_table

-- where a header stands between, and the section behind is a table's, one of them is the header of that
header_again : (mid : List Standing) (r q : Address) → IsHeaderAmong mid → section_over r mid ≡ q → IsAmong (Heads q) mid
header_again mid r q one over =
    subst (IsAmong (Heads q)) (sym one.is)
    (among_behind (Heads q) one.front (one.line ∷ one.back)
    (by one.line.base refl one.line.address refl one.holds
    (sym (over_append one.front (one.line ∷ one.back) r) ∙ ap (section_over r) (sym one.is) ∙ over)))
  where
    by : (base : Option ℕ) → one.line.base ≡ base → (own : Option Address) → one.line.address ≡ own → is_header base own ≡ true
        → section_over (section_over r one.front) (one.line ∷ one.back) ≡ q → IsAmong (Heads q) (one.line ∷ one.back)
    by (Some n) b own o head over' = absurd (true≢false (sym head))
    by None b None o head over' = absurd (true≢false (sym head))
    by None b (Some a) o head over' =
        elim (heads_within one.back a q (ap (λ t. section_over t one.back) (sym (ap₂ (section_behind (section_over r one.front)) b o)) ∙ over')) [
          | inl e ↦ record { front = []; line = one.line; back = one.back; is = refl; holds = ap₂ (heads q) b o ∙ ap (λ x. same_address x q) e ∙ self q }
          | inr more ↦ among_behind (Heads q) (one.line ∷ []) one.back more
        ]

-- ---- no header of the root

root_unheaded : (xs : List Named) (e : Expr) → heads [] (line_base xs e) (own_address xs e) ≡ true → ⊥
root_unheaded xs (BlankLine b) is = true≢false (sym is)
root_unheaded xs (KeyValLine ws pair tail) is = true≢false (sym is)
root_unheaded xs (TableLine ws header tail) is =
    let (r, under) = end_behind_name xs (rest_names header.key.rest) [] (part_name header.key.first) in
    no_end [] _ r (sym (same_is (header_end xs [] (key_names header.key)) [] is) ∙ under)
root_unheaded xs (ArrayTableLine ws header tail) is =
    let at = header_end xs [] (key_names header.key) in
    no_end at (Index (count_tables xs at)) [] (sym (same_is (at ++ Index (count_tables xs at) ∷ []) [] is))

no_root_header : (lines : List Line) → IsAmong (Heads []) (standing lines) → ⊥
no_root_header lines one =
    let at = line_of one.front lines [] one.line one.back one.is in
    root_unheaded (named at.first) at.line.expr (ap (λ (s : Standing). heads [] s.base s.address) (sym at.is) ∙ one.holds)

-- ---- the line before the new one

-- it stands in the section, and has a key and a value
among_section : (s : Address) (front : List Standing) (l : Standing) (back : List Standing) → AreSectioned [] (front ++ l ∷ back) → StandsAmong s front l
    → (section_over [] front ≡ s) × IsPair l
among_section s front l back are (inl of_section) =
    let pair = in_section s l of_section in
    (sym (one_section s (section_over [] front) l of_section ((sectioned_back front (l ∷ back) [] are).0 pair)), pair)
among_section s front l back are (inr (pair, (before, m, between, split, of_section, none))) =
    let whole : front ++ l ∷ back ≡ before ++ m ∷ (between ++ l ∷ back) =
    ap (λ f. f ++ l ∷ back) split ∙ append_assoc before (m ∷ between) (l ∷ back) in
    let (n, is) = in_section s m of_section in
    let own = one_section s (section_over [] before) m of_section
    ((sectioned_back before (m ∷ (between ++ l ∷ back)) [] (subst (AreSectioned []) whole are)).0 (n, is)) in (
      ap (section_over []) split ∙ over_append before (m ∷ between) []
          ∙ ap (λ r. section_over r between) (pair_section (section_over [] before) m.base m.address n is) ∙ over_between between (section_over [] before) none ∙ sym own,
      pair,
    )

module _ (lines : List Line) (keeps : KeepsRules (named lines)) where
  -- a header between two lines of one section would be its second
  not_twice : (s : Address) (front : List Standing) (x : Standing) (mid : List Standing) (y : Standing) (back : List Standing)
      → standing lines ≡ front ++ x ∷ (mid ++ y ∷ back) → section_over [] front ≡ s → IsPair x → section_over [] (front ++ x ∷ mid) ≡ s → IsHeaderAmong mid → ⊥
  not_twice s front x mid y back split over_x (n, is) over_y between = by s (heads_within front [] s over_x) second
    where
      over_mid : section_over s mid ≡ s
      over_mid =
          ap (λ r. section_over r mid) (sym over_x ∙ sym (pair_section (section_over [] front) x.base x.address n is)) ∙ sym (over_append front (x ∷ mid) []) ∙ over_y

      second : IsAmong (Heads s) mid
      second = header_again mid s s between over_mid

      by : (t : Address) → ([] ≡ t) ⊎ IsAmong (Heads t) front → IsAmong (Heads t) mid → ⊥
      by [] first again =
          no_root_header lines
          (subst (IsAmong (Heads [])) (sym split) (among_behind (Heads []) front (x ∷ (mid ++ y ∷ back))
          (among_behind (Heads []) (x ∷ []) (mid ++ y ∷ back) (among_before (Heads []) mid (y ∷ back) again))))
      by (u ∷ t) (inl root) again = cc
      by (u ∷ t) (inr first) again =
          never_twice (u ∷ t) (λ e. cc) (standing lines) (document_sectioned lines) (headers_differ lines keeps) front x mid y back split
          (among_before (Heads (u ∷ t)) front (x ∷ []) first) (among_before (Heads (u ∷ t)) mid (y ∷ []) again)

  -- so of two places none is before the other
  not_before : (layout : Layout) (q s : Address) (front : List Standing) (x : Standing) (mid : List Standing) (y : Standing) (back : List Standing)
      → standing lines ≡ front ++ x ∷ (mid ++ y ∷ back) → has_more layout q (mid ++ y ∷ back) ≡ false → StandsAmong s front x
      → StandsAmong s (front ++ x ∷ mid) y → StandsInTable layout q y → ⊥
  not_before layout q s front x mid y back split none first second in_table =
      let are = document_sectioned lines in
      let regrouped : front ++ x ∷ (mid ++ y ∷ back) ≡ (front ++ x ∷ mid) ++ y ∷ back = sym (append_assoc front (x ∷ mid) (y ∷ back)) in
      let (over_x, pair_x) = among_section s front x (mid ++ y ∷ back) (subst (AreSectioned []) split are) first in
      let (over_y, pair_y) = among_section s (front ++ x ∷ mid) y back (subst (AreSectioned []) (split ∙ regrouped) are) second in
      not_twice s front x mid y back split over_x pair_x over_y (header_between layout q mid y back none pair_y in_table)

-- ---- one place

pub one_place_among : OnePlaceAmong
one_place_among q name v manner lines now new keeps h g = elim (two_places h.front g.front h.line g.line h.back g.back (sym h.was ∙ g.was)) [
  | inl (fronts, lines_are, backs) ↦ h.is ∙ same fronts lines_are backs ∙ sym g.is
  | inr (inl later) ↦
      absurd (not_before lines keeps manner.layout q h.section h.front h.line later.mid g.line g.back
      (h.was ∙ ap (λ r. h.front ++ h.line ∷ r) later.back_is) (ap (has_more manner.layout q) (sym later.back_is) ∙ h.last) h.among
      (subst (λ f. StandsAmong h.section f g.line) later.front_is (subst (λ s. StandsAmong s g.front g.line) (sym sections) g.among)) g.in_table)
  | inr (inr later) ↦
      absurd (not_before lines keeps manner.layout q g.section g.front g.line later.mid h.line h.back
      (g.was ∙ ap (λ r. g.front ++ g.line ∷ r) later.back_is) (ap (has_more manner.layout q) (sym later.back_is) ∙ g.last) g.among
      (subst (λ f. StandsAmong g.section f h.line) later.front_is (subst (λ s. StandsAmong s h.front h.line) sections h.among)) h.in_table)
]
  where
    sections : h.section ≡ g.section
    sections = one_maker lines keeps q name h.section g.section h.key g.key h.same g.same h.made g.made

    keys : h.key ≡ g.key
    keys = one_key q name g.section h.key g.key (h.same ∙ ap (λ s. below s h.key) sections) g.same

    made : Address → Key → List Standing → Standing → List Standing → List Standing
    made s key front line back = front ++ (line_put s (spacing_put manner front line) key v manner line line.outline.newline ++ back)

    same : h.front ≡ g.front → h.line ≡ g.line → h.back ≡ g.back
        → made h.section h.key h.front h.line h.back ≡ made g.section g.key g.front g.line g.back
    same a b c =
        ap₂ (λ s k. made s k h.front h.line h.back) sections keys ∙ ap (λ f. made g.section g.key f h.line h.back) a
        ∙ ap (λ l. made g.section g.key g.front l h.back) b ∙ ap (made g.section g.key g.front g.line) c
