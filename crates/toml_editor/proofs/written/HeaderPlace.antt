-- Where layout `Plain` puts a new header line: it may stand there, and what then stands on the lines is what is put there.
use Rattle.std.proofs.Common.{◌≡◌, inl, inr, ℕ, true, false, Option, Some, None, List, [], ◌∷◌, ◌++◌, length, refl, sym, ap, ◌∙◌, subst, true≢false, append-nil, append_assoc}
use Rattle.toml_tree.specs.Spells.{AreLines}
use Rattle.toml_tree.specs.Tree.{Expr, BlankLine, KeyValLine, TableLine, ArrayTableLine, Line}
use Rattle.toml_names.specs.declared.model.address.Step.TheVariants.{Index}
use Rattle.toml_names.specs.mentions.Mentions.{Named, count_tables, named, root}
use Rattle.toml_names.specs.model.Addresses.{Address}
use Rattle.toml_names.specs.reader.Names.{own_address}
use Rattle.toml_units.specs.Units.{line_base}
use Rattle.toml_layout.specs.declared.tree.Brackets.{Brackets}
use Rattle.toml_working.specs.Heading.{Shown, header_expr, header_line, with_header_plainly, line_at_end, line_before_next, line_put_plainly, or_line_at_end, shown}
use Rattle.toml_working.specs.Headers.{before_next, has_below, innermost, new_header, or_at_text_end, put_at_text_end, put_plainly}
use Rattle.toml_working.specs.Inserting.{has_pair}
use Rattle.toml_working.specs.Placing.{is_header}
use Rattle.toml_working.specs.Seeing.{heads_below}
use Rattle.toml_working.specs.Standing.{Standing, lies_below, line_stands, standing, standing_from}
use Rattle.toml_editor.proofs.written.Counted.{AreLast}
use Rattle.toml_editor.proofs.written.HeaderPut.{IsApart}
use Rattle.toml_editor.proofs.written.HeaderSplit.{LastBelow, NextHeader, lines_of, next_header}
use Rattle.toml_editor.proofs.written.HeaderStood.{counted_behind, index_in, parts, shown_lines, shown_stands}
use Rattle.toml_editor.proofs.written.HeaderThere.{StandsWithHeader, stands_at_end, stands_as, stands_before}
use Rattle.toml_editor.proofs.written.TablesStay.{begins_under}

-- ---- lines by what stands on them

-- no key comes before the next header, where that comes first
header_unkeyed : (xs : List Named) (l : Line) (ls : List Line) → is_header (line_base xs l.expr) (own_address xs l.expr) ≡ true → has_pair (l ∷ ls) ≡ false
header_unkeyed xs l ls is = by l.expr is
  where
    by : (e : Expr) → is_header (line_base xs e) (own_address xs e) ≡ true
        → elim e [ BlankLine b ↦ has_pair ls | KeyValLine ws pair tail ↦ true | TableLine ws header tail ↦ false | ArrayTableLine ws header tail ↦ false ] ≡ false
    by (BlankLine b) h = absurd (true≢false (sym h))
    by (KeyValLine ws pair tail) h = absurd (true≢false (sym h))
    by (TableLine ws header tail) h = refl
    by (ArrayTableLine ws header tail) h = refl

-- the address of a line at the other or below it, and of a header line there
pub lies_is : (e : Address) (own : Option Address) → lies_below e own ≡ true → (a : Address) × (own ≡ Some a) × (rest : Address) × (a ≡ e ++ rest)
lies_is e None is = absurd (true≢false (sym is))
lies_is e (Some a) is = let (rest, at) = begins_under e e a is in (a, refl, rest, at)

pub below_is : (e : Address) (base : Option ℕ) (own : Option Address) → heads_below e base own ≡ true
    → (a : Address) × (own ≡ Some a) × (rest : Address) × (a ≡ e ++ rest)
below_is e (Some n) own is = absurd (true≢false (sym is))
below_is e None own is = lies_is e own is

module _ (brackets : Brackets) (p q : Address) (style : List ℕ) (lines : List Line) (Blank : Type 0) where
  abbrev h : List ℕ → Line
  h = header_line brackets p []

  abbrev new : List ℕ → Standing
  new = new_header p brackets []

  -- the arrays of tables on which `q` lies have so many tables in front as it says
  abbrev IsReached : List Line → Type 0
  IsReached front = AreLast (named front) q

  -- behind the last header line of the innermost element
  reached_behind : (e : Address) → innermost q ≡ Some e → (front back : List Shown) → shown lines ≡ front ++ back → LastBelow e front → IsReached (lines_of front)
  reached_behind e inner front back was last r rest i is =
      let (f, inner', more, split) = index_in r rest i in
      let same : f ≡ e = (let x : ◌≡◌ {A = Option Address} (Some f) (Some e) = sym inner' ∙ ap innermost (sym is) ∙ inner in cc) in
      let whole : shown lines ≡ last.before ++ last.line ∷ (last.between ++ back) =
      was ∙ ap (λ x. x ++ back) last.is ∙ append_assoc last.before (last.line ∷ last.between) back in
      let (a, own, rest', below) = below_is e last.line.1.base last.line.1.address last.below in
      let at : a ≡ r ++ Index i ∷ (more ++ rest') =
      below ∙ ap (λ x. x ++ rest') (sym same ∙ split) ∙ append_assoc r (Index i ∷ more) rest' in
      ap (λ xs. count_tables (named (lines_of xs)) r) last.is
      ∙ counted_behind lines last.before last.line last.between back whole last.headless a r (more ++ rest') i own at

  -- The key leads to the address from where these arrays are so reached. A header line stands at the innermost element or below
  -- it. An element is apart from lines that have neither a key before their first header nor a header at the innermost element or below it.
  module _ (forms : AreLines lines)
      (leads : (front back : List Line) → lines ≡ front ++ back → IsReached front → IsApart brackets p front back
      → own_address (named front) (header_expr brackets p []) ≡ Some p)
      (headed : (e : Address) → innermost q ≡ Some e → has_below e (standing lines) ≡ true)
      (apart : (e : Address) → innermost q ≡ Some e → (front back : List Line) → has_pair back ≡ false
      → has_below e (standing_from (named front) (length front) back) ≡ false → IsApart brackets p front back) where
    -- before the next header line behind those of the element
    next_put : (e : Address) → innermost q ≡ Some e → (it : NextHeader (h style) (new style) e (shown lines))
        → StandsWithHeader brackets p style lines Blank (or_line_at_end h style lines (line_before_next e (h style) (shown lines)))
        (or_at_text_end new style (standing lines) (before_next e (new style) (standing lines)))
    next_put e inner it =
        let parted = it.parted in
        let front = lines_of parted.front in
        let back = lines_of (parted.head ∷ parted.rest) in
        let are = parts parted.front (parted.head ∷ parted.rest) lines [] parted.was in
        let here : line_stands (named front) parted.head.0 ≡ parted.head.1 = (let x = are.back_stands in cc) in
        let unkeyed : has_pair back ≡ false =
        header_unkeyed (named front) parted.head.0 (lines_of parted.rest) (ap (λ (s : Standing). is_header s.base s.address) here ∙ parted.heads) in
        let alone = apart e inner front back unkeyed (ap (has_below e) are.back_stands ∙ it.behind) in
        stands_before brackets p style lines Blank [] (λ are'. tt) parted.front (parted.head ∷ parted.rest) parted.was (λ none. cc) unkeyed alone
        (leads front back are.lines (reached_behind e inner parted.front (parted.head ∷ parted.rest) parted.was it.last) alone) _ _
        (ap (or_line_at_end h style lines) parted.lines)
        (ap (or_at_text_end new style (standing lines)) (ap (before_next e (new style)) (sym (shown_stands lines (root ∷ []) 0)) ∙ parted.stands))

    pub header_put_plainly : StandsWithHeader brackets p style lines Blank (with_header_plainly q brackets p style lines) (put_plainly (innermost q) new style (standing lines))
    header_put_plainly = by (innermost q) refl
      where
        end : IsReached lines → StandsWithHeader brackets p style lines Blank (line_at_end h style lines) (put_at_text_end new style (standing lines))
        end = stands_at_end brackets p style lines Blank [] (λ are. tt) q forms leads

        by : (o : Option Address) → innermost q ≡ o
            → StandsWithHeader brackets p style lines Blank (with_header_plainly q brackets p style lines) (put_plainly (innermost q) new style (standing lines))
        by None inner =
            stands_as brackets p style lines Blank _ _ _ _ (ap (λ o. line_put_plainly o h style lines) inner) (ap (λ o. put_plainly o new style (standing lines)) inner)
            (end (λ r rest i is. let (e, some', more, split) = index_in r rest i in
            let x : ◌≡◌ {A = Option Address} None (Some e) = sym inner ∙ ap innermost is ∙ some' in cc))
        by (Some e) inner =
            stands_as brackets p style lines Blank _ _ _ _ (ap (λ o. line_put_plainly o h style lines) inner) (ap (λ o. put_plainly o new style (standing lines)) inner)
            (elim (next_header (h style) (new style) e (shown lines)) [
              | inl none ↦
                  stands_as brackets p style lines Blank _ _ _ _ (ap (or_line_at_end h style lines) none.put)
                  (ap (or_at_text_end new style (standing lines)) (ap (before_next e (new style)) (sym (shown_stands lines (root ∷ []) 0)) ∙ none.stand))
                  (end (subst IsReached (shown_lines lines (root ∷ []) 0)
                  (reached_behind e inner (shown lines) [] (sym (append-nil (shown lines)))
                  (none.last (ap (has_below e) (shown_stands lines (root ∷ []) 0) ∙ headed e inner)))))
              | inr it ↦ next_put e inner it
            ])
