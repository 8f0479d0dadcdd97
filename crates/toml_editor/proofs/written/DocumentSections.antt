-- The lines of a document stand in the sections of their headers.
use Rattle.std.proofs.Common.{◌≡◌, ◌∙◌, ℕ, suc, ◌+◌, ◌==◌, true, ◌&&◌, Option, Some, None, List, [], ◌∷◌, ◌++◌, map, length, length-append, refl, sym, ap, ap₂, subst, append_assoc, append-nil, arith}
use Rattle.std.proofs.lemmas.Bool.Decides.{nat_tests}
use Rattle.std.proofs.lemmas.Option.{same_Some}
use Rattle.toml_tree.specs.Tree.{Expr, BlankLine, KeyValLine, TableLine, ArrayTableLine, Line}
use Rattle.toml_names.specs.declared.model.address.Step.TheVariants.{Name}
use Rattle.toml_names.specs.mentions.Keys.{key_names}
use Rattle.toml_names.specs.mentions.Mentions.{Named, named, named_by, named_from, root, section}
use Rattle.toml_names.specs.mentions.OwnAddresses.{IsHeaderLine}
use Rattle.toml_names.specs.mentions.Rules.{KeepsRules}
use Rattle.toml_names.specs.model.Addresses.{Address}
use Rattle.toml_names.specs.reader.Names.{own_address, line_address}
use Rattle.toml_names.proofs.Proved.{header_is_section, line_addresses, own_addresses_differ, same_step-self}
use Rattle.toml_units.specs.Units.{line_base}
use Rattle.toml_layout.specs.Beginnings.{begins}
use Rattle.toml_working.specs.Sections.{stands_in}
use Rattle.toml_working.specs.Seeing.{heads}
use Rattle.toml_working.specs.Standing.{Standing, line_stands, standing, standing_from}
use Rattle.toml_editor.proofs.written.Alike.{section_pair}
use Rattle.toml_editor.proofs.written.Clear.{same_is}
use Rattle.toml_editor.proofs.written.OneSection.{AreSectioned, HeadersDiffer, StandsIn, section_behind, section_over}

pub nat_self : (n : ℕ) → (n == n) ≡ true
nat_self n = let e : (n == n) ≡ true = grind (arith, nat_tests) in e

pub begins_longer : (q r : Address) → begins q (q ++ r) ≡ true
begins_longer [] r = refl
begins_longer (s ∷ q) r = ap (λ b. b && begins q (q ++ r)) (same_step-self s) ∙ begins_longer q r

named_on : (bs : List Line) (xs : List Named) (n : ℕ) (l : Line) → named_from xs n (bs ++ l ∷ []) ≡ named_from xs n bs ++ named_by (named_from xs n bs) (n + length bs) l.expr
named_on [] xs n l = ap (λ k. xs ++ named_by xs k l.expr) (let e : n ≡ n + 0 = omega arith in e)
named_on (b ∷ bs) xs n l =
    named_on bs (xs ++ named_by xs n b.expr) (n + 1) l
    ∙ ap (λ k. named_from (xs ++ named_by xs n b.expr) (n + 1) bs ++ named_by (named_from (xs ++ named_by xs n b.expr) (n + 1) bs) k l.expr)
    (let e : (n + 1) + length bs ≡ n + suc (length bs) = omega arith in e)

pub named_next : (before : List Line) (l : Line) → named (before ++ l ∷ []) ≡ named before ++ named_by (named before) (length before) l.expr
named_next before l =
    named_on before (root ∷ []) 0 l ∙ ap (λ k. named before ++ named_by (named before) k l.expr) (let e : 0 + length before ≡ length before = omega arith in e)

section_line : (before : List Line) (l : Line) → section_behind (section (named before)) (line_base (named before) l.expr) (own_address (named before) l.expr)
    ≡ section (named (before ++ l ∷ []))
section_line before l = by l.expr refl
  where
    xs : List Named
    xs = named before

    over : section (named (before ++ l ∷ [])) ≡ section (xs ++ named_by xs (length before) l.expr)
    over = ap section (named_next before l)

    header : IsHeaderLine l.expr → (a : Address) → own_address xs l.expr ≡ Some a → a ≡ section (named (before ++ l ∷ []))
    header head a own = same_Some a _ (sym own ∙ header_is_section before l head)

    by : (e : Expr) → l.expr ≡ e → section_behind (section xs) (line_base xs e) (own_address xs e) ≡ section (named (before ++ l ∷ []))
    by (BlankLine b) is = sym (over ∙ ap (λ e. section (xs ++ named_by xs (length before) e)) is ∙ ap section (append-nil xs))
    by (KeyValLine ws pair tail) is =
        sym (over ∙ ap (λ e. section (xs ++ named_by xs (length before) e)) is ∙ section_pair xs (length before) (section xs) pair.assign pair.value)
    by (TableLine ws h tail) is = header (subst IsHeaderLine (sym is) tt) _ (ap (own_address xs) is)
    by (ArrayTableLine ws h tail) is = header (subst IsHeaderLine (sym is) tt) _ (ap (own_address xs) is)

pub line_in_section : (xs : List Named) (l : Line) → StandsIn (section xs) (line_stands xs l)
line_in_section xs l (n, is) = by l.expr refl
  where
    by : (e : Expr) → l.expr ≡ e → stands_in (section xs) (line_base xs l.expr) (own_address xs l.expr) ≡ true
    by (KeyValLine ws pair tail) e =
        ap (λ x. stands_in (section xs) (line_base xs x) (own_address xs x)) e
        ∙ ap₂ (λ a b. a && b) (nat_self (length (section xs))) (begins_longer (section xs) (map Name (key_names pair.assign.key)))
    by (BlankLine b) e = none (sym (ap (line_base xs) e) ∙ is)
      where
        none : None ≡ Some n → stands_in (section xs) (line_base xs l.expr) (own_address xs l.expr) ≡ true
        none x = cc
    by (TableLine ws h tail) e = none (sym (ap (line_base xs) e) ∙ is)
      where
        none : None ≡ Some n → stands_in (section xs) (line_base xs l.expr) (own_address xs l.expr) ≡ true
        none x = cc
    by (ArrayTableLine ws h tail) e = none (sym (ap (line_base xs) e) ∙ is)
      where
        none : None ≡ Some n → stands_in (section xs) (line_base xs l.expr) (own_address xs l.expr) ≡ true
        none x = cc

sectioned_from : (ls before : List Line) → AreSectioned (section (named before)) (standing_from (named before) (length before) ls)
sectioned_from [] before = tt
sectioned_from (l ∷ ls) before =
    let more = sectioned_from ls (before ++ l ∷ []) in
    let names = named_next before l in (
      line_in_section (named before) l,
      subst (λ r. AreSectioned r (standing_from (named before ++ named_by (named before) (length before) l.expr) (length before + 1) ls)) (sym (section_line before l))
          (subst (λ k. AreSectioned (section (named (before ++ l ∷ []))) (standing_from (named before ++ named_by (named before) (length before) l.expr) k ls))
          (length-append before (l ∷ []))
          (subst (λ xs. AreSectioned (section (named (before ++ l ∷ []))) (standing_from xs (length (before ++ l ∷ [])) ls)) names more)),
    )

-- the section behind lines
over_lines : (ls before : List Line) → section_over (section (named before)) (standing_from (named before) (length before) ls) ≡ section (named (before ++ ls))
over_lines [] before = ap (λ bs. section (named bs)) (sym (append-nil before))
over_lines (l ∷ ls) before =
    ap (λ r. section_over r (standing_from (named before ++ named_by (named before) (length before) l.expr) (length before + 1) ls)) (section_line before l)
    ∙ ap₂ (λ xs k. section_over (section (named (before ++ l ∷ []))) (standing_from xs k ls)) (sym (named_next before l)) (sym (length-append before (l ∷ [])))
    ∙ over_lines ls (before ++ l ∷ []) ∙ ap (λ bs. section (named bs)) (append_assoc before (l ∷ []) ls)

pub over_is_section : (lines : List Line) → section_over [] (standing lines) ≡ section (named lines)
over_is_section lines = over_lines lines []

pub document_sectioned : (lines : List Line) → AreSectioned [] (standing lines)
document_sectioned lines = sectioned_from lines []

-- a line of the document and those before it, for one of the lines by what finds them
pub record IsLineOf (before ls : List Line) (front : List Standing) (s : Standing) (back : List Standing) : Type 0 where
  pub first : List Line
  pub line : Line
  pub rest : List Line
  pub lines_are : ls ≡ first ++ line ∷ rest
  pub is : s ≡ line_stands (named (before ++ first)) line
  pub back_is : back ≡ standing_from (named ((before ++ first) ++ line ∷ [])) (length ((before ++ first) ++ line ∷ [])) rest

line_first : (l : Line) (ls before : List Line) (s : Standing) (back : List Standing) → line_stands (named before) l ≡ s
    → standing_from (named (before ++ l ∷ [])) (length (before ++ l ∷ [])) ls ≡ back → IsLineOf before (l ∷ ls) [] s back
line_first l ls before s back here rest = record {
  first = [];
  line = l;
  rest = ls;
  lines_are = refl;
  is = sym here ∙ ap (λ bs. line_stands (named bs) l) (sym (append-nil before));
  back_is = sym rest ∙ ap (λ bs. standing_from (named (bs ++ l ∷ [])) (length (bs ++ l ∷ [])) ls) (sym (append-nil before));
}

line_later : (l : Line) (ls before : List Line) (f : Standing) (front : List Standing) (s : Standing) (back : List Standing) → IsLineOf (before ++ l ∷ []) ls front s back
    → IsLineOf before (l ∷ ls) (f ∷ front) s back
line_later l ls before f front s back more =
    let regrouped : (before ++ l ∷ []) ++ more.first ≡ before ++ l ∷ more.first = append_assoc before (l ∷ []) more.first in
    record {
      first = l ∷ more.first;
      line = more.line;
      rest = more.rest;
      lines_are = ap (λ r. l ∷ r) more.lines_are;
      is = more.is ∙ ap (λ bs. line_stands (named bs) more.line) regrouped;
      back_is = more.back_is ∙ ap (λ bs. standing_from (named (bs ++ more.line ∷ [])) (length (bs ++ more.line ∷ [])) more.rest) regrouped;
    }

pub line_of : (front : List Standing) (ls before : List Line) (s : Standing) (back : List Standing) → standing_from (named before) (length before) ls ≡ front ++ s ∷ back
    → IsLineOf before ls front s back
line_of [] [] before s back is = cc
line_of (f ∷ front) [] before s back is = cc
line_of [] (l ∷ ls) before s back is =
    let here : line_stands (named before) l ≡ s = cc in
    let rest : standing_from (named before ++ named_by (named before) (length before) l.expr) (length before + 1) ls ≡ back = cc in
    line_first l ls before s back here (ap₂ (λ xs k. standing_from xs k ls) (named_next before l) (length-append before (l ∷ [])) ∙ rest)
line_of (f ∷ front) (l ∷ ls) before s back is =
    let rest : standing_from (named before ++ named_by (named before) (length before) l.expr) (length before + 1) ls ≡ front ++ s ∷ back = cc in
    line_later l ls before f front s back
    (line_of front ls (before ++ l ∷ []) s back (ap₂ (λ xs k. standing_from xs k ls) (named_next before l) (length-append before (l ∷ [])) ∙ rest))

pub headed_at : (q : Address) (base : Option ℕ) (own : Option Address) → heads q base own ≡ true → own ≡ Some q
headed_at q (Some n) own h = cc
headed_at q None None h = cc
headed_at q None (Some a) h = ap Some (same_is a q h)

same_lines : (lines : List Line) → KeepsRules (named lines) → (q : Address) (front : List Standing) (s : Standing) (mid : List Standing) (t : Standing) (back : List Standing)
    → (one : IsLineOf [] lines front s (mid ++ t ∷ back)) → IsLineOf (one.first ++ one.line ∷ []) one.rest mid t back → s.address ≡ Some q → t.address ≡ Some q → ⊥
same_lines lines keeps q front s mid t back one two first second =
    let before = one.first ++ one.line ∷ two.first in
    let whole : lines ≡ before ++ two.line ∷ two.rest =
    one.lines_are ∙ ap (λ r. one.first ++ one.line ∷ r) two.lines_are ∙ sym (append_assoc one.first (one.line ∷ two.first) (two.line ∷ two.rest)) in
    let at_one : line_address (named lines) (length one.first) ≡ Some q =
    ap (λ ls. line_address (named ls) (length one.first)) one.lines_are ∙ line_addresses one.first one.rest one.line
    ∙ ap (λ (x : Standing). x.address) (sym one.is) ∙ first in
    let at_two : line_address (named lines) (length before) ≡ Some q =
    ap (λ ls. line_address (named ls) (length before)) whole ∙ line_addresses before two.rest two.line
    ∙ ap (λ bs. own_address (named bs) two.line.expr) (sym (append_assoc one.first (one.line ∷ []) two.first)) ∙ ap (λ (x : Standing). x.address) (sym two.is) ∙ second in
    let same : length one.first ≡ length before = own_addresses_differ lines (length one.first) (length before) q keeps at_one at_two in
    let longer : length before ≡ length one.first + length (one.line ∷ two.first) = length-append one.first (one.line ∷ two.first) in
    omega (arith, same, longer)

pub headers_differ : (lines : List Line) → KeepsRules (named lines) → HeadersDiffer (standing lines)
headers_differ lines keeps q front s mid t back split first second =
    let one = line_of front lines [] s (mid ++ t ∷ back) split in
    same_lines lines keeps q front s mid t back one (line_of mid one.rest (one.first ++ one.line ∷ []) t back (sym one.back_is))
    (headed_at q s.base s.address first) (headed_at q t.base t.address second)
