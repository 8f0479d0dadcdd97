-- Where layout `Plain` puts the header line of a section or an element without a fault.
use Rattle.std.proofs.Common.{◌≡◌, ◌⊎◌, inl, inr, ℕ, Bool, true, false, ◌||◌, Option, Some, None, List, [], ◌∷◌, ◌++◌, length, length-append, refl, sym, ap, ap₂, ◌∙◌, subst, true≢false, append-nil, append_assoc}
use Rattle.std.specs.List.{list_any}
use Rattle.toml_tree.specs.Spells.{AreLines, EachIs}
use Rattle.toml_tree.specs.Tree.{Expr, BlankLine, KeyValLine, TableLine, ArrayTableLine, Line}
use Rattle.toml_names.specs.declared.model.address.Step.TheVariants.{Index, Name}
use Rattle.toml_names.specs.mentions.Keys.{key_names}
use Rattle.toml_names.specs.mentions.Mentions.{named, named_by, section}
use Rattle.toml_names.specs.mentions.OwnAddresses.{IsHeaderLine}
use Rattle.toml_names.specs.mentions.Rules.{KeepsRules}
use Rattle.toml_names.specs.model.Addresses.{Address, below, child, element}
use Rattle.toml_names.specs.model.Data.{IsDataOf, Kinds}
use Rattle.toml_names.specs.reader.Names.{own_address}
use Rattle.toml_names.proofs.Proved.{header_is_section}
use Rattle.toml_layout.specs.Beginnings.{begins}
use Rattle.toml_layout.specs.declared.tree.Brackets.TheVariants.{One, Two}
use Rattle.toml_working.specs.declared.lines.Sought.TheVariants as sought
use Rattle.toml_working.specs.Heading.{with_header_plainly}
use Rattle.toml_working.specs.Headers.{has_below, inner_of, innermost, new_header, put_plainly}
use Rattle.toml_working.specs.Inserting.{has_pair}
use Rattle.toml_working.specs.Seeing.{is_sought_line}
use Rattle.toml_working.specs.Standing.{holds, is_below, lies_below, line_stands, standing, standing_from}
use Rattle.toml_editor.proofs.written.Alike.{section_pair}
use Rattle.toml_editor.proofs.written.Counted.{names_last}
use Rattle.toml_editor.proofs.written.DocumentSections.{named_next}
use Rattle.toml_editor.proofs.written.ElementHeaded.{element_headed, inner_is, none_holds}
use Rattle.toml_editor.proofs.written.ElementLeads.{apart_element, next_leads}
use Rattle.toml_editor.proofs.written.EmptyAlone.{not_any}
use Rattle.toml_editor.proofs.written.HeaderFacts.{IsNextElement, IsRoom}
use Rattle.toml_editor.proofs.written.HeaderPlace.{header_put_plainly}
use Rattle.toml_editor.proofs.written.HeaderPut.{IsApart}
use Rattle.toml_editor.proofs.written.HeaderThere.{StandsWithHeader}
use Rattle.toml_editor.proofs.written.SectionLeads.{name_leads}
use Rattle.toml_editor.proofs.written.TablesStay.{begins_under, under_begins}
use Rattle.toml_working.specs.Premises.{IsInNoValue}

-- names lead to no other innermost element
inner_child : (r : Address) (n : List ℕ) → innermost (child r n) ≡ innermost r
inner_child [] n = refl
inner_child (s ∷ r) n = ap (λ o. inner_of o s) (inner_child r n)

-- what does not stand at the element or below it does not stand below what it has
below_more : (e rest : Address) (own : Option Address) → lies_below e own ≡ false → lies_below (e ++ rest) own ≡ false
below_more e rest None none = refl
below_more e rest (Some a) none = by (begins (e ++ rest) a) refl
  where
    by : (b : Bool) → begins (e ++ rest) a ≡ b → begins (e ++ rest) a ≡ false
    by false is = is
    by true is =
        let (more, at) = begins_under (e ++ rest) (e ++ rest) a is in
        absurd (true≢false (sym (under_begins e a (rest ++ more, at ∙ append_assoc e rest more)) ∙ none))

module _ (e array : Address) (i : ℕ) (e_is : e ≡ element array i) (rest : Address) where
  -- a section stands neither at the element nor below it: then neither does a line in it
  pair_off : (s : Address) (names : List (List ℕ)) → begins e s ≡ false → begins e (below s names) ≡ false
  pair_off s names off = by (begins e (below s names)) refl
    where
      by : (b : Bool) → begins e (below s names) ≡ b → begins e (below s names) ≡ false
      by false is = is
      by true is =
          let (more, at) = begins_under e e (below s names) is in
          let (less, under) = names_last names s array more i (at ∙ ap (λ x. x ++ more) e_is ∙ append_assoc array (Index i ∷ []) more) in
          absurd (true≢false (sym (under_begins e s (less, under ∙ sym (append_assoc array (Index i ∷ []) less) ∙ ap (λ x. x ++ less) (sym e_is))) ∙ off))

  -- Where no header stands at the element or below it, no line does, if none of its section comes first.
  lines_off : (ls before : List Line) → (has_pair ls ≡ false) ⊎ (begins e (section (named before)) ≡ false)
      → EachIs (λ s. is_sought_line sought.HeaderBelow e s ≡ false) (standing_from (named before) (length before) ls)
      → list_any (is_below (e ++ rest)) (standing_from (named before) (length before) ls) ≡ false
  lines_off [] before or unheaded = refl
  lines_off (l ∷ ls) before or unheaded =
      let (own_off, next) = by l.expr refl or unheaded.0 in
      let on = ap₂ (λ xs n. standing_from xs n ls) (named_next before l) (length-append before (l ∷ [])) in
      ap₂ (λ a b. a || b) (below_more e rest (own_address (named before) l.expr) own_off)
      (ap (list_any (is_below (e ++ rest))) (sym on)
      ∙ lines_off ls (before ++ l ∷ []) next (subst (EachIs (λ s. is_sought_line sought.HeaderBelow e s ≡ false)) (sym on) unheaded.1))
    where
      Line_at : Expr → Line
      Line_at x = record { expr = x; newline = l.newline }

      Off : Expr → Type 0
      Off x = (lies_below e (own_address (named before) x) ≡ false) × ((has_pair ls ≡ false) ⊎ (begins e (section (named (before ++ Line_at x ∷ []))) ≡ false))

      headed : (x : Expr) → IsHeaderLine x → lies_below e (own_address (named before) x) ≡ false → Off x
      headed x is off =
          (off, inr (sym (ap (lies_below e) (header_is_section before (Line_at x) is)) ∙ off))

      over : (x : Expr) → section (named (before ++ Line_at x ∷ [])) ≡ section (named before ++ named_by (named before) (length before) x)
      over x = ap section (named_next before (Line_at x))

      by : (x : Expr) → l.expr ≡ x → (has_pair (Line_at x ∷ ls) ≡ false) ⊎ (begins e (section (named before)) ≡ false)
          → is_sought_line sought.HeaderBelow e (line_stands (named before) (Line_at x)) ≡ false → Off x
      by (BlankLine b) is (inl none) off = (refl, inl none)
      by (BlankLine b) is (inr other) off = (refl, inr (ap (begins e) (over (BlankLine b) ∙ ap section (append-nil (named before))) ∙ other))
      by (KeyValLine ws pair tail) is (inl none) off = absurd (true≢false none)
      by (KeyValLine ws pair tail) is (inr other) off = (
        pair_off (section (named before)) (key_names pair.assign.key) other,
        inr (ap (begins e) (over (KeyValLine ws pair tail) ∙ section_pair (named before) (length before) (section (named before)) pair.assign pair.value) ∙ other),
      )
      by (TableLine ws header tail) is or' off = headed (TableLine ws header tail) tt off
      by (ArrayTableLine ws header tail) is or' off = headed (ArrayTableLine ws header tail) tt off

-- ---- by layout `Plain` the header line is put in where it may stand

-- that of a section
pub section_put_plainly : (q : Address) (name style : List ℕ) (lines : List Line) (Blank : Type 0) (kinds : Kinds) → AreLines lines → KeepsRules (named lines)
    → IsDataOf (named lines) kinds → IsRoom q name kinds → IsInNoValue lines q
    → StandsWithHeader One (child q name) style lines Blank (with_header_plainly q One (child q name) style lines)
    (put_plainly (innermost q) (new_header (child q name) One []) style (standing lines))
section_put_plainly q name style lines Blank kinds forms keeps facts room outside =
    header_put_plainly One (child q name) q style lines Blank forms
    (λ front back split reached apart. name_leads lines front back q name [] kinds split keeps facts room.table reached)
    (element_headed lines q kinds keeps facts room.table outside) (λ e inner front back unkeyed unheaded. tt)

-- and that of an element
pub element_put_plainly : (q : Address) (i : ℕ) (style : List ℕ) (lines : List Line) (Blank : Type 0) (kinds : Kinds) → AreLines lines → KeepsRules (named lines)
    → IsDataOf (named lines) kinds → IsNextElement q i kinds → list_any (holds q) (standing lines) ≡ false
    → StandsWithHeader Two (element q i) style lines Blank (with_header_plainly q Two (element q i) style lines)
    (put_plainly (innermost q) (new_header (element q i) Two []) style (standing lines))
element_put_plainly q i style lines Blank kinds forms keeps facts next outside =
    header_put_plainly Two (element q i) q style lines Blank forms (next_leads q i lines kinds keeps facts next outside []) headed apart
  where
    headed : (e : Address) → innermost q ≡ Some e → has_below e (standing lines) ≡ true
    headed e inner =
        let (r, n, q_is, table) = next.table in
        element_headed lines r kinds keeps facts table
        (none_holds r (Name n ∷ []) (standing lines) (subst (λ x. list_any (holds x) (standing lines) ≡ false) q_is outside)) e
        (sym (inner_child r n) ∙ ap innermost (sym q_is) ∙ inner)

    apart : (e : Address) → innermost q ≡ Some e → (front back : List Line) → has_pair back ≡ false
        → has_below e (standing_from (named front) (length front) back) ≡ false → IsApart Two (element q i) front back
    apart e inner front back unkeyed unheaded =
        let it = inner_is q e inner in
        apart_element q i front back
        (subst (λ x. list_any (is_below x) (standing_from (named front) (length front) back) ≡ false) (sym it.front)
        (lines_off e it.array it.index it.is it.rest back front (inl unkeyed)
        (not_any (is_sought_line sought.HeaderBelow e) (standing_from (named front) (length front) back) unheaded)))
