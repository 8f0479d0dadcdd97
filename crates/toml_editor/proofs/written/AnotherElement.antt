-- Where an element of an array of tables that stands in no value is not the only one, a line that is not at it nor below it makes the array.
use Rattle.std.proofs.Common.{◌≡◌, ◌∙◌, ℕ, zero, suc, ◌+◌, Bool, true, false, ◌&&◌, Option, Some, None, IsSome, List, [], ◌∷◌, ◌++◌, length-append, refl, sym, ap, ap₂, subst, true≢false, append_assoc, arith}
use Rattle.std.specs.List.{list_any}
use Rattle.std.specs.Prelude.{not}
use Rattle.std.proofs.lemmas.List.{same_from_push}
use Rattle.toml_tree.specs.Tree.{Line}
use Rattle.toml_names.specs.declared.model.address.Step.TheVariants.{Index}
use Rattle.toml_names.specs.mentions.Mentions.{Kind, count_tables, named}
use Rattle.toml_names.specs.model.Addresses.{Address, element}
use Rattle.toml_names.specs.model.Data.{IsDataOf, Kinds}
use Rattle.toml_names.specs.reader.Names.{own_address}
use Rattle.toml_layout.specs.Beginnings.{begins}
use Rattle.toml_working.specs.declared.lines.Sought.TheVariants as sought
use Rattle.toml_working.specs.Headers.{has_below}
use Rattle.toml_working.specs.Premises.{IsInNoValue}
use Rattle.toml_working.specs.RemoveStanding.{makes_apart, makes_beside}
use Rattle.toml_working.specs.Seeing.{heads_below, is_sought_line}
use Rattle.toml_working.specs.Standing.{Standing, standing}
use Rattle.toml_editor.proofs.written.Counted.{counts_grow, own_counts}
use Rattle.toml_editor.proofs.written.DocumentSections.{line_of}
use Rattle.toml_editor.proofs.written.ElementCounted.{count_is}
use Rattle.toml_editor.proofs.written.ElementHeaded.{none_holds, some_named, unheaded_unnamed}
use Rattle.toml_editor.proofs.written.HeaderPlace.{below_is}
use Rattle.toml_editor.proofs.written.ImpliedHeaders.{any_weaker}
use Rattle.toml_editor.proofs.written.OneSection.{among_of, same_begin}
use Rattle.toml_editor.proofs.written.OnlyElement.{element_in_no_value}
use Rattle.toml_editor.proofs.written.TablesStay.{begins_under, under_begins}

-- ---- a header of one element stands beside another

module _ (q : Address) (i j : ℕ) (differ : ¬ (i ≡ j)) where
  -- what is at an element or below it is not so of another one
  not_under : (a : Address) → begins (element q j) a ≡ true → begins (element q i) a ≡ false
  not_under a under = by (begins (element q i) a) refl
    where
      by : (b : Bool) → begins (element q i) a ≡ b → begins (element q i) a ≡ false
      by false is = is
      by true is =
          let long = length-append q (Index i ∷ []) ∙ sym (length-append q (Index j ∷ [])) in
          let index_is = (same_from_push q q (Index i) (Index j) (same_begin (element q i) (element q j) a is under long)).1 in
          let index : i ≡ j = cc in
          absurd (differ index)

  beside : (base : Option ℕ) (own : Option Address) → heads_below (element q j) base own ≡ true → makes_apart q (element q i) base own ≡ true
  beside (Some n) own is = absurd (true≢false (sym is))
  beside None None is = absurd (true≢false (sym is))
  beside None (Some a) is = ap₂ (λ b c. b && not c) above (not_under a is)
    where
      above : begins q a ≡ true
      above = let (rest, at) = begins_under q (element q j) a is in under_begins q a (Index j ∷ rest, at ∙ append_assoc q (Index j ∷ []) rest)

module _ (q : Address) (lines : List Line) (kinds : Kinds) (facts : IsDataOf (named lines) kinds) (outside : IsInNoValue lines q) where
  -- a header line stands at each element, or below it
  has_header : (j : ℕ) → IsSome (kinds (element q j)) → has_below (element q j) (standing lines) ≡ true
  has_header j some = by (has_below (element q j) (standing lines)) refl
    where
      by : (b : Bool) → has_below (element q j) (standing lines) ≡ b → has_below (element q j) (standing lines) ≡ true
      by true is = is
      by false is =
          absurd (unheaded_unnamed (element q j) q j refl lines (element_in_no_value q j lines outside) is (some_named lines kinds facts (element q j) some))

  -- where there is an element, there is the first one
  first_there : (i : ℕ) → IsSome (kinds (element q i)) → ¬ (kinds (element q 0) ≡ None)
  first_there i some none =
      let among = among_of (is_sought_line sought.HeaderBelow (element q i)) (standing lines) (has_header i some) in
      let it = line_of among.front lines [] among.line among.back among.is in
      let at = below_is (element q i) among.line.base among.line.address among.holds in
      let own : own_address (named it.first) it.line.expr ≡ Some at.0 = sym (ap (λ (x : Standing). x.address) it.is) ∙ at.1 in
      let here : count_tables (named (it.first ++ it.line ∷ [])) q ≡ i + 1 =
      own_counts it.first it.line at.0 q at.2 i own (at.3 ∙ append_assoc q (Index i ∷ []) at.2) in
      let grow = counts_grow (it.first ++ it.line ∷ []) it.rest q in
      let all : count_tables (named lines) q ≡ count_tables (named ((it.first ++ it.line ∷ []) ++ it.rest)) q =
      ap (λ ls. count_tables (named ls) q) (it.lines_are ∙ sym (append_assoc it.first (it.line ∷ []) it.rest)) in
      let none_counted = count_is q lines kinds facts outside 0 none (λ j low. absurd (omega (arith, low))) in
      omega (arith, here, grow, all, none_counted)

  -- the header of another element makes the array
  other_makes : (i j : ℕ) → ¬ (i ≡ j) → ¬ (kinds (element q j) ≡ None) → list_any (makes_beside q (element q i)) (standing lines) ≡ true
  other_makes i j differ there =
      any_weaker (is_sought_line sought.HeaderBelow (element q j)) (makes_beside q (element q i)) (λ s. beside q i j differ s.base s.address) (standing lines)
      (has_header j (by (kinds (element q j)) refl))
    where
      by : (o : Option Kind) → kinds (element q j) ≡ o → IsSome (kinds (element q j))
      by None is = absurd (there is)
      by (Some k) is = subst IsSome (sym is) refl

-- Where an element of an array stands in no value and is not the only one, a line that is not at it nor below it makes the array.
pub another_stands : (q : Address) (i : ℕ) (lines : List Line) (kinds : Kinds) → IsDataOf (named lines) kinds
    → IsInNoValue lines (element q i) → IsSome (kinds (element q i)) → ((i ≡ 0) → kinds (element q 1) ≡ None → ⊥)
    → list_any (makes_beside q (element q i)) (standing lines) ≡ true
another_stands q zero lines kinds facts outside some second =
    other_makes q lines kinds facts (none_holds q (Index 0 ∷ []) (standing lines) outside) 0 1 (λ is. omega (arith, is)) (second refl)
another_stands q (suc i) lines kinds facts outside some second =
    let around = none_holds q (Index (suc i) ∷ []) (standing lines) outside in
    other_makes q lines kinds facts around (suc i) 0 (λ is. omega (arith, is)) (first_there q lines kinds facts around (suc i) some)
