-- The key of the header line of the next element of an array leads to the element.
use Rattle.std.proofs.Common.{◌≡◌, ◌∙◌, inl, inr, ℕ, ◌<◌, false, Some, IsSome, List, [], ◌∷◌, ◌++◌, length, refl, sym, ap, subst, append_assoc, arith}
use Rattle.std.proofs.lemmas.List.{same_from_push}
use Rattle.std.specs.List.{list_any}
use Rattle.std.proofs.lemmas.Option.{same_Some}
use Rattle.toml_tree.specs.Bare.{fresh}
use Rattle.toml_tree.specs.Tree.{Expr, ArrayTableLine, Line}
use Rattle.toml_names.specs.declared.model.address.Step.TheVariants.{Name, Index}
use Rattle.toml_names.specs.mentions.Mentions.{Named, a_table, count_tables, named}
use Rattle.toml_names.specs.mentions.Rules.{KeepsRules}
use Rattle.toml_names.specs.model.Addresses.{Address, child, element}
use Rattle.toml_names.specs.model.Data.{IsDataOf, Kinds}
use Rattle.toml_names.specs.reader.Names.{own_address}
use Rattle.toml_layout.specs.declared.tree.Brackets.TheVariants.{One, Two}
use Rattle.toml_working.specs.FreshKeys.{key_named}
use Rattle.toml_working.specs.Heading.{header_expr}
use Rattle.toml_working.specs.Removing.{no_blank}
use Rattle.toml_working.specs.Standing.{holds, is_below, standing, standing_from}
use Rattle.toml_editor.proofs.written.Counted.{AreLast}
use Rattle.toml_editor.proofs.written.ElementCounted.{count_away, count_is}
use Rattle.toml_editor.proofs.written.EmptyAlone.{not_any}
use Rattle.toml_editor.proofs.written.HeaderFacts.{HasSoMany, IsNextElement}
use Rattle.toml_editor.proofs.written.HeaderNamed.{names_of_element}
use Rattle.toml_editor.proofs.written.HeaderPut.{IsApart}
use Rattle.toml_editor.proofs.written.SectionLeads.{name_leads}

-- The key of an element's header leads to it, from where each index of the array's address is that of the last table of its array, and the array
-- has as many tables as the index says.
element_key_leads : (lines front back : List Line) (r : Address) (n : List ℕ) (i : ℕ) (ws : List ℕ) (kinds : Kinds) → lines ≡ front ++ back → KeepsRules (named lines)
    → IsDataOf (named lines) kinds → kinds r ≡ Some a_table → AreLast (named front) (child r n) → count_tables (named front) (child r n) ≡ i
    → own_address (named front) (header_expr Two (element (child r n) i) ws) ≡ Some (element (child r n) i)
element_key_leads lines front back r n i ws kinds parts keeps facts table last count =
    ap (λ ns. own_address xs (header_expr_of ns)) (names_of_element q i)
    ∙ ap (λ at. Some (element at (count_tables xs at))) (same_Some _ q leads_there) ∙ ap (λ c. Some (element q c)) count
  where
    q : Address
    q = child r n

    xs : List Named
    xs = named front

    header_expr_of : List (List ℕ) → Expr
    header_expr_of ns = ArrayTableLine (fresh ws) (record { before = fresh []; key = key_named ns; after = fresh [] }) no_blank

    in_table : AreLast xs r
    in_table a rest k is = last a (rest ++ Name n ∷ []) k (ap (λ x. child x n) is ∙ append_assoc a (Index k ∷ rest) (Name n ∷ []))

    leads_there : own_address xs (header_expr One q ws) ≡ Some q
    leads_there = name_leads lines front back r n ws kinds parts keeps facts table in_table

-- so it is of the next element, where the lines behind are apart from its array
pub apart_element : (q : Address) (i : ℕ) (front back : List Line) → list_any (is_below q) (standing_from (named front) (length front) back) ≡ false
    → IsApart Two (element q i) front back
apart_element q i front back none a j is =
    subst (λ x. list_any (is_below x) (standing_from (named front) (length front) back) ≡ false) (same_from_push q a (Index i) (Index j) is).0 none

module _ (q : Address) (i : ℕ) (lines : List Line) (kinds : Kinds) (keeps : KeepsRules (named lines)) (facts : IsDataOf (named lines) kinds)
    (next : IsNextElement q i kinds) (outside : list_any (holds q) (standing lines) ≡ false) where
  next_count : count_tables (named lines) q ≡ i
  next_count = count_is q lines kinds facts outside i next.free (elements next.next)
    where
      elements : HasSoMany kinds q i → (j : ℕ) → j < i → IsSome (kinds (element q j))
      elements (inl first) j low = absurd (let zero_is = first.1 in omega (arith, zero_is, low))
      elements (inr more) j low = more.1 j low

  -- so does that of the next element
  pub next_leads : (ws : List ℕ) (front back : List Line) → lines ≡ front ++ back → AreLast (named front) q → IsApart Two (element q i) front back
      → own_address (named front) (header_expr Two (element q i) ws) ≡ Some (element q i)
  next_leads ws front back split last apart =
      let (r, n, q_is, table) = next.table in
      subst (λ x. own_address (named front) (header_expr Two (element x i) ws) ≡ Some (element x i)) (sym q_is)
      (element_key_leads lines front back r n i ws kinds split keeps facts table (subst (AreLast (named front)) q_is last)
      (ap (count_tables (named front)) (sym q_is)
      ∙ sym (count_away q back front (not_any (is_below q) (standing_from (named front) (length front) back) (apart q i refl)))
      ∙ ap (λ ls. count_tables (named ls) q) (sym split) ∙ next_count))
