-- A table that stands in no value is the root, or lines make it: its header, a dotted key, or longer headers.
use Rattle.std.proofs.Common.{◌≡◌, ◌∙◌, ◌⊎◌, inl, inr, ℕ, Bool, true, false, ◌||◌, Option, Some, None, IsSome, List, [], ◌∷◌, ◌++◌, refl, sym, ap, ap₂, subst, true≢false, append-nil, append_assoc, arith}
use Rattle.std.specs.List.{list_any}
use Rattle.toml_tree.specs.Spells.{EachIs}
use Rattle.toml_tree.specs.Tree.{Line}
use Rattle.toml_names.specs.declared.model.address.Step.TheVariants.{Index, Name}
use Rattle.toml_names.specs.mentions.Mentions.{a_table, an_array, count_tables, named}
use Rattle.toml_names.specs.model.Addresses.{Address, same_address}
use Rattle.toml_names.specs.model.Data.{IsDataOf, Kinds}
use Rattle.toml_working.specs.declared.lines.Sought.TheVariants as sought
use Rattle.toml_working.specs.Headers.{has_below}
use Rattle.toml_working.specs.Premises.{HasTable, IsInNoValue, implies, is_child_below}
use Rattle.toml_working.specs.Seeing.{heads, heads_below, is_sought_line}
use Rattle.toml_working.specs.Standing.{Standing, holds, standing}
use Rattle.toml_editor.proofs.written.Clear.{self}
use Rattle.toml_editor.proofs.written.Counted.{counts_grow, own_counts}
use Rattle.toml_editor.proofs.written.CountedArrays.{counted_arrays}
use Rattle.toml_editor.proofs.written.DocumentSections.{line_of}
use Rattle.toml_editor.proofs.written.ElementHeaded.{away_unnamed, some_named}
use Rattle.toml_editor.proofs.written.EmptyAlone.{IsAway, not_any}
use Rattle.toml_editor.proofs.written.ImpliedHeaders.{child_there}
use Rattle.toml_editor.proofs.written.OneSection.{among_of}
use Rattle.toml_editor.proofs.written.Pairwise.{any_of_has}
use Rattle.toml_editor.proofs.written.SectionLeads.{IsKindAt}
use Rattle.toml_editor.proofs.written.TablesStay.{any_at, begins_under}

-- a header at an address or below it is that of its table, or goes on from there by a name, or by an index
headed_by : (q : Address) (base : Option ℕ) (own : Option Address) → heads_below q base own ≡ true
    → (heads q base own ≡ true) ⊎ ((implies q base own ≡ true) ⊎ ((i : ℕ) × (rest : Address) × (own ≡ Some (q ++ Index i ∷ rest))))
headed_by q (Some n) own is = absurd (true≢false (sym is))
headed_by q None None is = absurd (true≢false (sym is))
headed_by q None (Some a) is = let (rest, at) = begins_under q q a is in by rest at
  where
    by : (rest : Address) → a ≡ q ++ rest
        → (same_address a q ≡ true) ⊎ ((is_child_below q a ≡ true) ⊎ ((i : ℕ) × (rest : Address) × (Some a ≡ Some (q ++ Index i ∷ rest))))
    by [] at = inl (ap (λ x. same_address x q) (at ∙ append-nil q) ∙ self q)
    by (Name n ∷ rest) at = inr (inl (ap (is_child_below q) at ∙ child_there q rest n))
    by (Index i ∷ rest) at = inr (inr (i, rest, ap Some at))

-- lines that neither hold what stands at an address nor make a table there
all_away : (q : Address) (ss : List Standing) → EachIs (λ s. holds q s ≡ false) ss → EachIs (λ s. is_sought_line sought.Dotted q s ≡ false) ss
    → EachIs (λ s. is_sought_line sought.HeaderBelow q s ≡ false) ss → EachIs (IsAway q) ss
all_away q [] none undotted unheaded = tt
all_away q (s ∷ ss) none undotted unheaded = (
  record { makes_none = ap₂ (λ a b. a || b) undotted.0 unheaded.0; holds_none = none.0 },
  all_away q ss none.1 undotted.1 unheaded.1,
)

module _ (q : Address) (lines : List Line) (kinds : Kinds) (facts : IsDataOf (named lines) kinds) (table : kinds q ≡ Some a_table) where
  -- no header goes on from a table by an index: what it goes on from is an array of tables
  no_index : (front : List Standing) (s : Standing) (back : List Standing) → standing lines ≡ front ++ s ∷ back → (i : ℕ) (rest : Address)
      → ¬ (s.address ≡ Some (q ++ Index i ∷ rest))
  no_index front s back is i rest own =
      let it = line_of front lines [] s back is in
      let counted = own_counts it.first it.line (q ++ Index i ∷ rest) q rest i (ap (λ (x : Standing). x.address) (sym it.is) ∙ own) refl in
      let grow = counts_grow (it.first ++ it.line ∷ []) it.rest q in
      let all : count_tables (named lines) q ≡ count_tables (named ((it.first ++ it.line ∷ []) ++ it.rest)) q =
      ap (λ ls. count_tables (named ls) q) (it.lines_are ∙ sym (append_assoc it.first (it.line ∷ []) it.rest)) in
      let arrays = counted_arrays lines q (λ no. absurd (omega (arith, counted, grow, all, no))) in
      let array : kinds q ≡ Some an_array = (facts q an_array).1 (any_of_has (IsKindAt q an_array) (named lines) arrays.1) in
      let e : Some a_table ≡ Some an_array = sym table ∙ array in
      cc

  -- so where a header is at the table or below it, and none is that of the table, one implies it
  implied_by : list_any (is_sought_line sought.Header q) (standing lines) ≡ false → has_below q (standing lines) ≡ true
      → list_any (λ s. implies q s.base s.address) (standing lines) ≡ true
  implied_by unheaded below =
      let one = among_of (is_sought_line sought.HeaderBelow q) (standing lines) below in
      elim (headed_by q one.line.base one.line.address one.holds) [
        | inl header ↦ absurd (true≢false (
            sym (ap (list_any (is_sought_line sought.Header q)) one.is ∙ any_at (is_sought_line sought.Header q) one.front one.line one.back header)
            ∙ unheaded))
        | inr (inl child) ↦
            ap (list_any (λ s. implies q s.base s.address)) one.is ∙ any_at (λ s. implies q s.base s.address) one.front one.line one.back child
        | inr (inr (i, rest, own)) ↦ absurd (no_index one.front one.line one.back one.is i rest own)
      ]

  module _ (outside : IsInNoValue lines q) (some : ¬ (q ≡ [])) where
    -- where no dotted key makes it, a header is there or below
    below_there : list_any (is_sought_line sought.Dotted q) (standing lines) ≡ false → has_below q (standing lines) ≡ true
    below_there undotted = by (has_below q (standing lines)) refl
      where
        by : (b : Bool) → has_below q (standing lines) ≡ b → has_below q (standing lines) ≡ true
        by true is = is
        by false is =
            absurd (away_unnamed q (λ root. some (sym root)) lines
            (all_away q (standing lines) (not_any (holds q) (standing lines) outside) (not_any (is_sought_line sought.Dotted q) (standing lines) undotted)
            (not_any (is_sought_line sought.HeaderBelow q) (standing lines) is))
            (some_named lines kinds facts q (subst IsSome (sym table) refl)))

    made : HasTable lines q
    made = headed (list_any (is_sought_line sought.Header q) (standing lines)) refl
      where
        dotted : list_any (is_sought_line sought.Header q) (standing lines) ≡ false → (b : Bool)
            → list_any (is_sought_line sought.Dotted q) (standing lines) ≡ b → HasTable lines q
        dotted unheaded true is = inr (inl record { no_header = unheaded; dotted = is })
        dotted unheaded false is = inr (inr record { no_header = unheaded; no_dotted = is; implied = implied_by unheaded (below_there is) })

        headed : (b : Bool) → list_any (is_sought_line sought.Header q) (standing lines) ≡ b → HasTable lines q
        headed true is = inl (inr is)
        headed false is = dotted is (list_any (is_sought_line sought.Dotted q) (standing lines)) refl

-- A table that stands in no value is the root, or its header line, a line's dotted key, or longer headers make it.
pub table_there : (q : Address) (lines : List Line) (kinds : Kinds) → IsDataOf (named lines) kinds → kinds q ≡ Some a_table → IsInNoValue lines q
    → HasTable lines q
table_there [] lines kinds facts table outside = inl (inl refl)
table_there (s ∷ q) lines kinds facts table outside = made (s ∷ q) lines kinds facts table outside (λ is. cc)
