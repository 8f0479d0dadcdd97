-- What is kept by a new element of an array of tables: the table rules, the bound on addresses, the data.
use Rattle.std.proofs.Common.{◌≡◌, ◌⊎◌, inl, inr, ◌≤◌, ℕ, ◌==◌, Bool, true, false, cond, Some, None, List, [], ◌∷◌, ◌++◌, length, length-append, refl, sym, ap, ◌∙◌, subst, append-nil, arith}
use Rattle.std.specs.List.{list_any}
use Rattle.std.proofs.lemmas.Bool.Decides.{nat_tests}
use Rattle.std.proofs.lemmas.Option.{same_Some}
use Rattle.toml_tree.specs.Tree.{Line}
use Rattle.toml_tree.specs.declared.profile.Profile.{Profile}
use Rattle.toml_names.specs.declared.model.address.Step.TheVariants.{Name, Index}
use Rattle.toml_names.specs.declared.mentions.mention.Role.TheVariants.{Tables, Element}
use Rattle.toml_names.specs.mentions.Mentions.{Kind, Named, a_table, an_array, named}
use Rattle.toml_names.specs.mentions.Rules.{KeepsRules, IsShort, max_steps}
use Rattle.toml_names.specs.model.Addresses.{Address, element}
use Rattle.toml_names.specs.model.Data.{Kinds, IsDataOf}
use Rattle.toml_edits.specs.After.{AddsElement, Comes, IsAfter, Moves, an_empty_table, one_empty_table}
use Rattle.toml_edits.specs.Edits.{new_element}
use Rattle.toml_layout.specs.declared.tree.Brackets.TheVariants.{Two}
use Rattle.toml_working.specs.Headers.{names_of}
use Rattle.toml_working.specs.Standing.{holds, standing}
use Rattle.toml_editor.specs.Blocks.{element_block, ends_element}
use Rattle.toml_editor.proofs.written.Clear.{above_apart}
use Rattle.toml_editor.proofs.written.ElementNamed.{element_has_names, element_leads, element_named, element_is_put}
use Rattle.toml_editor.proofs.written.HeaderFacts.{IsNextElement}
use Rattle.toml_editor.proofs.written.HeaderKept.{AreTables, BothGo, IsHeaderBlock, absent_goes, array_goes, header_block, header_moves, header_rules, header_short}
use Rattle.toml_editor.proofs.written.HeaderNamed.{IsNamedBetween, follows, named_between}
use Rattle.toml_editor.proofs.written.HeaderPut.{IsHeaderPut}
use Rattle.toml_editor.proofs.written.Pairwise.{Has}
use Rattle.toml_editor.proofs.written.SectionLeads.{IsKindAt, fronts_are_tables}

-- the array, or the element
abbrev IsElementEnd : Address → ℕ → Named → Type 0
IsElementEnd q i m = ((m.address ≡ q) × (m.role ≡ Tables) × (m.kind ≡ an_array)) ⊎ ((m.address ≡ element q i) × (m.role ≡ Element) × (m.kind ≡ a_table))

module _ (q : Address) (i : ℕ) (style : List ℕ) (old new : List Line) (put : IsHeaderPut Two (element q i) style old new) where
  block : IsHeaderBlock (IsElementEnd q i) (ends_element i) q (named put.front) (element_block q i)
  block =
      let leads = element_leads q i style old new put in
      header_block (IsElementEnd q i) (ends_element i) (named put.front) (names_of q) q (element_block q i) (element_has_names q i style old new put) leads
      (follows (named put.front) (ends_element i) q [] leads) (inl (refl, refl, refl), (inr (refl, refl, refl), tt)) (((λ same. absurd (apart same)), tt), (tt, tt)) below
    where
      apart : ¬ (q ≡ element q i)
      apart same = above_apart q (element q i) (Index i, [], refl) (sym same)

      below : (m : Named) → IsElementEnd q i m → (rest : Address) × (m.address ≡ q ++ rest)
      below m (inl at) = ([], at.0 ∙ sym (append-nil q))
      below m (inr at) = (Index i ∷ [], at.0)

  there : IsNamedBetween (element_block q i) put.front put.back old new
  there = subst (λ ms. IsNamedBetween ms put.front put.back old new) (element_named q i style old new put) (named_between Two (element q i) style old new put)

-- what a name follows on the way to the array is a table
passes_tables : (q : Address) (i : ℕ) (lines : List Line) (kinds : Kinds) → KeepsRules (named lines) → IsDataOf (named lines) kinds → IsNextElement q i kinds
    → AreTables q kinds
passes_tables q i lines kinds keeps is next r rest n at =
    let (u, name, own, table) = next.table in
    fronts_are_tables lines kinds keeps is u name table r rest n (sym own ∙ at)

-- The table rules are kept, where the element is the next one of its array, and no line's value stands at the array or above it.
pub element_rules : (q : Address) (i : ℕ) (style : List ℕ) (old new : List Line) (kinds : Kinds) → IsHeaderPut Two (element q i) style old new
    → KeepsRules (named old) → IsDataOf (named old) kinds → IsNextElement q i kinds → list_any (holds q) (standing old) ≡ false → KeepsRules (named new)
element_rules q i style old new kinds put keeps is next alone =
    header_rules (IsElementEnd q i) (ends_element i) q (element_block q i) old new put.front put.back kinds q (block q i style old new put)
    (there q i style old new put) keeps is alone (passes_tables q i old kinds keeps is next) (λ r rest n at. (Name n ∷ rest, at)) end_goes
  where
    end_goes : (m : Named) → IsElementEnd q i m → BothGo kinds q (named put.front) m
    end_goes m (inr at) = absent_goes kinds q (named put.front) m (ap kinds at.0 ∙ next.free)
    end_goes m (inl at) = elim next.next [
      | inl none ↦ absent_goes kinds q (named put.front) m (ap kinds at.0 ∙ none.0)
      | inr array ↦ array_goes kinds q (named put.front) m at.1 at.0 array.0
    ]

-- the bound on addresses is kept, where the element's address keeps it
pub element_short : (q : Address) (i : ℕ) (style : List ℕ) (old new : List Line) → IsHeaderPut Two (element q i) style old new
    → IsShort (named old) → length (element q i) ≤ max_steps → IsShort (named new)
element_short q i style old new put is low =
    header_short (IsElementEnd q i) (ends_element i) q (named put.front) (element_block q i) old new (block q i style old new put)
    (element_is_put q i style old new put) is array_low ends_low
  where
    array_low : length q ≤ max_steps
    array_low = let long = length-append q (Index i ∷ []) in omega (arith, low, long)

    ends_low : (m : Named) → IsElementEnd q i m → length m.address ≤ max_steps
    ends_low m (inl at) = subst (λ a. length a ≤ max_steps) (sym at.0) array_low
    ends_low m (inr at) = subst (λ a. length a ≤ max_steps) (sym at.0) low

-- the new lines have the data that the edit makes of those of the old
pub element_data : (profile : Profile) (q : Address) (i : ℕ) (style : List ℕ) (old new : List Line) (kinds after : Kinds) → IsHeaderPut Two (element q i) style old new
    → KeepsRules (named old) → IsDataOf (named old) kinds → IsNextElement q i kinds → IsDataOf (named new) after
    → IsAfter profile (new_element (element q i)) kinds after
element_data profile q i style old new kinds after put keeps is next is' = (q, i, refl, elim next.next [ inl none ↦ made none.0 none.1 | inr array ↦ longer array.0 ])
  where
    moved : (base : Address) (v : Kinds) → ((m : Named) → IsElementEnd q i m → Comes Some base v kinds m.address m.kind)
        → ((r : Address) (k : Kind) → v r ≡ Some k → Has (IsKindAt (base ++ r) k) (ends_element i q)) → Moves Some base v kinds after
    moved base v comes placed =
        header_moves (IsElementEnd q i) (ends_element i) q (named put.front) (element_block q i) old new base v kinds after (block q i style old new put)
        (element_is_put q i style old new put) is is' (passes_tables q i old kinds keeps is next) comes placed

    -- the array comes with it
    made : kinds q ≡ None → i ≡ 0 → AddsElement q (element q i) (kinds q) kinds after
    made none first = subst (λ o. AddsElement q (element q i) o kinds after) (sym none) (moved q one_empty_table comes placed)
      where
        comes : (m : Named) → IsElementEnd q i m → Comes Some q one_empty_table kinds m.address m.kind
        comes m (inl at) = inr ([], at.0 ∙ sym (append-nil q), ap Some (sym at.2))
        comes m (inr at) = inr (Index 0 ∷ [], at.0 ∙ ap (element q) first, ap Some (sym at.2))

        placed : (r : Address) (k : Kind) → one_empty_table r ≡ Some k → Has (IsKindAt (q ++ r) k) (ends_element i q)
        placed [] k have = inl (sym (append-nil q), same_Some an_array k have)
        placed (Name n ∷ r) k have = absurd (let e : ⊥ = cc in e)
        placed (Index j ∷ r) k have = by (0 == j) refl r have
          where
            by : (b : Bool) → (0 == j) ≡ b → (r : Address) → cond b (an_empty_table r) None ≡ Some k → Has (IsKindAt (q ++ Index j ∷ r) k) (ends_element i q)
            by false other r h = absurd (let e : ⊥ = cc in e)
            by true same [] h =
                let index : i ≡ j = grind (arith, nat_tests, first, same) in
                inr (inl (ap (element q) index, same_Some a_table k h))
            by true same (s ∷ r) h = absurd (let e : ⊥ = cc in e)

    -- the array has one more
    longer : kinds q ≡ Some an_array → AddsElement q (element q i) (kinds q) kinds after
    longer array = subst (λ o. AddsElement q (element q i) o kinds after) (sym array) (moved (element q i) an_empty_table comes placed)
      where
        comes : (m : Named) → IsElementEnd q i m → Comes Some (element q i) an_empty_table kinds m.address m.kind
        comes m (inl at) = inl (q, array ∙ ap Some (sym at.2), ap Some (sym at.0))
        comes m (inr at) = inr ([], at.0 ∙ sym (append-nil (element q i)), ap Some (sym at.2))

        placed : (r : Address) (k : Kind) → an_empty_table r ≡ Some k → Has (IsKindAt (element q i ++ r) k) (ends_element i q)
        placed [] k have = inr (inl (sym (append-nil (element q i)), same_Some a_table k have))
        placed (s ∷ r) k have = cc
