-- Which row of a new table holds first.
use Rattle.std.proofs.Common.{◌≡◌, ℕ, ◌<◌, List, [], ◌∷◌, ◌++◌, Option, Some, None, IsSome, sym, ap, ◌∙◌}
use Rattle.toml_tree.specs.declared.profile.Profile.{Profile}
use Rattle.toml_names.specs.declared.model.address.Step.{Step}
use Rattle.toml_names.specs.declared.model.address.Step.TheVariants.{Name, Index}
use Rattle.toml_names.specs.model.Addresses.{Address, child, element}
use Rattle.toml_names.specs.model.Data.{Kinds}
use Rattle.toml_names.specs.mentions.Mentions.{Kind, a_table, an_array}
use Rattle.toml_edits.specs.declared.fault.EditFault.{EditFault}
use Rattle.toml_edits.specs.declared.fault.EditFault.TheVariants.{BadValue, NoSuchPlace, NotATable, IndexOutside, NotAName, AlreadyThere}
use Rattle.std.specs.Prelude.{MatchOption}
use Rattle.toml_edits.specs.Edits.{new_section, new_element}
use Rattle.toml_edits.specs.Faults.{Row, IsElementOf}
use Rattle.toml_edits.specs.Judged.{IsStepFault}
use Rattle.toml_edits.proofs.FirstRows.{Past, past, past_place, apart, part_at, here}
use Rattle.toml_edits.proofs.Found.{some_none}
use Rattle.toml_edits.proofs.LastStep.{no_root, same_last, same_parent}

-- ---- a section

module _ (profile : Profile) (at q : Address) (s : Step) (kinds : Kinds) (is : at ≡ q ++ s ∷ []) where
  abbrev Rows : EditFault → Type 0
  Rows = Row profile (new_section at) kinds

  past_value : Past Rows 3
  past_value = past Rows BadValue (λ h. h) (past_place profile (new_section at) kinds (λ e. no_root q s (sym is ∙ e)) (λ h. h))

  -- the parent is what another reading of the address has for it
  of_parent : (r : Address) (t : Step) → at ≡ r ++ t ∷ [] → kinds r ≡ kinds q
  of_parent r t e = ap kinds (sym (same_parent q r s t (sym is ∙ e)))

  of_last : (r : Address) (t : Step) → at ≡ r ++ t ∷ [] → s ≡ t
  of_last r t e = same_last q r s t (sym is ∙ e)

  past_parent : IsSome (kinds q) → Past Rows 4
  past_parent some = past Rows NoSuchPlace (λ (r, t, e, empty). some_none (kinds q) some (sym (of_parent r t e) ∙ empty)) past_value

  past_table : IsSome (kinds q) → ((n : List ℕ) → s ≡ Name n → kinds q ≡ Some a_table) → Past Rows 6
  past_table some table =
      past Rows IndexOutside (λ h. h) (past Rows NotATable (λ (r, n, e, other). other (of_parent r (Name n) e ∙ table n (of_last r (Name n) e))) (past_parent some))

  module _ (n : List ℕ) (named : s ≡ Name n) where
    free_name : IsStepFault (Name n) (part_at kinds q) None → (kinds q ≡ Some a_table) × (kinds at ≡ None)
    free_name found = (sym (here kinds q) ∙ found.0, ap kinds (is ∙ ap (λ t. q ++ t ∷ []) named) ∙ found.1)

    past_name : IsSome (kinds q) → kinds q ≡ Some a_table → Past Rows 7
    past_name some table = past Rows NotAName (λ (r, i, e). apart n i (sym named ∙ of_last r (Index i) e)) (past_table some (λ m e. table))

    past_free : IsSome (kinds q) → IsStepFault (Name n) (part_at kinds q) None → Past Rows 8
    past_free some found =
        past Rows AlreadyThere (λ (r, m, e, there). some_none (kinds at) there (free_name found).1) (past_name some (free_name found).0)

-- ---- an element

module _ (profile : Profile) (at r : Address) (n : List ℕ) (i : ℕ) (kinds : Kinds) (is : IsElementOf at r n i) where
  abbrev ElementRows : EditFault → Type 0
  ElementRows = Row profile (new_element at) kinds

  past_place_there : Past ElementRows 3
  past_place_there =
      past ElementRows BadValue (λ h. h) (past_place profile (new_element at) kinds (λ e. no_root (child r n) (Index i) (sym is ∙ e)) (λ other. other r n i is))

  of_table : (p : Address) (m : List ℕ) (j : ℕ) → IsElementOf at p m j → kinds p ≡ kinds r
  of_table p m j e = ap kinds (sym (same_parent r p (Name n) (Name m) (same_parent (child r n) (child p m) (Index i) (Index j) (sym is ∙ e))))

  past_above : IsSome (kinds r) → Past ElementRows 4
  past_above some = past ElementRows NoSuchPlace (λ (p, m, j, e, empty). some_none (kinds r) some (sym (of_table p m j e) ∙ empty)) past_place_there

-- the next index of a part is that at its address
abbrev pub IsNext : Kinds → Address → ℕ → Option Kind → Type 0
IsNext kinds q i o = MatchOption o (i ≡ 0) (λ k. (k ≡ an_array) × ((j : ℕ) → j < i → IsSome (kinds (element q j))) × (kinds (element q i) ≡ None))
