-- An edit without a fault is plain, makes one change, or is refused.
use Rattle.std.proofs.Common.{◌≡◌, ◌∙◌, ◌⊎◌, inl, inr, ℕ, Bool, true, false, Option, Some, None, IsSome, List, [], ◌∷◌, ◌++◌, refl, sym, ap, subst, true≢false, append-nil}
use Rattle.std.proofs.lemmas.Bool.{or_cases, or_parts}
use Rattle.std.proofs.lemmas.List.{same_from_push}
use Rattle.std.specs.List.{list_any}
use Rattle.toml_tree.specs.Profiles.{SpellsIn}
use Rattle.toml_tree.specs.Tree.{Doc, Line}
use Rattle.toml_tree.specs.declared.profile.Profile.{Profile}
use Rattle.toml_tree.proofs.Proved.{one_tree}
use Rattle.toml_names.specs.declared.model.address.Step.{Step}
use Rattle.toml_names.specs.declared.model.address.Step.TheVariants.{Index, Name}
use Rattle.toml_names.specs.mentions.Mentions.{Kind, Named, a_scalar, a_table, an_array, named}
use Rattle.toml_names.specs.mentions.Joining.{is_lone}
use Rattle.toml_names.specs.model.Addresses.{Address, child, element, same_address}
use Rattle.toml_names.specs.model.Data.{Kinds}
use Rattle.toml_names.proofs.Proved.{same_address-decides}
use Rattle.toml_edits.specs.declared.fault.EditFault.TheVariants.{NotAName, NotAnElement, NotATable, RootNamed}
use Rattle.toml_edits.specs.Edits as edits
use Rattle.toml_edits.specs.Edits.{Change}
use Rattle.toml_edits.specs.Faults.{IsFault}
use Rattle.toml_working.specs.Premises.{HasValue, IsInNoValue}
use Rattle.toml_working.specs.RemoveStanding.{is_pair, is_value_at}
use Rattle.toml_working.specs.Standing.{Standing, holds, leads_to, standing}
use Rattle.toml_editor.specs.EachEdit.{EachEditIsTold}
use Rattle.toml_editor.specs.LastTexts.{HasContainerAt, IsOneChange}
use Rattle.toml_editor.specs.PlainTexts.{IsRefusedIn}
use Rattle.toml_editor.specs.Steps.{IsGoodText, IsPlain}
use Rattle.toml_editor.proofs.written.Closed.{no_end}
use Rattle.toml_editor.proofs.written.Counted.{last_or_earlier}
use Rattle.toml_editor.proofs.written.Fitting.{last_step}
use Rattle.toml_editor.proofs.written.HeldArrays.{index_held}
use Rattle.toml_editor.proofs.written.HeldTables.{name_held, table_held}
use Rattle.toml_editor.proofs.written.OnlyElement.{element_in_no_value}
use Rattle.toml_editor.proofs.written.Pairwise.{Has, any_of_has, has_of_any, has_weaker, taken}
use Rattle.toml_editor.proofs.written.ScalarsLone.{is_there}
use Rattle.toml_editor.proofs.written.StandingHas.{or_left, or_right}
use Rattle.toml_editor.proofs.written.StandingOrder.{begins_is}
use Rattle.toml_editor.proofs.written.TablesStay.{under_begins}
use Rattle.toml_editor.proofs.written.TablesThere.{table_there}
use Rattle.toml_editor.proofs.written.ValuesAbove.{IsOver, value_over}

-- a test holds or fails
tested : (b : Bool) → (b ≡ true) ⊎ (b ≡ false)
tested true = inl refl
tested false = inr refl

-- a value of its own is named at the address, or none is
value_or_none : (p : Address) (ms : List Named) → Has (λ m. (m.address ≡ p) × (is_lone m.role ≡ true)) ms ⊎ (¬ Has (λ m. (m.address ≡ p) × (is_lone m.role ≡ true)) ms)
value_or_none p [] = inr (λ none. none)
value_or_none p (m ∷ ms) = by (tested (same_address m.address p)) (tested (is_lone m.role)) (value_or_none p ms)
  where
    Is : Named → Type 0
    Is n = (n.address ≡ p) × (is_lone n.role ≡ true)

    by : (same_address m.address p ≡ true) ⊎ (same_address m.address p ≡ false) → (is_lone m.role ≡ true) ⊎ (is_lone m.role ≡ false)
        → Has Is ms ⊎ (¬ Has Is ms) → Has Is (m ∷ ms) ⊎ (¬ Has Is (m ∷ ms))
    by at lone (inl later) = inl (inr later)
    by (inl same) (inl lone) (inr later) = inl (inl ((same_address-decides m.address p).0 same, lone))
    by (inr other) lone (inr later) = inr (λ there. elim there [
      | inl here ↦ true≢false (sym ((same_address-decides m.address p).1 here.0) ∙ other)
      | inr behind ↦ later behind
    ])
    by (inl same) (inr many) (inr later) = inr (λ there. elim there [
      | inl here ↦ true≢false (sym here.1 ∙ many)
      | inr behind ↦ later behind
    ])

-- no line's value stands at the root or above it
not_root : (q : Address) (lines : List Line) → list_any (holds q) (standing lines) ≡ true → ¬ (q ≡ [])
not_root q lines over root =
    taken (IsOver q) ⊥ (named lines)
    (λ v among it. elim it.over [
      | inl same ↦ it.not_root (same ∙ root)
      | inr above ↦ no_end v.address above.0 above.1 (sym root ∙ above.2)
    ])
    (value_over q lines over)

-- a line's value that stands at an address or above it, and is not the value there, stands above
leads_above : (q : Address) (s : Step) (base : Option ℕ) (own : Option Address) → leads_to (q ++ s ∷ []) base own ≡ true
    → is_value_at (q ++ s ∷ []) base own ≡ false → leads_to q base own ≡ true
leads_above q s None own over none = absurd (true≢false (sym over))
leads_above q s (Some n) None over none = absurd (true≢false (sym over))
leads_above q s (Some n) (Some a) over none = elim (begins_is a (q ++ s ∷ []) over) [
  | inl same ↦ absurd (true≢false (sym ((same_address-decides a (q ++ s ∷ [])).1 same) ∙ none))
  | inr above ↦ elim (last_or_earlier q a s above.0 above.1 above.2) [
    | inl here ↦ under_begins a q ([], here.0 ∙ sym (append-nil a))
    | inr more ↦ under_begins a q (above.0 ∷ more.0, more.1)
  ]
]

value_above : (q : Address) (s : Step) (ss : List Standing) → list_any (holds (q ++ s ∷ [])) ss ≡ true → list_any (is_pair (q ++ s ∷ [])) ss ≡ false
    → list_any (holds q) ss ≡ true
value_above q s [] over none = absurd (true≢false (sym over))
value_above q s (t ∷ ss) over none =
    let (free, others) = or_parts (is_pair (q ++ s ∷ []) t) (list_any (is_pair (q ++ s ∷ [])) ss) none in
    elim (or_cases (holds (q ++ s ∷ []) t) (list_any (holds (q ++ s ∷ [])) ss) over) [
      | inl here ↦ or_left _ _ (leads_above q s t.base t.address here free)
      | inr later ↦ or_right (holds q t) _ (value_above q s ss later others)
    ]

no_index : (q r : Address) (name m : List ℕ) (i : ℕ) → ¬ (child q name ≡ element (child r m) i)
no_index q r name m i is = (let x = (same_from_push q (child r m) (Name name) (Index i) is).1 in cc)

module _ (profile : Profile) (text : List ℕ) (kinds : Kinds) (good : IsGoodText profile text kinds) where
  abbrev lines : List Line
  lines = good.tree.lines

  abbrev IsTold : Change → Type 0
  IsTold c = IsPlain lines c ⊎ (IsOneChange lines c ⊎ IsRefusedIn profile text c)

  -- what is so of the one tree
  on_tree : (P : List Line → Type 0) → P lines → (d : Doc) → SpellsIn profile d text → P d.lines
  on_tree P holds d spells = subst (λ (x : Doc). P x.lines) (one_tree good.tree d text good.spelled.0 spells.0) holds

  -- what is there is named
  there : (a : Address) → IsSome (kinds a) → Has (λ m. m.address ≡ a) (named lines)
  there a some = by (kinds a) refl some
    where
      by : (o : Option Kind) → kinds a ≡ o → IsSome (kinds a) → Has (λ m. m.address ≡ a) (named lines)
      by None absent have = absurd (true≢false (sym (subst IsSome absent have)))
      by (Some k) at have =
          has_weaker (λ m. (m.address ≡ a) × (m.kind ≡ k)) (λ m. m.address ≡ a) (λ m fact. fact.0) (named lines) (has_of_any _ (named lines) ((good.facts a k).0 at))

  set_told : (p : Address) (value : List ℕ) → IsTold (edits.set p value)
  set_told p value = elim (value_or_none p (named lines)) [
    | inl there ↦ inl (any_of_has _ (named lines) there)
    | inr none ↦ inr (inr (on_tree (λ ls. ¬ HasValue ls p) (λ has. none (has_of_any _ (named lines) has))))
  ]

  -- the parent of a new name is a table
  parent_table : (q : Address) (name value : List ℕ) (p : Address) → p ≡ child q name → IsFault profile (edits.insert p value) kinds None → kinds q ≡ Some a_table
  parent_table q name value p own none = by (kinds q) refl
    where
      no_table : ¬ (kinds q ≡ Some a_table) → ⊥
      no_table other = none NotATable (q, name, own, other)

      by : (o : Option Kind) → kinds q ≡ o → kinds q ≡ Some a_table
      by None is = absurd (no_table (λ table. (let x : ◌≡◌ {A = Option Kind} None (Some a_table) = sym is ∙ table in cc)))
      by (Some (a_scalar v)) is = absurd (no_table (λ table. (let x : ◌≡◌ {A = Option Kind} (Some (a_scalar v)) (Some a_table) = sym is ∙ table in cc)))
      by (Some an_array) is = absurd (no_table (λ table. (let x : ◌≡◌ {A = Option Kind} (Some an_array) (Some a_table) = sym is ∙ table in cc)))
      by (Some a_table) is = is

  insert_told : (p : Address) (value : List ℕ) → IsFault profile (edits.insert p value) kinds None → IsTold (edits.insert p value)
  insert_told p value none = by (last_step p)
    where
      by_index : (q : Address) (i : ℕ) → p ≡ element q i → (list_any (holds q) (standing lines) ≡ true) ⊎ (list_any (holds q) (standing lines) ≡ false)
          → IsTold (edits.insert p value)
      by_index q i own (inl over) = inr (inl (q, Index i, own, not_root q lines over, over))
      by_index q i own (inr outside) = inr (inr (q, i, own, on_tree (λ ls. IsInNoValue ls q) outside))

      by_name : (q : Address) (name : List ℕ) → p ≡ child q name → (list_any (holds q) (standing lines) ≡ true) ⊎ (list_any (holds q) (standing lines) ≡ false)
          → IsTold (edits.insert p value)
      by_name q name own (inl over) =
          inr (inl (
            q,
            Name name,
            own,
            not_root q lines over,
            table_held q name lines good.good.0 over (has_of_any _ (named lines) ((good.facts q a_table).0 (parent_table q name value p own none))),
          ))
      by_name q name own (inr outside) = inl (q, name, own, table_there q lines kinds good.facts (parent_table q name value p own none) outside)

      by : (p ≡ []) ⊎ ((q : Address) × (s : Step) × (p ≡ q ++ s ∷ [])) → IsTold (edits.insert p value)
      by (inl root) = absurd (none RootNamed root)
      by (inr (q, Index i, own)) = by_index q i own (tested (list_any (holds q) (standing lines)))
      by (inr (q, Name name, own)) = by_name q name own (tested (list_any (holds q) (standing lines)))

  remove_told : (p : Address) → IsFault profile (edits.remove p) kinds None → IsTold (edits.remove p)
  remove_told p none = by (tested (list_any (holds p) (standing lines))) (last_step p)
    where
      by_name : (q : Address) (name : List ℕ) → p ≡ child q name → list_any (holds p) (standing lines) ≡ true
          → (list_any (is_pair p) (standing lines) ≡ true) ⊎ (list_any (is_pair p) (standing lines) ≡ false) → IsTold (edits.remove p)
      by_name q name own over (inl pair) = inl pair
      by_name q name own over (inr no_pair) =
          let above = value_above q (Name name) (standing lines) (ap (λ a. list_any (holds a) (standing lines)) (sym own) ∙ over)
          (ap (λ a. list_any (is_pair a) (standing lines)) (sym own) ∙ no_pair) in
          inr (inl (inl (subst (HasContainerAt lines) (sym own)
          (name_held q name lines good.good.0 above (there (child q name) (subst (λ a. IsSome (kinds a)) own (is_there profile kinds p none)))))))

      by_index : (q : Address) (i : ℕ) → p ≡ element q i → list_any (holds p) (standing lines) ≡ true
          → (list_any (holds q) (standing lines) ≡ true) ⊎ (list_any (holds q) (standing lines) ≡ false) → IsTold (edits.remove p)
      by_index q i own over (inl above) =
          inr (inl (inl (subst (HasContainerAt lines) (sym own)
          (index_held q i lines good.good.0 above (there (element q i) (subst (λ a. IsSome (kinds a)) own (is_there profile kinds p none)))))))
      by_index q i own over (inr outside) =
          absurd (true≢false (sym over ∙ ap (λ a. list_any (holds a) (standing lines)) own ∙ element_in_no_value q i lines outside))

      by : (list_any (holds p) (standing lines) ≡ true) ⊎ (list_any (holds p) (standing lines) ≡ false)
          → (p ≡ []) ⊎ ((q : Address) × (s : Step) × (p ≡ q ++ s ∷ [])) → IsTold (edits.remove p)
      by (inr outside) parts = inr (inl (inr outside))
      by (inl over) (inl root) = absurd (none RootNamed root)
      by (inl over) (inr (q, Index i, own)) = by_index q i own over (tested (list_any (holds q) (standing lines)))
      by (inl over) (inr (q, Name name, own)) = by_name q name own over (tested (list_any (is_pair p) (standing lines)))

  section_told : (p : Address) → IsFault profile (edits.new_section p) kinds None → IsTold (edits.new_section p)
  section_told p none = by (last_step p)
    where
      by_name : (q : Address) (name : List ℕ) → p ≡ child q name → (list_any (holds q) (standing lines) ≡ true) ⊎ (list_any (holds q) (standing lines) ≡ false)
          → IsTold (edits.new_section p)
      by_name q name own (inr outside) = inl (q, name, own, outside)
      by_name q name own (inl over) = inr (inr (q, Name name, own, on_tree (λ ls. ¬ IsInNoValue ls q) (λ outside. true≢false (sym over ∙ outside))))

      by : (p ≡ []) ⊎ ((q : Address) × (s : Step) × (p ≡ q ++ s ∷ [])) → IsTold (edits.new_section p)
      by (inl root) = absurd (none RootNamed root)
      by (inr (q, Index i, own)) = absurd (none NotAName (q, i, own))
      by (inr (q, Name name, own)) = by_name q name own (tested (list_any (holds q) (standing lines)))

  element_told : (p : Address) → IsFault profile (edits.new_element p) kinds None → IsTold (edits.new_element p)
  element_told p none = by (last_step p)
    where
      by_index : (q : Address) (i : ℕ) → p ≡ element q i → (list_any (holds q) (standing lines) ≡ true) ⊎ (list_any (holds q) (standing lines) ≡ false)
          → IsTold (edits.new_element p)
      by_index q i own (inr outside) = inl (q, i, own, outside)
      by_index q i own (inl over) = inr (inr (q, Index i, own, on_tree (λ ls. ¬ IsInNoValue ls q) (λ outside. true≢false (sym over ∙ outside))))

      by : (p ≡ []) ⊎ ((q : Address) × (s : Step) × (p ≡ q ++ s ∷ [])) → IsTold (edits.new_element p)
      by (inl root) = absurd (none RootNamed root)
      by (inr (q, Name name, own)) = absurd (none NotAnElement (λ r m i other. no_index q r name m i (sym own ∙ other)))
      by (inr (q, Index i, own)) = by_index q i own (tested (list_any (holds q) (standing lines)))

  told : (c : Change) → IsFault profile c kinds None → IsTold c
  told (edits.set p value) none = set_told p value
  told (edits.insert p value) none = insert_told p value none
  told (edits.rename p to) none = inl tt
  told (edits.remove p) none = remove_told p none
  told (edits.new_section p) none = section_told p none
  told (edits.new_element p) none = element_told p none

pub each_edit_is_told : EachEditIsTold
each_edit_is_told profile c text kinds good none = told profile text kinds good c none
