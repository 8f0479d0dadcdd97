-- What a section, or an element, without a fault tells of the data.
use Rattle.std.proofs.Common.{◌≡◌, ◌⊎◌, ℕ, ◌<◌, ◌≤◌, Option, Some, None, IsSome, List, [], length, refl, sym, subst, ◌∙◌, inl, inr, zero, suc, ◌∷◌, ◌++◌, ap, true≢false}
use Rattle.std.proofs.lemmas.List.{same_from_push}
use Rattle.std.specs.Prelude.{MatchOption}
use Rattle.toml_tree.specs.declared.profile.Profile.{Profile}
use Rattle.toml_names.specs.declared.model.address.Step.TheVariants.{Index, Name}
use Rattle.toml_names.specs.declared.model.address.Step.{Step}
use Rattle.toml_names.specs.mentions.Mentions.{Kind, a_scalar, a_table, an_array}
use Rattle.toml_names.specs.mentions.Rules.{max_steps}
use Rattle.toml_names.specs.model.Addresses.{Address, child, element}
use Rattle.toml_names.specs.model.Data.{IsClosed, Kinds}
use Rattle.toml_edits.specs.Edits.{new_element, new_section}
use Rattle.toml_edits.specs.Faults.{IsElementOf, IsFault, IsNextIndex}
use Rattle.toml_edits.specs.declared.fault.EditFault.TheVariants.{AddressLength, AlreadyThere, IndexOutside, NoSuchPlace, NotATable, NotAnElement}
use Rattle.toml_editor.proofs.written.Closed.{no_end}
use Rattle.toml_editor.proofs.written.Fitting.{at_most, last_step}

-- ---- a section

-- a table stands at the address, nothing does at the name in it, and that is short enough
pub record IsRoom (q : Address) (name : List ℕ) (kinds : Kinds) : Type 0 where
  pub table : kinds q ≡ Some a_table
  pub free : kinds (child q name) ≡ None
  pub short : length (child q name) ≤ max_steps

-- so it is where a section has no fault
pub section_room : (profile : Profile) (q : Address) (name : List ℕ) (kinds : Kinds) → IsFault profile (new_section (child q name)) kinds None → IsRoom q name kinds
section_room profile q name kinds none = record {
  table = of_table (kinds q) refl;
  free = of_free (kinds (child q name)) refl;
  short = at_most (length (child q name)) max_steps (none AddressLength);
}
  where
    of_table : (o : Option Kind) → kinds q ≡ o → kinds q ≡ Some a_table
    of_table None is = absurd (none NoSuchPlace (q, Name name, refl, is))
    of_table (Some a_table) is = is
    of_table (Some an_array) is = absurd (none NotATable (q, name, refl, λ h. (let x : ◌≡◌ {A = Option Kind} (Some an_array) (Some a_table) = sym is ∙ h in cc)))
    of_table (Some (a_scalar v)) is = absurd (none NotATable (q, name, refl, λ h. (let x : ◌≡◌ {A = Option Kind} (Some (a_scalar v)) (Some a_table) = sym is ∙ h in cc)))

    of_free : (o : Option Kind) → kinds (child q name) ≡ o → kinds (child q name) ≡ None
    of_free None is = is
    of_free (Some k) is = absurd (none AlreadyThere (q, name, refl, subst IsSome (sym is) refl))

-- ---- an element

-- the array is not there, and so many are none, or it is there, and has so many elements
abbrev pub HasSoMany : Kinds → Address → ℕ → Type 0
HasSoMany kinds q i = ((kinds q ≡ None) × (i ≡ 0)) ⊎ ((kinds q ≡ Some an_array) × ((j : ℕ) → j < i → IsSome (kinds (element q j))))

-- The element is the next one of its array, which a table has, or which is not there: then it is the first one.
pub record IsNextElement (q : Address) (i : ℕ) (kinds : Kinds) : Type 0 where
  pub table : (r : Address) × (n : List ℕ) × (q ≡ child r n) × (kinds r ≡ Some a_table)
  pub next : HasSoMany kinds q i
  pub free : kinds (element q i) ≡ None
  pub short : length (element q i) ≤ max_steps

module _ (profile : Profile) (q : Address) (i : ℕ) (kinds : Kinds) (closed : IsClosed kinds) (none : IsFault profile (new_element (element q i)) kinds None) where
  abbrev p : Address
  p = element q i

  -- the array is that of a name
  array_of : (r : Address) (n : List ℕ) (j : ℕ) → IsElementOf p r n j → q ≡ child r n
  array_of r n j is = (same_from_push q (child r n) (Index i) (Index j) is).0

  named_array : (r : Address) × (n : List ℕ) × (q ≡ child r n)
  named_array = by (last_step q)
    where
      by : (q ≡ []) ⊎ ((r : Address) × (s : Step) × (q ≡ r ++ s ∷ [])) → (r : Address) × (n : List ℕ) × (q ≡ child r n)
      by (inl root) = absurd (none NotAnElement (λ r n j is. no_end r (Name n) [] (sym root ∙ array_of r n j is)))
      by (inr (r, Index j, is)) =
          absurd (none NotAnElement (λ u n k at. (let x = (same_from_push r u (Index j) (Name n) (sym is ∙ array_of u n k at)).1 in cc)))
      by (inr (r, Name n, is)) = (r, n, is)

  is_table : (r : Address) (n : List ℕ) → q ≡ child r n → kinds r ≡ Some a_table
  is_table r n is = by (kinds r) refl
    where
      at : IsElementOf p r n i
      at = ap (λ x. element x i) is

      by : (o : Option Kind) → kinds r ≡ o → kinds r ≡ Some a_table
      by None e = absurd (none NoSuchPlace (r, n, i, at, e))
      by (Some a_table) e = e
      by (Some an_array) e = absurd (none NotATable (r, n, i, at, λ h. (let x : ◌≡◌ {A = Option Kind} (Some an_array) (Some a_table) = sym e ∙ h in cc)))
      by (Some (a_scalar v)) e = absurd (none NotATable (r, n, i, at, λ h. (let x : ◌≡◌ {A = Option Kind} (Some (a_scalar v)) (Some a_table) = sym e ∙ h in cc)))

  -- the index is the next one
  not_not : ¬ ¬ IsNextIndex kinds q i
  not_not wrong = none IndexOutside (q, i, refl, wrong)

  some_or : (o : Option Kind) → IsSome o ⊎ (o ≡ None)
  some_or None = inr refl
  some_or (Some k) = inl refl

  -- so many stand there, by what the array is
  abbrev OfKind : Option Kind → Type 0
  OfKind o = MatchOption o (i ≡ 0) (λ k. (k ≡ an_array) × ((j : ℕ) → j < i → IsSome (kinds (element q j))) × (kinds (element q i) ≡ None))

  is_next : HasSoMany kinds q i
  is_next = by (kinds q) refl not_not
    where
      first : (n : ℕ) → ¬ ¬ (n ≡ 0) → n ≡ 0
      first zero h = refl
      first (suc n) h = absurd (h (λ e. cc))

      by : (o : Option Kind) → kinds q ≡ o → ¬ ¬ OfKind o → HasSoMany kinds q i
      by None e h = inl (e, first i h)
      by (Some a_table) e h = absurd (h (λ w. (let x = w.0 in cc)))
      by (Some (a_scalar v)) e h = absurd (h (λ w. (let x = w.0 in cc)))
      by (Some an_array) e h = inr (
        e,
        λ j low. elim (some_or (kinds (element q j))) [
          | inl some ↦ some
          | inr absent ↦ absurd (h (λ w. (let x = subst IsSome absent (w.1 j low) in true≢false (sym x))))
        ],
      )

  is_free : kinds (element q i) ≡ None
  is_free = by (kinds q) refl (kinds (element q i)) refl
    where
      by : (o : Option Kind) → kinds q ≡ o → (x : Option Kind) → kinds (element q i) ≡ x → kinds (element q i) ≡ None
      by o e None is = is
      by None e (Some k) is = closed q (Index i) e
      by (Some k) e (Some l) is = absurd (not_not (λ next. taken (subst OfKind e next)))
        where
          taken : OfKind (Some k) → ⊥
          taken w = (let x : ◌≡◌ {A = Option Kind} (Some l) None = sym is ∙ w.2 in cc)

  -- so the element is the next one
  pub element_room : IsNextElement q i kinds
  element_room = record {
    table = let (r, n, is) = named_array in (r, n, is, is_table r n is);
    next = is_next;
    free = is_free;
    short = at_most (length p) max_steps (none AddressLength);
  }
