-- What is told as refused, where the edits before are plain, is refused.
use Rattle.std.proofs.Common.{◌≡◌, ◌⊎◌, ℕ, Bool, true, false, Option, Some, None, IsSome, List, [], ◌∷◌, ◌++◌, take, refl, sym, ◌∙◌, subst, inl, inr, true≢false}
use Rattle.std.proofs.lemmas.List.{same_from_push}
use Rattle.std.specs.Prelude.{slice_get}
use Rattle.std.specs.List.{list_any}
use Rattle.toml_tree.specs.Profiles.{SpellsIn}
use Rattle.toml_tree.specs.Tree.{Doc, Line}
use Rattle.toml_tree.specs.declared.profile.Profile.{Profile}
use Rattle.toml_tree.proofs.Proved.{one_tree}
use Rattle.toml_names.specs.declared.model.address.Step.{Step}
use Rattle.toml_names.specs.declared.model.address.Step.TheVariants.{Index, Name}
use Rattle.toml_names.specs.mentions.Mentions.{Kind, a_scalar, a_table, an_array, named}
use Rattle.toml_names.specs.model.Addresses.{Address, child, element}
use Rattle.toml_names.specs.model.Data.{IsClosed, Kinds}
use Rattle.toml_names.specs.model.Places.{IsNamed}
use Rattle.toml_names.proofs.Proved.{lines_are_closed}
use Rattle.toml_edits.specs.declared.fault.EditFault.TheVariants.{IndexOutside, NotAName, NotAnElement, RootNamed}
use Rattle.toml_edits.specs.After.{IsAfter}
use Rattle.toml_edits.specs.Edits as edits
use Rattle.toml_edits.specs.Edits.{Change}
use Rattle.toml_edits.specs.Faults.{IsFault}
use Rattle.toml_edits.specs.Laws.{HasRoom}
use Rattle.toml_edits.proofs.Proved.{some_after}
use Rattle.toml_editor.specs.Edited.{MayBeSpread, OfDefined, TakesLastElement, TellsWith}
use Rattle.toml_editor.specs.LastTexts.{HasContainerAt}
use Rattle.toml_editor.specs.PlainAnswers.{OnlyRefusedIsTold, PlainSoFar, refusal}
use Rattle.toml_editor.specs.PlainTexts.{AfterPlain, HasContainerFor, IsNeitherPlainNorHeld, IsPlainOrHeld, IsRefusedIn}
use Rattle.toml_editor.specs.Steps.{IsGoodText, IsPlain}
use Rattle.toml_layout.specs.declared.layout.Layout.{Layout}
use Rattle.toml_working.specs.Manners.{manner_of}
use Rattle.toml_working.specs.Premises.{IsInNoValue}
use Rattle.toml_working.specs.Standing.{holds, standing}
use Rattle.toml_editor.proofs.PlainAnswers.{here, of_tree}
use Rattle.toml_editor.proofs.written.Elsewhere.{style_is_newline}
use Rattle.toml_editor.proofs.written.Fitting.{last_step, unnamed}
use Rattle.toml_editor.proofs.written.HeldArrays.{array_held, index_held}
use Rattle.toml_editor.proofs.written.Closed.{no_end}
use Rattle.toml_editor.proofs.written.Pairwise.{Has, has_of_any, has_weaker, taken}
use Rattle.toml_editor.proofs.written.Steps.{plain_steps}
use Rattle.toml_editor.proofs.written.ValuesAbove.{IsOver, value_over}

module _ (layout : Layout) (profile : Profile) (before : List ℕ) (cs : List Change) (n : ℕ) (between : List ℕ) (mid : Kinds)
    (so_far : PlainSoFar layout profile before cs n between mid) where
  abbrev pub d : Doc
  d = so_far.document.1

  -- the text written so far is good
  pub good : IsGoodText profile between mid
  good =
      let old : IsGoodText profile before so_far.old = record {
        tree = d;
        spelled = (so_far.document.2, so_far.document.4);
        good = so_far.document.3;
        facts = so_far.facts;
      } in
      (plain_steps profile (take n cs) (manner_of layout d.lines) before between so_far.old mid (style_is_newline d.lines so_far.document.2.lines.forms) old
      so_far.lead so_far.written).0

  abbrev lines : List Line
  lines = good.tree.lines

  closed : IsClosed mid
  closed = lines_are_closed lines mid good.good.0 good.facts

  -- the text has one tree
  on_tree : (P : List Line → Type 0) (e f : Doc) → SpellsIn profile e between → SpellsIn profile f between → P e.lines → P f.lines
  on_tree P e f spells again holds = subst (λ (x : Doc). P x.lines) (one_tree e f between spells.0 again.0) holds

  module _ (c : Change) (is : slice_get cs n ≡ Some c) (none : IsFault profile c mid None) (neither : IsNeitherPlainNorHeld layout profile before cs n) where
    abbrev Makes : Type 0
    Makes = (now : Kinds) × IsAfter profile c mid now

    -- once the edit makes something, the text is told to be neither
    not_either : Makes → ¬ IsPlainOrHeld profile between c
    not_either makes =
        of_tree layout profile before cs n between mid so_far
        (λ x. AfterPlain layout profile before cs x n (λ y text. ¬ IsPlainOrHeld profile text y)) neither c is so_far.old mid makes.0 so_far.facts so_far.lead none
        makes.1 so_far.plain between so_far.written

    -- so it is not plain on the one tree, nor held
    no_plain : Makes → (e : Doc) → SpellsIn profile e between → ¬ IsPlain e.lines c
    no_plain makes e spells plain = not_either makes (λ f again. inl (on_tree (λ ls. IsPlain ls c) e f spells again plain))

    no_holder : Makes → (e : Doc) → SpellsIn profile e between → ¬ HasContainerFor e.lines c
    no_holder makes e spells held = not_either makes (λ f again. inr (on_tree (λ ls. HasContainerFor ls c) e f spells again held))

  -- ---- each edit

  module _ (neither : IsNeitherPlainNorHeld layout profile before cs n) where
    set_refused : (p : Address) (text : List ℕ) → slice_get cs n ≡ Some (edits.set p text) → IsFault profile (edits.set p text) mid None
        → IsRefusedIn profile between (edits.set p text)
    set_refused p text is none e spells there =
        some_after profile (edits.set p text) mid closed tt none (λ makes. no_plain (edits.set p text) is none neither makes e spells there)

    section_refused : (p : Address) → slice_get cs n ≡ Some (edits.new_section p) → IsFault profile (edits.new_section p) mid None
        → IsRefusedIn profile between (edits.new_section p)
    section_refused p is none = by (last_step p)
      where
        by : (p ≡ []) ⊎ ((q : Address) × (s : Step) × (p ≡ q ++ s ∷ [])) → IsRefusedIn profile between (edits.new_section p)
        by (inl root) = absurd (none RootNamed root)
        by (inr (q, Index i, at)) = absurd (none NotAName (q, i, at))
        by (inr (q, Name name, at)) = (
          q,
          Name name,
          at,
          (λ e spells outside.
              some_after profile (edits.new_section p) mid closed tt none (λ makes. no_plain (edits.new_section p) is none neither makes e spells (q, name, at, outside))),
        )

    element_refused : (p : Address) → slice_get cs n ≡ Some (edits.new_element p) → IsFault profile (edits.new_element p) mid None
        → IsRefusedIn profile between (edits.new_element p)
    element_refused p is none = by (last_step p)
      where
        by : (p ≡ []) ⊎ ((q : Address) × (s : Step) × (p ≡ q ++ s ∷ [])) → IsRefusedIn profile between (edits.new_element p)
        by (inl root) = absurd (none RootNamed root)
        by (inr (q, Name name, at)) =
            absurd (none NotAnElement (λ r m i own. (let x = (same_from_push q (child r m) (Name name) (Index i) (sym at ∙ own)).1 in cc)))
        by (inr (q, Index i, at)) = (
          q,
          Index i,
          at,
          (λ e spells outside.
              some_after profile (edits.new_element p) mid closed tt none (λ makes. no_plain (edits.new_element p) is none neither makes e spells (q, i, at, outside))),
        )

    -- what is to stand in an array that is a line's value, or in one, is held
    insert_refused : (p : Address) (text : List ℕ) → slice_get cs n ≡ Some (edits.insert p text) → IsFault profile (edits.insert p text) mid None
        → HasRoom (edits.insert p text) mid → MayBeSpread (edits.insert p text) mid → IsRefusedIn profile between (edits.insert p text)
    insert_refused p text is none room (q, i, own) =
        (q, i, own, (λ e spells. on_tree (λ ls. IsInNoValue ls q) good.tree e good.spelled spells outside))
      where
        array : mid q ≡ Some an_array
        array = by (mid q) refl
          where
            no_array : ¬ (mid q ≡ Some an_array) → ⊥
            no_array other = none IndexOutside (q, i, own, inl other)

            by : (found : Option Kind) → mid q ≡ found → mid q ≡ Some an_array
            by None at = absurd (no_array (λ there. (let x : ◌≡◌ {A = Option Kind} None (Some an_array) = sym at ∙ there in cc)))
            by (Some (a_scalar v)) at = absurd (no_array (λ there. (let x : ◌≡◌ {A = Option Kind} (Some (a_scalar v)) (Some an_array) = sym at ∙ there in cc)))
            by (Some a_table) at = absurd (no_array (λ there. (let x : ◌≡◌ {A = Option Kind} (Some a_table) (Some an_array) = sym at ∙ there in cc)))
            by (Some an_array) at = at

        not_root : list_any (holds q) (standing lines) ≡ true → ¬ (q ≡ [])
        not_root over root =
            taken (IsOver q) ⊥ (named lines)
            (λ v among it. elim it.over [
              | inl same ↦ it.not_root (same ∙ root)
              | inr above ↦ no_end v.address above.0 above.1 (sym root ∙ above.2)
            ])
            (value_over q lines over)

        held : list_any (holds q) (standing lines) ≡ true → HasContainerFor lines (edits.insert p text)
        held over = (
          q,
          Index i,
          own,
          not_root over,
          subst (HasContainerAt lines) (sym own) (array_held q i lines good.good.0 over (has_of_any _ (named lines) ((good.facts q an_array).0 array))),
        )

        outside : IsInNoValue lines q
        outside = by (list_any (holds q) (standing lines)) refl
          where
            by : (b : Bool) → list_any (holds q) (standing lines) ≡ b → list_any (holds q) (standing lines) ≡ false
            by false none_over = none_over
            by true over = absurd (some_after profile (edits.insert p text) mid closed room none
                (λ makes. no_holder (edits.insert p text) is none neither makes good.tree good.spelled (held over)))

    -- an element whose array is a line's value, or in one, is held
    remove_refused : (p : Address) → slice_get cs n ≡ Some (edits.remove p) → IsFault profile (edits.remove p) mid None
        → TakesLastElement (edits.remove p) mid → IsRefusedIn profile between (edits.remove p)
    remove_refused p is none (q, own, some, no_second) =
        (q, own, (λ e spells. on_tree (λ ls. IsInNoValue ls q × (¬ IsNamed (named ls) (element q 1))) good.tree e good.spelled spells (outside, none_behind)))
      where
        none_behind : ¬ IsNamed (named lines) (element q 1)
        none_behind = unnamed lines mid (element q 1) good.facts (λ there. true≢false (sym (subst IsSome no_second there)))

        -- the element is named
        there : (o : Option Kind) → mid (element q 0) ≡ o → IsSome (mid (element q 0)) → Has (λ m. m.address ≡ element q 0) (named lines)
        there None absent some = absurd (true≢false (sym (subst IsSome absent some)))
        there (Some k) at some =
            has_weaker (λ m. (m.address ≡ element q 0) × (m.kind ≡ k)) (λ m. m.address ≡ element q 0) (λ m fact. fact.0) (named lines)
            (has_of_any _ (named lines) ((good.facts (element q 0) k).0 at))

        held : list_any (holds q) (standing lines) ≡ true → HasContainerAt lines p
        held over =
            subst (HasContainerAt lines) (sym own)
            (index_held q 0 lines good.good.0 over (there (mid (element q 0)) refl (subst (λ a. IsSome (mid a)) own some)))

        outside : IsInNoValue lines q
        outside = by (list_any (holds q) (standing lines)) refl
          where
            by : (b : Bool) → list_any (holds q) (standing lines) ≡ b → list_any (holds q) (standing lines) ≡ false
            by false none_over = none_over
            by true over = absurd (some_after profile (edits.remove p) mid closed tt none
                (λ makes. no_holder (edits.remove p) is none neither makes good.tree good.spelled (held over)))

  refused : (c : Change) → slice_get cs n ≡ Some c → HasRoom c mid → TellsWith layout profile before cs (refusal n c) → IsRefusedIn profile between c
  refused (edits.insert p text) is room told =
      let defined = here layout profile before cs n between mid so_far (edits.insert p text) is (OfDefined profile MayBeSpread) told.1 in
      insert_refused told.2 p text is defined.0 room defined.1
  refused (edits.rename p to) is room told =
      absurd (here layout profile before cs n between mid so_far (edits.rename p to) is (OfDefined profile MayBeSpread) told.1).1
  refused (edits.set p text) is room told =
      let defined = here layout profile before cs n between mid so_far (edits.set p text) is (OfDefined profile MayBeSpread) told.1 in
      set_refused told.2 p text is defined.0
  refused (edits.new_section p) is room told =
      let defined = here layout profile before cs n between mid so_far (edits.new_section p) is (OfDefined profile MayBeSpread) told.1 in
      section_refused told.2 p is defined.0
  refused (edits.new_element p) is room told =
      let defined = here layout profile before cs n between mid so_far (edits.new_element p) is (OfDefined profile MayBeSpread) told.1 in
      element_refused told.2 p is defined.0
  refused (edits.remove p) is room told =
      let defined = here layout profile before cs n between mid so_far (edits.remove p) is (OfDefined profile TakesLastElement) told.1 in
      remove_refused told.2 p is defined.0 defined.1

pub only_refused_is_told : OnlyRefusedIsTold
only_refused_is_told layout profile before cs n between mid so_far c is room told = refused layout profile before cs n between mid so_far c is room told
