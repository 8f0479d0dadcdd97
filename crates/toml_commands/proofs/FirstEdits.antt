-- What is told of the first edits of a list, of which the last puts something too deep, is told of the whole list.
use Rattle.std.proofs.Common.{◌≡◌, ◌⊎◌, ◌<◌, ◌≤◌, ℕ, zero, suc, List, [], ◌∷◌, ◌++◌, length, take, inl, inr, Some, None, sym, refl, ◌∙◌, subst, arith}
use Rattle.std.proofs.lemmas.List.{take-append-le}
use Rattle.std.proofs.lemmas.Option.{slice_get_within}
use Rattle.std.specs.Prelude.{slice_get}
use Rattle.toml_tree.specs.Tree.{Doc}
use Rattle.toml_tree.specs.declared.profile.Profile.{Profile}
use Rattle.toml_names.specs.mentions.Mentions.{named}
use Rattle.toml_names.specs.model.Data.{Kinds}
use Rattle.toml_names.specs.model.Places.{place}
use Rattle.toml_edits.specs.Edits.{Change}
use Rattle.toml_edits.specs.Faults.{IsFault}
use Rattle.toml_edits.specs.Lists.{Lead}
use Rattle.toml_one.specs.Kept.{Keeps, up_to_too_deep}
use Rattle.toml_one.proofs.Proved.{EndsTooDeep, IsCut, deep_is_refused, whole_or_cut}
use Rattle.toml_checker.specs.Documents.{AreDefined, OfData}
use Rattle.toml_editor.specs.CertifiedLists.{ArePlain}
use Rattle.toml_editor.specs.Edited.{IsEditedWith, MayBeSpread, OfDefined, OnDataSoFar, SoFar, TakesLastElement, TellsWith}
use Rattle.toml_editor.specs.PlainTexts.{AfterPlain, IsPlainOrHeld, IsRefusedIn, IsNeitherPlainNorHeld, NoneIsRefused}
use Rattle.toml_editor.specs.Steps.{AreWritten}
use Rattle.toml_editor.specs.declared.fault.EditorFault.{EditorFault}
use Rattle.toml_editor.specs.declared.fault.EditorFault.TheVariants as faults
use Rattle.toml_layout.specs.declared.layout.Layout.{Layout}

-- an edit among the first ones
got_front : (some left : List Change) (k : ℕ) → k < length some → slice_get (some ++ left) k ≡ slice_get some k
got_front [] left k low = absurd (omega (arith, low))
got_front (c ∷ some) left zero low = refl
got_front (c ∷ some) left (suc k) low = got_front some left k (omega (arith, low))

-- what holds of one list holds of another that is the same
for_list : {M : Type 0} (R : List Change → M → Type 0) (m : M) (one other : List Change) → one ≡ other → R one m → R other m
for_list R m one other same = subst (λ cs. R cs m) same

module _ (profile : Profile) where
  -- the last edit of a list that leads somewhere has no fault
  last_is_free : (front : List Change) (last : Change) (old new : Kinds) → Lead profile (front ++ last ∷ []) old new → (mid : Kinds) × IsFault profile last mid None
  last_is_free [] last old new (free, mid, after, rest) = (old, free)
  last_is_free (c ∷ front) last old new (free, mid, after, lead) = last_is_free front last mid new lead

  leads_nowhere : (some : List Change) (old new : Kinds) → EndsTooDeep some → ¬ Lead profile some old new
  leads_nowhere some old new ends lead = refused (last_is_free ends.front ends.last old new (subst (λ cs. Lead profile cs old new) ends.are lead))
    where
      refused : ((mid : Kinds) × IsFault profile ends.last mid None) → ⊥
      refused (mid, free) = deep_is_refused profile ends.last mid ends.deep free

  pub not_defined : (before : List ℕ) (some : List Change) → EndsTooDeep some → ¬ OfData before (AreDefined profile some)
  not_defined before some ends (d, spells, old, facts, (new, lead)) = leads_nowhere some old new ends lead

module _ (layout : Layout) (profile : Profile) (before : List ℕ) (some left : List Change) where
  module _ (k : ℕ) (low : k < length some) where
    same_front : take k (some ++ left) ≡ take k some
    same_front = take-append-le k some left (omega (arith, low))

    after_plain : (d : Doc) (P : Change → List ℕ → Type 0) → AfterPlain layout profile before some d k P → AfterPlain layout profile before (some ++ left) d k P
    after_plain d P holds = λ c is old mid now facts lead free after plain between written.
        holds c (sym (got_front some left k low) ∙ is) old mid now facts (subst (λ cs. Lead profile cs old mid) same_front lead) free after
        (for_list (λ cs m. ArePlain profile cs m before) _ _ _ same_front plain) between
        (for_list (λ cs m. AreWritten profile cs m before between) _ _ _ same_front written)

    so_far : (old : Kinds) (P : Change → Kinds → Type 0) → SoFar profile some old k P → SoFar profile (some ++ left) old k P
    so_far old P (mid, lead, c, is, holds) = (mid, subst (λ cs. Lead profile cs old mid) (sym same_front) lead, c, got_front some left k low ∙ is, holds)

    data_so_far : (P : Change → Kinds → Type 0) → OnDataSoFar profile before some k P → OnDataSoFar profile before (some ++ left) k P
    data_so_far P (d, spells, old, facts, so) = (d, spells, old, facts, so_far old P so)

    neither_edit : IsNeitherPlainNorHeld layout profile before some k → IsNeitherPlainNorHeld layout profile before (some ++ left) k
    neither_edit (d, spells, none) = (d, spells, after_plain d (λ c text. ¬ IsPlainOrHeld profile text c) none)

  none_refused : (n : ℕ) → n ≤ length some → NoneIsRefused layout profile before some n → NoneIsRefused layout profile before (some ++ left) n
  none_refused n within (d, spells, none) = (d, spells, λ k low. after_plain k (omega (arith, within, low)) d (λ c text. ¬ IsRefusedIn profile text c) (none k low))

  is_within : (k : ℕ) (P : Change → Kinds → Type 0) → OnDataSoFar profile before some k P → k < length some
  is_within k P (d, spells, old, facts, (mid, lead, c, is, holds)) = slice_get_within some k c is

  below : (k : ℕ) → k < length some → k ≤ length some
  below k low = omega (arith, low)

  -- what is told of the first ones
  pub tells : EndsTooDeep some → (fault : EditorFault) → TellsWith layout profile before some fault → TellsWith layout profile before (some ++ left) fault
  tells ends (faults.Edit index fault) (document, on, none) =
      let P : Change → Kinds → Type 0 = λ c kinds. IsFault profile c kinds (Some fault) in
      let low = is_within index P on in
      (document, data_so_far index low P on, none_refused index (below index low) none)
  tells ends (faults.Spread index) (document, on, plain, none) =
      let P : Change → Kinds → Type 0 = OfDefined profile MayBeSpread in
      let low = is_within index P on in
      (document, data_so_far index low P on, neither_edit index low plain, none_refused index (below index low) none)
  tells ends (faults.LastElement index) (document, on, plain, none) =
      let P : Change → Kinds → Type 0 = OfDefined profile TakesLastElement in
      let low = is_within index P on in
      (document, data_so_far index low P on, neither_edit index low plain, none_refused index (below index low) none)
  tells ends faults.TooLong (defined, long, none) = absurd (not_defined profile before some ends defined.1)
  tells ends (faults.Unverified reason) (defined, plain, none, unmet) = absurd (not_defined profile before some ends defined.1)
  tells ends (faults.Text fault) told = told
  tells ends (faults.Syntax fault) told = told
  tells ends (faults.Names fault) told = told
  tells ends faults.NoMemory told = told

module _ (layout : Layout) (profile : Profile) (before : List ℕ) (P : List Change → Type 0) (some : List Change) where
  -- of what is kept of a list
  pub kept_tells : Keeps P some → (fault : EditorFault) → TellsWith layout profile before some fault → (all : List Change) × P all × TellsWith layout profile before all fault
  kept_tells kept fault told = by (whole_or_cut kept.all) (subst (λ cs. TellsWith layout profile before cs fault) kept.kept told)
    where
      first : List Change
      first = up_to_too_deep kept.all

      by : (first ≡ kept.all) ⊎ IsCut first kept.all → TellsWith layout profile before first fault → (all : List Change) × P all × TellsWith layout profile before all fault
      by (inl same) so = (kept.all, kept.are, subst (λ cs. TellsWith layout profile before cs fault) same so)
      by (inr cut) so =
          (kept.all, kept.are, subst (λ cs. TellsWith layout profile before cs fault) (sym cut.are) (tells layout profile before first cut.left cut.ends fault so))

  pub kept_makes : Keeps P some → (text : List ℕ) (pairs : List (ℕ × ℕ)) → IsEditedWith layout profile before some text pairs
      → (all : List Change) × P all × IsEditedWith layout profile before all text pairs
  kept_makes kept text pairs edited = by (whole_or_cut kept.all) (subst (λ cs. IsEditedWith layout profile before cs text pairs) kept.kept edited)
    where
      first : List Change
      first = up_to_too_deep kept.all

      by : (first ≡ kept.all) ⊎ IsCut first kept.all → IsEditedWith layout profile before first text pairs → (all : List Change) × P all × IsEditedWith layout profile before all text pairs
      by (inl same) so = (kept.all, kept.are, subst (λ cs. IsEditedWith layout profile before cs text pairs) same so)
      by (inr cut) so = absurd (not_defined profile before first cut.ends so.certified.defined)
