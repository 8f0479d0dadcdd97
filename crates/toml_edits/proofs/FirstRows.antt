-- Which row of an edit holds first.
use Rattle.std.proofs.Common.{◌≡◌, ◌⊎◌, inl, inr, ℕ, suc, ◌<◌, ◌≤◌, List, [], ◌∷◌, ◌++◌, append-nil, Option, Some, None, IsSome, Result, Ok, Err, refl, sym, ap, subst, ◌∙◌, arith}
use Rattle.std.proofs.lemmas.Bool.{cases_lt}
use Rattle.std.specs.Prelude.{slice_get}
use Rattle.toml_tree.specs.declared.profile.Profile.{Profile}
use Rattle.toml_names.specs.declared.model.address.Step.{Step}
use Rattle.toml_names.specs.declared.model.address.Step.TheVariants.{Name, Index}
use Rattle.toml_names.specs.declared.model.datum.Datum.{Datum}
use Rattle.toml_names.specs.model.Addresses.{Address, child}
use Rattle.toml_names.specs.model.Data.{Kinds}
use Rattle.toml_names.specs.mentions.Mentions.{a_table, an_array}
use Rattle.toml_edits.specs.declared.fault.EditFault.{EditFault}
use Rattle.toml_edits.specs.declared.fault.EditFault.TheVariants.{RootNamed, NotAnElement, BadValue, NoSuchPlace, NotATable, IndexOutside, NotAName, AlreadyThere, AddressLength, NoMemory}
use Rattle.toml_edits.specs.Edits.{Change, set, insert, rename, remove, place}
use Rattle.toml_edits.specs.Faults.{rank, Row, IsFault, IsTooDeep, HasFewer}
use Rattle.toml_edits.specs.Judged.{IsFitting, IsStepFault, IsJudged}
use Rattle.toml_edits.specs.ValueTexts.{IsBadValue}
use Rattle.toml_edits.proofs.Found.{some_none}
use Rattle.toml_edits.proofs.LastStep.{no_root, same_last, same_parent}

-- no row of a lower rank holds
abbrev pub Past : (EditFault → Type 0) → ℕ → Type 0
Past Holds n = (y : EditFault) → rank y < n → ¬ Holds y

abbrev in_order : List EditFault
in_order = RootNamed ∷ NotAnElement ∷ BadValue ∷ NoSuchPlace ∷ NotATable ∷ IndexOutside ∷ NotAName ∷ AlreadyThere ∷ AddressLength ∷ NoMemory ∷ []

at_rank : (x : EditFault) → slice_get in_order (rank x) ≡ Some x
at_rank RootNamed = refl
at_rank NotAnElement = refl
at_rank BadValue = refl
at_rank NoSuchPlace = refl
at_rank NotATable = refl
at_rank IndexOutside = refl
at_rank NotAName = refl
at_rank AlreadyThere = refl
at_rank AddressLength = refl
at_rank NoMemory = refl

pub one_rank : (x y : EditFault) → rank x ≡ rank y → x ≡ y
one_rank x y is = inner (sym (at_rank x) ∙ ap (slice_get in_order) is ∙ at_rank y)
  where
    inner : ◌≡◌ {A = Option EditFault} (Some x) (Some y) → x ≡ y
    inner same = cc

start : (Holds : EditFault → Type 0) → Past Holds 0
start Holds y low = absurd (omega arith)

-- one row more
pub past : (Holds : EditFault → Type 0) (x : EditFault) → ¬ Holds x → Past Holds (rank x) → Past Holds (suc (rank x))
past Holds x not before y low = by (cases_lt (rank y) (rank x))
  where
    by : rank y < rank x ⊎ (rank x ≤ rank y) → ¬ Holds y
    by (inl lower) = before y lower
    by (inr at) = let same : rank x ≡ rank y = omega arith in subst (λ z. ¬ Holds z) (one_rank x y same) not

low_rank : (x : EditFault) → rank x < 10
low_rank RootNamed = omega arith
low_rank NotAnElement = omega arith
low_rank BadValue = omega arith
low_rank NoSuchPlace = omega arith
low_rank NotATable = omega arith
low_rank IndexOutside = omega arith
low_rank NotAName = omega arith
low_rank AlreadyThere = omega arith
low_rank AddressLength = omega arith
low_rank NoMemory = omega arith

pub none : (Holds : EditFault → Type 0) → Past Holds 10 → (x : EditFault) → ¬ Holds x
none Holds all x = all x (low_rank x)

-- ---- set

-- of an edit at an address that is not the root's
pub past_root : (profile : Profile) (c : Change) (kinds : Kinds) → ¬ (place c ≡ []) → Past (Row profile c kinds) 1
past_root profile c kinds not = past (Row profile c kinds) RootNamed not (start (Row profile c kinds))

-- nor one for which no place of an element is asked
pub past_place : (profile : Profile) (c : Change) (kinds : Kinds) → ¬ (place c ≡ []) → ¬ Row profile c kinds NotAnElement → Past (Row profile c kinds) 2
past_place profile c kinds not one = past (Row profile c kinds) NotAnElement one (past_root profile c kinds not)

module _ (profile : Profile) (at : Address) (text : List ℕ) (kinds : Kinds) (not : ¬ (at ≡ [])) where
  pub set_bad : IsBadValue profile text → IsFault profile (set at text) kinds (Some BadValue)
  set_bad bad = (bad, past_place profile (set at text) kinds not (λ h. h))

  set_past_value : ¬ IsBadValue profile text → Past (Row profile (set at text) kinds) 3
  set_past_value one = past (Row profile (set at text) kinds) BadValue one (past_place profile (set at text) kinds not (λ h. h))

  pub set_nowhere : ¬ IsBadValue profile text → kinds at ≡ None → IsFault profile (set at text) kinds (Some NoSuchPlace)
  set_nowhere one is = (is, set_past_value one)

  set_past_place : ¬ IsBadValue profile text → IsSome (kinds at) → Past (Row profile (set at text) kinds) 8
  set_past_place one some =
      past (Row profile (set at text) kinds) AlreadyThere (λ h. h)
      (past (Row profile (set at text) kinds) NotAName (λ h. h)
      (past (Row profile (set at text) kinds) IndexOutside (λ h. h)
      (past (Row profile (set at text) kinds) NotATable (λ h. h) (past (Row profile (set at text) kinds) NoSuchPlace (some_none (kinds at) some) (set_past_value one)))))

  pub set_too_deep : ¬ IsBadValue profile text → IsSome (kinds at) → IsTooDeep profile at text → IsFault profile (set at text) kinds (Some AddressLength)
  set_too_deep one some deep = (deep, set_past_place one some)

  pub set_free : ¬ IsBadValue profile text → IsSome (kinds at) → ¬ IsTooDeep profile at text → IsFault profile (set at text) kinds None
  set_free one some short =
      none (Row profile (set at text) kinds) (past (Row profile (set at text) kinds) NoMemory (λ h. h) (past (Row profile (set at text) kinds) AddressLength short (set_past_place one some)))

pub set_judged : (profile : Profile) (at : Address) (text : List ℕ) (kinds : Kinds) (r : Result Datum EditFault) → ¬ (at ≡ []) → ¬ IsBadValue profile text → IsSome (kinds at) → IsFitting profile at text r → IsJudged profile (set at text) text kinds r
set_judged profile at text kinds (Ok d) root one some fits = (set_free profile at text kinds root one some fits.1, fits.0)
set_judged profile at text kinds (Err BadValue) root one some fits = absurd (one fits)
set_judged profile at text kinds (Err AddressLength) root one some fits = inr (set_too_deep profile at text kinds root one some fits.1)
set_judged profile at text kinds (Err _) root one some fits = absurd fits

-- ---- insert

-- a step is no name and an index
pub apart : (n : List ℕ) (i : ℕ) → ¬ (Name n ≡ Index i)
apart n i is = cc

pub same_index : (i j : ℕ) → Index i ≡ Index j → i ≡ j
same_index i j is = cc

module _ (profile : Profile) (at q : Address) (s : Step) (text : List ℕ) (kinds : Kinds) (is : at ≡ q ++ s ∷ []) where
  abbrev Holds : EditFault → Type 0
  Holds = Row profile (insert at text) kinds

  past_start : Past Holds 2
  past_start = past_place profile (insert at text) kinds (λ e. no_root q s (sym is ∙ e)) (λ h. h)

  pub insert_bad : IsBadValue profile text → IsFault profile (insert at text) kinds (Some BadValue)
  insert_bad bad = (bad, past_start)

  past_value : ¬ IsBadValue profile text → Past Holds 3
  past_value one = past Holds BadValue one past_start

  pub insert_nowhere : ¬ IsBadValue profile text → kinds q ≡ None → IsFault profile (insert at text) kinds (Some NoSuchPlace)
  insert_nowhere one empty = ((q, s, is, empty), past_value one)

  -- the parent is what another reading of the address has for it
  of_parent : (r : Address) (t : Step) → at ≡ r ++ t ∷ [] → kinds r ≡ kinds q
  of_parent r t e = ap kinds (sym (same_parent q r s t (sym is ∙ e)))

  of_last : (r : Address) (t : Step) → at ≡ r ++ t ∷ [] → s ≡ t
  of_last r t e = same_last q r s t (sym is ∙ e)

  past_parent : ¬ IsBadValue profile text → IsSome (kinds q) → Past Holds 4
  past_parent one some = past Holds NoSuchPlace (λ (r, t, e, empty). some_none (kinds q) some (sym (of_parent r t e) ∙ empty)) (past_value one)

  not_table : (n : List ℕ) → s ≡ Name n → ¬ (kinds q ≡ Some a_table) → Holds NotATable
  not_table n last other = (q, n, is ∙ ap (λ t. q ++ t ∷ []) last, other)

  past_table : ¬ IsBadValue profile text → IsSome (kinds q) → ((n : List ℕ) → s ≡ Name n → kinds q ≡ Some a_table) → Past Holds 5
  past_table one some table = past Holds NotATable (λ (r, n, e, other). other (of_parent r (Name n) e ∙ table n (of_last r (Name n) e))) (past_parent one some)

  past_array : ¬ IsBadValue profile text → IsSome (kinds q) → ((n : List ℕ) → s ≡ Name n → kinds q ≡ Some a_table) → ((i : ℕ) → s ≡ Index i → ¬ HasFewer kinds q i) → Past Holds 7
  past_array one some table array =
      past Holds NotAName (λ h. h)
      (past Holds IndexOutside (λ (r, i, e, fewer). array i (of_last r (Index i) e) (subst (λ p. HasFewer kinds p i) (sym (same_parent q r s (Index i) (sym is ∙ e))) fewer))
      (past_table one some table))

  past_free : ¬ IsBadValue profile text → IsSome (kinds q) → ((n : List ℕ) → s ≡ Name n → (kinds q ≡ Some a_table) × (kinds at ≡ None)) → ((i : ℕ) → s ≡ Index i → ¬ HasFewer kinds q i) → Past Holds 8
  past_free one some table array =
      past Holds AlreadyThere (λ (r, n, e, there). some_none (kinds at) there (table n (of_last r (Name n) e)).1)
      (past_array one some (λ n last. (table n last).0) array)

  pub insert_free : ¬ IsBadValue profile text → IsSome (kinds q) → ((n : List ℕ) → s ≡ Name n → (kinds q ≡ Some a_table) × (kinds at ≡ None)) → ((i : ℕ) → s ≡ Index i → ¬ HasFewer kinds q i) → ¬ IsTooDeep profile at text
      → IsFault profile (insert at text) kinds None
  insert_free one some table array short = none Holds (past Holds NoMemory (λ h. h) (past Holds AddressLength short (past_free one some table array)))

  pub insert_judged : (r : Result Datum EditFault) → ¬ IsBadValue profile text → IsSome (kinds q) → ((n : List ℕ) → s ≡ Name n → (kinds q ≡ Some a_table) × (kinds at ≡ None)) → ((i : ℕ) → s ≡ Index i → ¬ HasFewer kinds q i)
      → IsFitting profile at text r → IsJudged profile (insert at text) text kinds r
  insert_judged (Ok d) one some table array fits = (insert_free one some table array fits.1, fits.0)
  insert_judged (Err BadValue) one some table array fits = absurd (one fits)
  insert_judged (Err AddressLength) one some table array fits = inr (fits.1, past_free one some table array)
  insert_judged (Err _) one some table array fits = absurd fits

-- ---- a new part at a step

-- the map of what stands at the address
abbrev pub part_at : Kinds → Address → Kinds
part_at kinds q r = kinds (q ++ r)

pub here : (kinds : Kinds) (q : Address) → part_at kinds q [] ≡ kinds q
here kinds q = ap kinds (append-nil q)

fewer_there : (kinds : Kinds) (q : Address) (i : ℕ) → HasFewer (part_at kinds q) [] i → HasFewer kinds q i
fewer_there kinds q i (inl other) = inl (λ is. other (here kinds q ∙ is))
fewer_there kinds q i (inr w) = inr w

enough_there : (kinds : Kinds) (q : Address) (i : ℕ) → part_at kinds q [] ≡ Some an_array → ((j : ℕ) → j < i → IsSome (part_at kinds q (Index j ∷ []))) → ¬ HasFewer kinds q i
enough_there kinds q i array each (inl other) = other (sym (here kinds q) ∙ array)
enough_there kinds q i array each (inr (j, low, empty)) = some_none _ (each j low) empty

pub insert_step : (profile : Profile) (at q : Address) (s : Step) (text : List ℕ) (kinds : Kinds) (x : EditFault) → at ≡ q ++ s ∷ [] → ¬ IsBadValue profile text → IsSome (kinds q) → IsStepFault s (part_at kinds q) (Some x) → IsFault profile (insert at text) kinds (Some x)
insert_step profile at q (Name n) text kinds NotATable is one some found = (not_table profile at q (Name n) text kinds is n refl (λ table. found (here kinds q ∙ table)), past_parent profile at q (Name n) text kinds is one some)
insert_step profile at q (Name n) text kinds AlreadyThere is one some found = (
  (q, n, is, subst (λ p. IsSome (kinds p)) (sym is) found.1),
  past_array profile at q (Name n) text kinds is one some (λ m e. sym (here kinds q) ∙ found.0) (λ i e. absurd (apart n i e)),
)
insert_step profile at q (Index i) text kinds IndexOutside is one some found =
    ((q, i, is, fewer_there kinds q i found), past_table profile at q (Index i) text kinds is one some (λ n e. absurd (apart n i (sym e))))
insert_step profile at q _ text kinds _ is one some found = absurd found

pub insert_room : (profile : Profile) (at q : Address) (s : Step) (text : List ℕ) (kinds : Kinds) (r : Result Datum EditFault) → at ≡ q ++ s ∷ [] → ¬ IsBadValue profile text → IsSome (kinds q) → IsStepFault s (part_at kinds q) None → IsFitting profile at text r
    → IsJudged profile (insert at text) text kinds r
insert_room profile at q (Name n) text kinds r is one some found fits =
    insert_judged profile at q (Name n) text kinds is r one some (λ m e. (sym (here kinds q) ∙ found.0, ap kinds is ∙ found.1)) (λ i e. absurd (apart n i e)) fits
insert_room profile at q (Index i) text kinds r is one some found fits =
    insert_judged profile at q (Index i) text kinds is r one some (λ n e. absurd (apart n i (sym e))) (λ j e. subst (λ k. ¬ HasFewer kinds q k) (same_index i j e) (enough_there kinds q i found.0 found.1)) fits

-- ---- remove, rename

pub remove_free : (profile : Profile) (at q : Address) (s : Step) (kinds : Kinds) → at ≡ q ++ s ∷ [] → IsSome (kinds at) → IsFault profile (remove at) kinds None
remove_free profile at q s kinds is some RootNamed h = no_root q s (sym is ∙ h)
remove_free profile at q s kinds is some NoSuchPlace h = some_none (kinds at) some h
remove_free profile at q s kinds is some NotAnElement h = h
remove_free profile at q s kinds is some BadValue h = h
remove_free profile at q s kinds is some NotATable h = h
remove_free profile at q s kinds is some IndexOutside h = h
remove_free profile at q s kinds is some NotAName h = h
remove_free profile at q s kinds is some AlreadyThere h = h
remove_free profile at q s kinds is some AddressLength h = h
remove_free profile at q s kinds is some NoMemory h = h

pub rename_free : (profile : Profile) (at q : Address) (n to : List ℕ) (kinds : Kinds) → at ≡ child q n → IsSome (kinds at) → ¬ IsSome (kinds (child q to)) → IsFault profile (rename at to) kinds None
rename_free profile at q n to kinds is some free RootNamed h = no_root q (Name n) (sym is ∙ h)
rename_free profile at q n to kinds is some free NoSuchPlace h = some_none (kinds at) some h
rename_free profile at q n to kinds is some free NotAName (r, i, e) = apart n i (same_last q r (Name n) (Index i) (sym is ∙ e))
rename_free profile at q n to kinds is some free AlreadyThere (r, m, e, there) = free (subst (λ p. IsSome (kinds (child p to))) (sym (same_parent q r (Name n) (Name m) (sym is ∙ e))) there)
rename_free profile at q n to kinds is some free NotAnElement h = h
rename_free profile at q n to kinds is some free BadValue h = h
rename_free profile at q n to kinds is some free NotATable h = h
rename_free profile at q n to kinds is some free IndexOutside h = h
rename_free profile at q n to kinds is some free AddressLength h = h
rename_free profile at q n to kinds is some free NoMemory h = h
