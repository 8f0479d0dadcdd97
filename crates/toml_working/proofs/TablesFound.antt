-- Where a table is found that has no header.
use Rattle.std.proofs.Common.{◌≡◌, ◌∙◌, ℕ, zero, suc, ◌+◌, ◌<◌, ◌≤◌, Bool, true, false, ◌||◌, List, [], ◌∷◌, ◌++◌, length, take, Option, Some, None, refl, ap, ap₂, sym, subst, arith, append_assoc, true≢false}
use Rattle.std.specs.Prelude.{slice_get, is_some, IfSome, MatchOption}
use Rattle.std.specs.List.{list_any}
use Rattle.std.specs.Option.{option_or}
use Rattle.std.proofs.lemmas.List.{take_all}
use Rattle.std.proofs.lemmas.List.Folds.{list_any-append}
use Rattle.toml_names.specs.model.Addresses.{Address}
use Rattle.toml_tree.specs.Tree as tree
use Rattle.toml_units.specs.declared.unit.Unit.{Unit as ReadUnit}
use Rattle.toml_working.specs.declared.lines.Slot.{Slot}
use Rattle.toml_working.specs.declared.lines.Sought.{Sought}
use Rattle.toml_working.specs.declared.lines.Sought.TheVariants as sought
use Rattle.toml_working.specs.declared.working.Position.{Position}
use Rattle.toml_working.specs.declared.working.TablePlace.{TablePlace}
use Rattle.toml_working.specs.declared.working.TablePlace.TheVariants as places
use Rattle.toml_working.specs.Placing.{lines_before}
use Rattle.toml_working.specs.Seeing.{IsHeaderPlace, IsSoughtAt, IsTableLine, LacksSought, is_sought_line, read_by}
use Rattle.toml_working.specs.Standing.{Standing, Read, slot_standing, slots_standing}
use Rattle.toml_working.specs.TablePlaces.{FindsDottedIn, FindsImpliedIn, IsDottedPlace, IsFirstIn, IsImpliedIn, IsImpliedPlace, LacksBefore}
use Rattle.toml_working.proofs.Alone.{met_in, none_in_next, slice_get_none, sought_there}

-- what is sought does not stand where none of the lines is it
lacks_there : (what : Sought) (p : Address) (read : Read) (slots : List Slot) (at : Position) → LacksSought what p (slots_standing read slots)
    → IsSoughtAt what p read slots at → ⊥
lacks_there what p read slots at lacks found = true≢false (sym (sought_there what p read slots at found) ∙ lacks)

-- no header is found
pub no_header_met : (p : Address) (read : Read) (slots : List Slot) (P : TablePlace → Type 0) (o : Option TablePlace) (X : Type 0)
    → LacksSought sought.Header p (slots_standing read slots) → IfSome o (IsTableLine p read slots) → MatchOption o X IsHeaderPlace → IfSome o P
no_header_met p read slots P None X lacks finds header = tt
no_header_met p read slots P (Some (places.Header at)) X lacks finds header = absurd (lacks_there sought.Header p read slots at lacks finds)
no_header_met p read slots P (Some (places.Dotted at)) X lacks finds header = absurd header
no_header_met p read slots P (Some (places.Implicit at)) X lacks finds header = absurd header

-- no line whose dotted key makes the table is found
pub no_dotted_met : (p : Address) (read : Read) (slots : List Slot) (o : Option TablePlace) (place : TablePlace) → o ≡ Some place
    → LacksSought sought.Dotted p (slots_standing read slots) → IfSome o (IsTableLine p read slots) → IfSome o IsDottedPlace → ⊥
no_dotted_met p read slots o place is lacks finds dotted = by place (subst (λ x. IfSome x (IsTableLine p read slots)) is finds) (subst (λ x. IfSome x IsDottedPlace) is dotted)
  where
    by : (x : TablePlace) → IsTableLine p read slots x → IsDottedPlace x → ⊥
    by (places.Header at) finds dotted = dotted
    by (places.Dotted at) finds dotted = lacks_there sought.Dotted p read slots at lacks finds
    by (places.Implicit at) finds dotted = dotted

-- where something was found before it stays, else nothing was
pub not_found : {A : Type 0} (o : Option A) (X : Type 0) (P : A → Type 0) → is_some o ≡ false → MatchOption o X P → X
not_found None X P e h = h
not_found (Some x) X P e h = cc

pub found_still : {A : Type 0} (o : Option A) (X Y : Type 0) (P : A → Type 0) → is_some o ≡ true → MatchOption o X P → MatchOption o Y P
found_still None X Y P e h = cc
found_still (Some x) X Y P e h = h

-- ---- the lines before a place

-- those of the slots before, and those before it in its own
before_of_slot : (read : Read) (slots : List Slot) (k i : ℕ) (s : Slot) → slice_get slots k ≡ Some s
    → lines_before read slots k i ≡ slots_standing read (take k slots) ++ take i (slot_standing read s)
before_of_slot read [] k i s there = cc
before_of_slot read (x ∷ xs) zero i s there = let e : x ≡ s = cc in ap (λ y. take i (slot_standing read y)) e
before_of_slot read (x ∷ xs) (suc k) i s there =
    ap (λ r. slot_standing read x ++ r) (before_of_slot read xs k i s there)
    ∙ sym (append_assoc (slot_standing read x) (slots_standing read (take k xs)) (take i (slot_standing read s)))

module _ (p : Address) (units : List ReadUnit) (slots : List Slot) (i : ℕ) (lines : List tree.Line) (low : i < length slots) where
  -- a line that is the first of its slot is the first of all, where none of the slots before has one
  first_of_all : (at : Position) → IsFirstIn sought.HeaderBelow p (read_by units lines) slots i at
      → LacksSought sought.HeaderBelow p (slots_standing (read_by units lines) (take i slots))
      → LacksSought sought.HeaderBelow p (lines_before (read_by units lines) slots at.slot at.index)
  first_of_all at first so_far = by (slice_get slots i) refl first.1
    where
      read : Read
      read = read_by units lines

      test : Standing → Bool
      test = is_sought_line sought.HeaderBelow p

      by : (o : Option Slot) → slice_get slots i ≡ o → IfSome o (LacksBefore sought.HeaderBelow p read at.index)
          → LacksSought sought.HeaderBelow p (lines_before read slots at.slot at.index)
      by None there e = absurd (omega (arith, low, slice_get_none slots i there))
      by (Some s) there e =
          ap (list_any test) (ap (λ k. lines_before read slots k at.index) first.0 ∙ before_of_slot read slots i at.index s there)
          ∙ list_any-append test (slots_standing read (take i slots)) (take at.index (slot_standing read s))
          ∙ ap (λ b. b || list_any test (take at.index (slot_standing read s))) so_far ∙ e

  -- one slot more is looked through, for a line whose dotted key makes the table,
  pub dotted_next : (r : Option TablePlace) → FindsDottedIn p units slots i r → LacksSought sought.Dotted p (slots_standing (read_by units lines) (take i slots))
      → MatchOption r (LacksSought sought.Dotted p (slots_standing (read_by units lines) (take (i + 1) slots))) IsDottedPlace
  dotted_next r finds so_far = by r (finds lines)
    where
      by : (o : Option TablePlace) → MatchOption o (IfSome (slice_get slots i) (λ s. LacksSought sought.Dotted p (slot_standing (read_by units lines) s))) IsDottedPlace
          → MatchOption o (LacksSought sought.Dotted p (slots_standing (read_by units lines) (take (i + 1) slots))) IsDottedPlace
      by None h = none_in_next sought.Dotted p units slots i lines low h so_far
      by (Some place) h = h

  -- and for the first header below it
  pub implied_next : (r : Option TablePlace) → FindsImpliedIn p units slots i r → LacksSought sought.HeaderBelow p (slots_standing (read_by units lines) (take i slots))
      → MatchOption r (LacksSought sought.HeaderBelow p (slots_standing (read_by units lines) (take (i + 1) slots))) (IsImpliedPlace p (read_by units lines) slots)
  implied_next r finds so_far = by r (finds lines)
    where
      by : (o : Option TablePlace) → MatchOption o (IfSome (slice_get slots i) (λ s. LacksSought sought.HeaderBelow p (slot_standing (read_by units lines) s)))
          (IsImpliedIn p (read_by units lines) slots i)
          → MatchOption o (LacksSought sought.HeaderBelow p (slots_standing (read_by units lines) (take (i + 1) slots))) (IsImpliedPlace p (read_by units lines) slots)
      by None h = none_in_next sought.HeaderBelow p units slots i lines low h so_far
      by (Some (places.Header at)) h = absurd h
      by (Some (places.Dotted at)) h = absurd h
      by (Some (places.Implicit at)) h = first_of_all at h so_far

-- ---- what is found in the end

module _ (p : Address) (read : Read) (slots : List Slot) (n : ℕ) (past : length slots ≤ n) (dotted implicit r : Option TablePlace) (is : r ≡ option_or dotted implicit) where
  all_lack : (what : Sought) → LacksSought what p (slots_standing read (take n slots)) → LacksSought what p (slots_standing read slots)
  all_lack what lacks = ap (λ xs. list_any (is_sought_line what p) (slots_standing read xs)) (sym (take_all n slots past)) ∙ lacks

  -- a line whose dotted key makes the table, where there is one,
  pub dotted_or : MatchOption dotted (LacksSought sought.Dotted p (slots_standing read (take n slots))) IsDottedPlace
      → list_any (is_sought_line sought.Dotted p) (slots_standing read slots) ≡ true → (place : TablePlace) × (r ≡ Some place) × IsDottedPlace place
  dotted_or finds there = by dotted is finds
    where
      by : (o : Option TablePlace) → r ≡ option_or o implicit → MatchOption o (LacksSought sought.Dotted p (slots_standing read (take n slots))) IsDottedPlace
          → (place : TablePlace) × (r ≡ Some place) × IsDottedPlace place
      by None is h = absurd (true≢false (sym there ∙ all_lack sought.Dotted h))
      by (Some place) is h = (place, is, h)

  -- else the first header below it
  pub implied_or : LacksSought sought.Dotted p (slots_standing read slots) → IfSome dotted (IsTableLine p read slots)
      → MatchOption dotted (LacksSought sought.Dotted p (slots_standing read (take n slots))) IsDottedPlace
      → MatchOption implicit (LacksSought sought.HeaderBelow p (slots_standing read (take n slots))) (IsImpliedPlace p read slots)
      → list_any (is_sought_line sought.HeaderBelow p) (slots_standing read slots) ≡ true
      → (place : TablePlace) × (r ≡ Some place) × IsImpliedPlace p read slots place
  implied_or no_dotted table finds below there = by dotted refl implicit refl below
    where
      by : (o : Option TablePlace) → dotted ≡ o → (x : Option TablePlace) → implicit ≡ x
          → MatchOption x (LacksSought sought.HeaderBelow p (slots_standing read (take n slots))) (IsImpliedPlace p read slots)
          → (place : TablePlace) × (r ≡ Some place) × IsImpliedPlace p read slots place
      by (Some place) found x e h = absurd (no_dotted_met p read slots dotted place found no_dotted table (met_in IsDottedPlace dotted _ finds))
      by None found None e h = absurd (true≢false (sym there ∙ all_lack sought.HeaderBelow h))
      by None found (Some place) e h = (place, is ∙ ap₂ option_or found e, h)
