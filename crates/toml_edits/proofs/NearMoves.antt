-- What an edit makes of data is moved by a carrier that leaves alone what is hidden from the edit.
use Rattle.std.proofs.Common.{◌≡◌, inl, inr, ℕ, List, [], ◌∷◌, Option, Some, None, Bool, true, false, cond, refl, sym, ap, subst, ◌∙◌, append-nil}
use Rattle.std.proofs.lemmas.Option.{none-some}
use Rattle.toml_tree.specs.declared.profile.Profile.{Profile}
use Rattle.toml_names.specs.declared.model.address.Step.TheVariants.{Name, Index}
use Rattle.toml_names.specs.model.Addresses.{Address, child, element, same_step}
use Rattle.toml_names.specs.model.Data.{Kinds}
use Rattle.toml_names.specs.model.Hidden.{Cover}
use Rattle.toml_names.specs.mentions.Mentions.{Kind}
use Rattle.toml_edits.specs.After.{AddsElement, IsAfter, Moves, nothing, an_empty_table, one_empty_table}
use Rattle.toml_edits.specs.Carry.{Carrier, carry, carry_below, inserting, nowhere, removing, renaming}
use Rattle.toml_edits.specs.Edits.{Change, set, insert, rename, remove, new_section, new_element}
use Rattle.toml_edits.specs.Near.{IsNear}
use Rattle.toml_edits.proofs.Along.{by_parts}
use Rattle.toml_edits.proofs.HiddenFacts.{Agree, IsPlacedApart, Leaves}
use Rattle.toml_edits.proofs.NearCarriers.{IsOpen, all_stay, insert_leaves, open_below, remove_leaves, rename_leaves}

-- the way of an edit: what moves the facts, and that two maps that it leads from one to the other are what the edit makes, also of
-- other data that have the same where nothing is hidden
pub record Moved (profile : Profile) (h : Cover) (c : Change) (old new : Kinds) : Type 0 where
  pub carrier : Carrier
  pub at : Address
  pub value : Kinds
  pub leaves : Leaves h carrier
  pub apart : IsPlacedApart h at value
  pub moves : Moves carrier at value old new
  pub after : (f g : Kinds) → Agree h old f → Moves carrier at value f g → IsAfter profile c f g

-- ---- what is placed

placed_open : (h : Cover) (p : Address) (v : Kinds) → IsOpen h p → IsPlacedApart h p v
placed_open h p v seen r k have = seen r

nothing_placed : (h : Cover) (p : Address) → IsPlacedApart h p nothing
nothing_placed h p r k have = absurd (none-some k have)

-- of an array of one empty table the array and its element alone are something
array_placed : (h : Cover) (q : Address) → h q ≡ false → ((j : ℕ) → h (element q j) ≡ false) → IsPlacedApart h q one_empty_table
array_placed h q array elements [] k have = ap h (append-nil q) ∙ array
array_placed h q array elements (Name n ∷ a) k have = absurd (none-some k have)
array_placed h q array elements (Index j ∷ []) k have = elements j
array_placed h q array elements (Index j ∷ t ∷ a) k have = absurd (none (same_step (Index 0) (Index j)) have)
  where
    none : (b : Bool) → ¬ (cond b (an_empty_table (t ∷ a)) None ≡ Some k)
    none true is = none-some k is
    none false is = none-some k is

-- ---- the edits

element_moved : (profile : Profile) (h : Cover) (at q : Address) (i : ℕ) (old new : Kinds) → IsNear h (new_element at) → at ≡ element q i → (o : Option Kind) → old q ≡ o → AddsElement q at o old new → Moved profile h (new_element at) old new
element_moved profile h at q i old new near is None here moves = record {
  carrier = Some;
  at = q;
  value = one_empty_table;
  leaves = all_stay h;
  apart = array_placed h q (near.fronts q (Index i ∷ []) is) (λ j. near.elements q (Index i ∷ []) j is);
  moves = moves;
  after = λ f g agree m. (q, i, is, subst (λ o. AddsElement q at o f g) (sym here ∙ agree q (near.fronts q (Index i ∷ []) is)) m);
}
element_moved profile h at q i old new near is (Some k) here moves = record {
  carrier = Some;
  at = at;
  value = an_empty_table;
  leaves = all_stay h;
  apart = placed_open h at an_empty_table (λ r. near.opened at r refl);
  moves = moves;
  after = λ f g agree m. (q, i, is, subst (λ o. AddsElement q at o f g) (sym here ∙ agree q (near.fronts q (Index i ∷ []) is)) m);
}

insert_stays : (h : Cover) (at : Address) (value : List ℕ) → IsNear h (insert at value) → Leaves h (carry (insert at value))
insert_stays h at value near =
    by_parts (λ o p. ((q : Address) (i : ℕ) → p ≡ element q i → IsOpen h q) → Leaves h (inserting o)) (λ array. all_stay h) (λ q s array. insert_leaves h q s (array q)) at (λ q i is r. near.opened q r (inr (i, is)))

rename_stays : (h : Cover) (at : Address) (to : List ℕ) → IsNear h (rename at to) → Leaves h (carry (rename at to))
rename_stays h at to near =
    by_parts (λ o p. IsOpen h p → ((q : Address) (n : List ℕ) → p ≡ child q n → IsOpen h (child q to)) → Leaves h (renaming o to)) (λ seen new. all_stay h) (λ q s seen new. rename_leaves h to q s seen (new q)) at
    (λ r. near.opened at r (inl refl)) (λ q n is r. near.opened (child q to) r (inr (q, n, is, refl)))

remove_stays : (h : Cover) (at : Address) → IsNear h (remove at) → Leaves h (carry (remove at))
remove_stays h at near =
    by_parts (λ o p. IsOpen h p → ((q : Address) (i : ℕ) → p ≡ element q i → IsOpen h q) → Leaves h (removing o)) (λ seen array. all_stay h) (λ q s seen array. remove_leaves h q s seen (array q)) at
    (λ r. near.opened at r (inl refl)) (λ q i is r. near.opened q r (inr (i, is)))

pub moved : (profile : Profile) (h : Cover) (c : Change) (old new : Kinds) → IsNear h c → IsAfter profile c old new → Moved profile h c old new
moved profile h (set at value) old new near (v, good, moves) = record {
  carrier = carry_below at nowhere;
  at = at;
  value = v;
  leaves = open_below at h nowhere (λ r. near.opened at r refl);
  apart = placed_open h at v (λ r. near.opened at r refl);
  moves = moves;
  after = λ f g agree m. (v, good, m);
}
moved profile h (insert at value) old new near (v, good, moves) = record {
  carrier = carry (insert at value);
  at = at;
  value = v;
  leaves = insert_stays h at value near;
  apart = placed_open h at v (λ r. near.opened at r (inl refl));
  moves = moves;
  after = λ f g agree m. (v, good, m);
}
moved profile h (rename at to) old new near moves = record {
  carrier = carry (rename at to);
  at = [];
  value = nothing;
  leaves = rename_stays h at to near;
  apart = nothing_placed h [];
  moves = moves;
  after = λ f g agree m. m;
}
moved profile h (remove at) old new near moves = record {
  carrier = carry (remove at);
  at = [];
  value = nothing;
  leaves = remove_stays h at near;
  apart = nothing_placed h [];
  moves = moves;
  after = λ f g agree m. m;
}
moved profile h (new_section at) old new near moves = record {
  carrier = Some;
  at = at;
  value = an_empty_table;
  leaves = all_stay h;
  apart = placed_open h at an_empty_table (λ r. near.opened at r refl);
  moves = moves;
  after = λ f g agree m. m;
}
moved profile h (new_element at) old new near (q, i, is, adds) = element_moved profile h at q i old new near is (old q) refl adds
