-- An edit that removes nothing at or above an address, and sets nothing above it, carries it to an address.
use Rattle.std.proofs.Common.{◌≡◌, ◌⊎◌, inl, inr, ℕ, ◌+◌, ◌-◌, ◌<◌, ◌≤◌, ◌^◌, List, [], ◌∷◌, ◌++◌, Option, Some, None, Bool, true, false, cond, bytes_eq, refl, sym, ap, ◌∙◌, append_assoc, arith}
use Rattle.std.proofs.lemmas.Bool.Decides.{nat_tests}
use Rattle.std.specs.Prelude.{option_map}
use Rattle.std.specs.Bool.{nat_lt, nat_eq}
use Rattle.toml_names.specs.declared.model.address.Step.{Step}
use Rattle.toml_names.specs.declared.model.address.Step.TheVariants.{Name, Index}
use Rattle.toml_names.specs.model.Addresses.{Address, IsAbove, same_step}
use Rattle.toml_names.specs.model.Indices.{IsLow}
use Rattle.toml_names.proofs.Proved.{same_step-equal}
use Rattle.toml_edits.specs.Carry.{Carrier, carry, carry_below, emptied, nowhere, up_from, down_above, to_name, setting, inserting, renaming, removing}
use Rattle.toml_edits.specs.Edits.{Change, set, insert, rename, remove, new_section, new_element}
use Rattle.toml_checker.proofs.Parted.{by_parts}
use Rattle.toml_checker.specs.CarriedTo.{IsAtOrAbove}
use Rattle.toml_checker.specs.GoneAndChanged.{Removes, SetsAbove}

-- carried to an address whose indices are at most one higher
abbrev pub Arrives : ℕ → Option Address → Type 0
Arrives n o = (b : Address) × (o ≡ Some b) × IsLow (n + 1) b

pub lower : (m n : ℕ) → m ≤ n → (a : Address) → IsLow m a → IsLow n a
lower m n le [] h = tt
lower m n le (Name x ∷ a) h = (tt, lower m n le a h.1)
lower m n le (Index i ∷ a) h = (omega (arith, h.0), lower m n le a h.1)

later : (n : ℕ) (a : Address) → IsLow n a → IsLow (n + 1) a
later n a h = lower n (n + 1) (omega arith) a h

with_step : (n : ℕ) (t : Step) (a : Address) → IsLow n (t ∷ a) → (b : Address) → IsLow (n + 1) b → IsLow (n + 1) (t ∷ b)
with_step n (Name x) a h b k = (tt, k)
with_step n (Index i) a h b k = (omega (arith, h.0), k)

below_arrives : (n : ℕ) (p : Address) (g : Carrier) (X : Address → Type 0) → ((r : Address) → IsLow n r → Arrives n (g r) ⊎ X r) → (a : Address) → IsLow n a
    → Arrives n (carry_below p g a) ⊎ ((r : Address) × (a ≡ p ++ r) × X r)
below_arrives n [] g X h a low = by (h a low)
  where
    by : Arrives n (g a) ⊎ X a → Arrives n (g a) ⊎ ((r : Address) × (a ≡ r) × X r)
    by (inl w) = inl w
    by (inr x) = inr (a, refl, x)
below_arrives n (s ∷ p) g X h [] low = inl ([], refl, tt)
below_arrives n (s ∷ p) g X h (t ∷ a) low = by (same_step s t) refl (below_arrives n p g X h a low.1)
  where
    by : (b : Bool) → same_step s t ≡ b → Arrives n (carry_below p g a) ⊎ ((r : Address) × (a ≡ p ++ r) × X r)
        → Arrives n (cond b (option_map (λ r. t ∷ r) (carry_below p g a)) (Some (t ∷ a))) ⊎ ((r : Address) × (t ∷ a ≡ s ∷ p ++ r) × X r)
    by false is w = inl (t ∷ a, refl, later n (t ∷ a) low)
    by true is (inl w) = inl (t ∷ w.0, ap (option_map (λ r. t ∷ r)) w.1, with_step n t a low w.0 w.2)
    by true is (inr w) = inr (w.0, ap (λ x. x ∷ a) (sym (same_step-equal s t is)) ∙ ap (λ r. s ∷ r) w.1, w.2)

emptied_arrives : (n : ℕ) (r : Address) → IsLow n r → Arrives n (emptied r) ⊎ ((t : Step) × (b : Address) × (r ≡ t ∷ b))
emptied_arrives n [] low = inl ([], refl, tt)
emptied_arrives n (t ∷ b) low = inr (t, b, refl)

up_arrives : (n i : ℕ) → n < 2 ^ 64 → (r : Address) → IsLow n r → Arrives n (up_from i r) ⊎ ⊥
up_arrives n i room [] low = inl ([], refl, tt)
up_arrives n i room (Name x ∷ r) low = inl (Name x ∷ r, refl, later n (Name x ∷ r) low)
up_arrives n i room (Index j ∷ r) low = by (nat_lt j i) (nat_lt (j + 1) (2 ^ 64)) refl
  where
    by : (a b : Bool) → nat_lt (j + 1) (2 ^ 64) ≡ b → Arrives n (cond a (Some (Index j ∷ r)) (cond b (Some (Index (j + 1) ∷ r)) None)) ⊎ ⊥
    by true b is = inl (Index j ∷ r, refl, later n (Index j ∷ r) low)
    by false true is = inl (Index (j + 1) ∷ r, refl, (omega (arith, low.0), later n r low.1))
    by false false is = absurd (let l : j < n = low.0 in let m : j + 1 < 2 ^ 64 = omega arith in grind (arith, nat_tests))

name_arrives : (n : ℕ) (from to : List ℕ) (r : Address) → IsLow n r → Arrives n (to_name from to r) ⊎ ⊥
name_arrives n from to [] low = inl ([], refl, tt)
name_arrives n from to (Index i ∷ r) low = inl (Index i ∷ r, refl, later n (Index i ∷ r) low)
name_arrives n from to (Name x ∷ r) low = by (bytes_eq from x)
  where
    by : (b : Bool) → Arrives n (cond b (Some (Name to ∷ r)) (Some (Name x ∷ r))) ⊎ ⊥
    by true = inl (Name to ∷ r, refl, (tt, later n r low.1))
    by false = inl (Name x ∷ r, refl, later n (Name x ∷ r) low)

down_arrives : (n i : ℕ) (r : Address) → IsLow n r → Arrives n (down_above i r) ⊎ ((b : Address) × (r ≡ Index i ∷ b))
down_arrives n i [] low = inl ([], refl, tt)
down_arrives n i (Name x ∷ r) low = inl (Name x ∷ r, refl, later n (Name x ∷ r) low)
down_arrives n i (Index j ∷ r) low = by (nat_lt j i) (nat_eq j i) refl
  where
    by : (a b : Bool) → nat_eq j i ≡ b → Arrives n (cond a (Some (Index j ∷ r)) (cond b None (Some (Index (j - 1) ∷ r)))) ⊎ ((b : Address) × (Index j ∷ r ≡ Index i ∷ b))
    by true b is = inl (Index j ∷ r, refl, later n (Index j ∷ r) low)
    by false true is = inr (r, let e : j ≡ i = grind (arith, nat_tests) in ap (λ k. Index k ∷ r) e)
    by false false is = inl (Index (j - 1) ∷ r, refl, (omega (arith, low.0), later n r low.1))

away_arrives : (n : ℕ) (name : List ℕ) (r : Address) → IsLow n r → Arrives n (carry_below (Name name ∷ []) nowhere r) ⊎ ((b : Address) × (r ≡ Name name ∷ b))
away_arrives n name r low = by (below_arrives n (Name name ∷ []) nowhere (λ b. Unit {0}) (λ b h. inr tt) r low)
  where
    by : Arrives n (carry_below (Name name ∷ []) nowhere r) ⊎ ((b : Address) × (r ≡ Name name ∷ [] ++ b) × Unit {0}) → Arrives n (carry_below (Name name ∷ []) nowhere r) ⊎ ((b : Address) × (r ≡ Name name ∷ b))
    by (inl w) = inl w
    by (inr w) = inr (w.0, w.1)

abbrev pub Sent : Change → ℕ → Address → Type 0
Sent c n a = Arrives n (carry c a) ⊎ (Removes c a ⊎ SetsAbove c a)

same_arrives : (n : ℕ) (a : Address) → IsLow n a → Arrives n (Some a)
same_arrives n a low = (a, refl, later n a low)

abbrev setting_sent : Address → ℕ → Address → Type 0
setting_sent p n a = Arrives n (setting p a) ⊎ (⊥ ⊎ IsAbove p a)

set_at : (p : Address) (n : ℕ) (a : Address) → IsLow n a → setting_sent p n a
set_at [] n a low = inl (same_arrives n a low)
set_at (s ∷ p) n a low = by (below_arrives n (s ∷ p) emptied (λ r. (t : Step) × (b : Address) × (r ≡ t ∷ b)) (emptied_arrives n) a low)
  where
    by : Arrives n (setting (s ∷ p) a) ⊎ ((r : Address) × (a ≡ s ∷ p ++ r) × ((t : Step) × (b : Address) × (r ≡ t ∷ b))) → setting_sent (s ∷ p) n a
    by (inl w) = inl w
    by (inr (r, is, (t, b, e))) = inr (inr (t, b, is ∙ ap (λ x. s ∷ p ++ x) e))

insert_at : (n : ℕ) → n < 2 ^ 64 → (a : Address) → IsLow n a → (q : Address) (s : Step) → Arrives n (inserting (Some (q, s)) a)
insert_at n room a low q (Name x) = same_arrives n a low
insert_at n room a low q (Index i) = by (below_arrives n q (up_from i) (λ r. ⊥) (up_arrives n i room) a low)
  where
    by : Arrives n (inserting (Some (q, Index i)) a) ⊎ ((r : Address) × (a ≡ q ++ r) × ⊥) → Arrives n (inserting (Some (q, Index i)) a)
    by (inl w) = w
    by (inr w) = absurd w.2

rename_at : (to : List ℕ) (n : ℕ) (a : Address) → IsLow n a → (q : Address) (s : Step) → Arrives n (renaming (Some (q, s)) to a)
rename_at to n a low q (Index i) = same_arrives n a low
rename_at to n a low q (Name x) = by (below_arrives n q (to_name x to) (λ r. ⊥) (name_arrives n x to) a low)
  where
    by : Arrives n (renaming (Some (q, Name x)) to a) ⊎ ((r : Address) × (a ≡ q ++ r) × ⊥) → Arrives n (renaming (Some (q, Name x)) to a)
    by (inl w) = w
    by (inr w) = absurd w.2

remove_at : (n : ℕ) (a : Address) → IsLow n a → (q : Address) (s : Step) → Arrives n (removing (Some (q, s)) a) ⊎ IsAtOrAbove (q ++ s ∷ []) a
remove_at n a low q (Name x) = by (below_arrives n q (carry_below (Name x ∷ []) nowhere) (λ r. (b : Address) × (r ≡ Name x ∷ b)) (away_arrives n x) a low)
  where
    by : Arrives n (removing (Some (q, Name x)) a) ⊎ ((r : Address) × (a ≡ q ++ r) × ((b : Address) × (r ≡ Name x ∷ b))) → Arrives n (removing (Some (q, Name x)) a) ⊎ IsAtOrAbove (q ++ Name x ∷ []) a
    by (inl w) = inl w
    by (inr (r, is, (b, e))) = inr (b, is ∙ ap (λ y. q ++ y) e ∙ sym (append_assoc q (Name x ∷ []) b))
remove_at n a low q (Index i) = by (below_arrives n q (down_above i) (λ r. (b : Address) × (r ≡ Index i ∷ b)) (down_arrives n i) a low)
  where
    by : Arrives n (removing (Some (q, Index i)) a) ⊎ ((r : Address) × (a ≡ q ++ r) × ((b : Address) × (r ≡ Index i ∷ b))) → Arrives n (removing (Some (q, Index i)) a) ⊎ IsAtOrAbove (q ++ Index i ∷ []) a
    by (inl w) = inl w
    by (inr (r, is, (b, e))) = inr (b, is ∙ ap (λ y. q ++ y) e ∙ sym (append_assoc q (Index i ∷ []) b))

pub sent : (c : Change) (n : ℕ) → n < 2 ^ 64 → (a : Address) → IsLow n a → Sent c n a
sent (set at value) n room a low = set_at at n a low
sent (insert at value) n room a low = inl (by_parts (λ o p. Arrives n (inserting o a)) (same_arrives n a low) (insert_at n room a low) at)
sent (rename at to) n room a low = inl (by_parts (λ o p. Arrives n (renaming o to a)) (same_arrives n a low) (rename_at to n a low) at)
sent (remove at) n room a low = by (by_parts (λ o p. Arrives n (removing o a) ⊎ IsAtOrAbove p a) (inl (same_arrives n a low)) (remove_at n a low) at)
  where
    by : Arrives n (carry (remove at) a) ⊎ IsAtOrAbove at a → Sent (remove at) n a
    by (inl w) = inl w
    by (inr w) = inr (inl w)
sent (new_section at) n room a low = inl (same_arrives n a low)
sent (new_element at) n room a low = inl (same_arrives n a low)
