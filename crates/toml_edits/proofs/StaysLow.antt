-- An edit carries indices at most one higher.
use Rattle.std.proofs.Common.{ℕ, ◌+◌, ◌-◌, ◌≤◌, ◌^◌, List, [], ◌∷◌, Option, Some, None, Bool, true, false, cond, bytes_eq, arith}
use Rattle.std.specs.Prelude.{IfSome, option_map}
use Rattle.std.specs.Bool.{nat_lt, nat_eq}
use Rattle.toml_names.specs.declared.model.address.Step.{Step}
use Rattle.toml_names.specs.declared.model.address.Step.TheVariants.{Name, Index}
use Rattle.toml_names.specs.model.Addresses.{Address, same_step}
use Rattle.toml_names.specs.model.Indices.{IsLow}
use Rattle.toml_edits.specs.Carry.{Carrier, carry_below, parted, inserting, renaming, removing, setting, emptied, nowhere, up_from, down_above, to_name}
use Rattle.toml_edits.specs.Edits.{set, insert, rename, remove, new_section, new_element}
use Rattle.toml_edits.specs.Fitting.{CarriedStayLow}

pub lower : (m n : ℕ) → m ≤ n → (a : Address) → IsLow m a → IsLow n a
lower m n le [] h = tt
lower m n le (Name x ∷ a) h = (tt, lower m n le a h.1)
lower m n le (Index i ∷ a) h = (omega (arith, h.0), lower m n le a h.1)

later : (n : ℕ) (a : Address) → IsLow n a → IsLow (n + 1) a
later n a h = lower n (n + 1) (omega arith) a h

-- the carrier carries indices at most one higher
abbrev Rises : Carrier → Type 0
Rises c = (n : ℕ) (a : Address) → IsLow n a → IfSome (c a) (IsLow (n + 1))

under : (n : ℕ) (t : Step) (a : Address) → IsLow n (t ∷ a) → (y : Option Address) → IfSome y (IsLow (n + 1)) → IfSome (option_map (λ r. t ∷ r) y) (IsLow (n + 1))
under n t a h None k = tt
under n (Name x) a h (Some b) k = (tt, k)
under n (Index i) a h (Some b) k = (omega (arith, h.0), k)

below_rises : (q : Address) (c : Carrier) → Rises c → Rises (carry_below q c)
below_rises [] c h n a low = h n a low
below_rises (s ∷ q) c h n [] low = tt
below_rises (s ∷ q) c h n (t ∷ a) low = by (same_step s t) (below_rises q c h n a low.1)
  where
    by : (b : Bool) → IfSome (carry_below q c a) (IsLow (n + 1)) → IfSome (cond b (option_map (λ r. t ∷ r) (carry_below q c a)) (Some (t ∷ a))) (IsLow (n + 1))
    by true k = under n t a low (carry_below q c a) k
    by false k = later n (t ∷ a) low

still_rises : Rises Some
still_rises n a low = later n a low

emptied_rises : Rises emptied
emptied_rises n [] low = tt
emptied_rises n (t ∷ a) low = tt

nowhere_rises : Rises nowhere
nowhere_rises n a low = tt

up_rises : (i : ℕ) → Rises (up_from i)
up_rises i n [] low = tt
up_rises i n (Name x ∷ a) low = later n (Name x ∷ a) low
up_rises i n (Index j ∷ a) low = by (nat_lt j i) (nat_lt (j + 1) (2 ^ 64))
  where
    by : (b d : Bool) → IfSome (cond b (Some (Index j ∷ a)) (cond d (Some (Index (j + 1) ∷ a)) None)) (IsLow (n + 1))
    by true d = later n (Index j ∷ a) low
    by false true = (omega (arith, low.0), later n a low.1)
    by false false = tt

down_rises : (i : ℕ) → Rises (down_above i)
down_rises i n [] low = tt
down_rises i n (Name x ∷ a) low = later n (Name x ∷ a) low
down_rises i n (Index j ∷ a) low = by (nat_lt j i) (nat_eq j i)
  where
    by : (b d : Bool) → IfSome (cond b (Some (Index j ∷ a)) (cond d None (Some (Index (j - 1) ∷ a)))) (IsLow (n + 1))
    by true d = later n (Index j ∷ a) low
    by false true = tt
    by false false = (omega (arith, low.0), later n a low.1)

name_rises : (m to : List ℕ) → Rises (to_name m to)
name_rises m to n [] low = tt
name_rises m to n (Index i ∷ a) low = later n (Index i ∷ a) low
name_rises m to n (Name x ∷ a) low = by (bytes_eq m x)
  where
    by : (b : Bool) → IfSome (cond b (Some (Name to ∷ a)) (Some (Name x ∷ a))) (IsLow (n + 1))
    by true = (tt, later n a low.1)
    by false = later n (Name x ∷ a) low

inserting_rises : (x : Option (Address × Step)) → Rises (inserting x)
inserting_rises None = still_rises
inserting_rises (Some (q, Name m)) = still_rises
inserting_rises (Some (q, Index i)) = below_rises q (up_from i) (up_rises i)

renaming_rises : (x : Option (Address × Step)) (to : List ℕ) → Rises (renaming x to)
renaming_rises None to = still_rises
renaming_rises (Some (q, Name m)) to = below_rises q (to_name m to) (name_rises m to)
renaming_rises (Some (q, Index i)) to = still_rises

removing_rises : (x : Option (Address × Step)) → Rises (removing x)
removing_rises None = still_rises
removing_rises (Some (q, Name m)) = below_rises q (carry_below (Name m ∷ []) nowhere) (below_rises (Name m ∷ []) nowhere nowhere_rises)
removing_rises (Some (q, Index i)) = below_rises q (down_above i) (down_rises i)

setting_rises : (at : Address) → Rises (setting at)
setting_rises [] = still_rises
setting_rises (s ∷ p) = below_rises (s ∷ p) emptied emptied_rises

pub stays_low : CarriedStayLow
stays_low n (set at value) a low = setting_rises at n a low
stays_low n (insert at value) a low = inserting_rises (parted at) n a low
stays_low n (rename at to) a low = renaming_rises (parted at) to n a low
stays_low n (remove at) a low = removing_rises (parted at) n a low
stays_low n (new_section at) a low = still_rises n a low
stays_low n (new_element at) a low = still_rises n a low
