-- A beginning of what is carried is carried to a beginning as long.
use Rattle.std.proofs.Common.{◌≡◌, ℕ, suc, ◌+◌, ◌-◌, ◌^◌, List, [], ◌∷◌, ◌++◌, Option, Some, None, Bool, true, false, cond, bytes_eq, refl, ap, ◌∙◌}
use Rattle.std.specs.Prelude.{option_map}
use Rattle.std.specs.Bool.{nat_lt, nat_eq}
use Rattle.toml_names.specs.declared.model.address.Step.{Step}
use Rattle.toml_names.specs.declared.model.address.Step.TheVariants.{Name, Index}
use Rattle.toml_names.specs.model.Addresses.{Address, same_step}
use Rattle.toml_edits.specs.Carry.{Carrier, carry_below, emptied, nowhere, up_from, down_above, to_name, setting, inserting, renaming, removing}
use Rattle.toml_edits.specs.Edits.{set, insert, rename, remove, new_section, new_element}
use Rattle.toml_edits.specs.Laws.{Front, CarriedFront}
use Rattle.toml_edits.proofs.Along.{by_parts}

abbrev pub IsFrontal : Carrier → Type 0
IsFrontal c = (a r b : Address) → c (a ++ r) ≡ Some b → Front c a b

pub onto : (t : Step) (o : Option Address) (b : Address) → option_map (λ r. t ∷ r) o ≡ Some b → (r : Address) × (o ≡ Some r) × (b ≡ t ∷ r)
onto t None b e = cc
onto t (Some r) b e = (r, refl, cc)

pub below_front : (p : Address) (c : Carrier) → IsFrontal c → IsFrontal (carry_below p c)
below_front [] c l a r b e = l a r b e
below_front (s ∷ p) c l [] r b e = record { to = []; rest = b; carried = refl; whole = refl; same = refl }
below_front (s ∷ p) c l (t ∷ a) r b e = by (same_step s t) refl (λ x h. below_front p c l a r x h) e
  where
    by : (same : Bool) → same_step s t ≡ same → ((x : Address) → carry_below p c (a ++ r) ≡ Some x → Front (carry_below p c) a x)
        → cond same (option_map (λ x. t ∷ x) (carry_below p c (a ++ r))) (Some (t ∷ a ++ r)) ≡ Some b → Front (carry_below (s ∷ p) c) (t ∷ a) b
    by false is next e = record { to = t ∷ a; rest = r; carried = rw is refl; whole = cc; same = refl }
    by true is next e =
        let w = onto t (carry_below p c (a ++ r)) b e in
        let f = next w.0 w.1 in
        record { to = t ∷ f.to; rest = f.rest; carried = rw (is, f.carried) refl; whole = w.2 ∙ ap (λ x. t ∷ x) f.whole; same = ap suc f.same }

same_front : IsFrontal Some
same_front a r b e = record { to = a; rest = r; carried = refl; whole = cc; same = refl }

pub nowhere_front : IsFrontal nowhere
nowhere_front a r b e = cc

emptied_front : IsFrontal emptied
emptied_front [] r b e = record { to = []; rest = b; carried = refl; whole = refl; same = refl }
emptied_front (t ∷ a) r b e = cc

up_front : (i : ℕ) → IsFrontal (up_from i)
up_front i [] r b e = record { to = []; rest = b; carried = refl; whole = refl; same = refl }
up_front i (Name n ∷ a) r b e = record { to = Name n ∷ a; rest = r; carried = refl; whole = cc; same = refl }
up_front i (Index j ∷ a) r b e = by (nat_lt j i) refl (nat_lt (j + 1) (2 ^ 64)) refl e
  where
    by : (low : Bool) → nat_lt j i ≡ low → (fits : Bool) → nat_lt (j + 1) (2 ^ 64) ≡ fits → cond low (Some (Index j ∷ a ++ r)) (cond fits (Some (Index (j + 1) ∷ a ++ r)) None) ≡ Some b → Front (up_from i) (Index j ∷ a) b
    by true low fits is e = record { to = Index j ∷ a; rest = r; carried = rw low refl; whole = cc; same = refl }
    by false low true is e = record { to = Index (j + 1) ∷ a; rest = r; carried = rw (low, is) refl; whole = cc; same = refl }
    by false low false is e = cc

down_front : (i : ℕ) → IsFrontal (down_above i)
down_front i [] r b e = record { to = []; rest = b; carried = refl; whole = refl; same = refl }
down_front i (Name n ∷ a) r b e = record { to = Name n ∷ a; rest = r; carried = refl; whole = cc; same = refl }
down_front i (Index j ∷ a) r b e = by (nat_lt j i) refl (nat_eq j i) refl e
  where
    by : (low : Bool) → nat_lt j i ≡ low → (here : Bool) → nat_eq j i ≡ here → cond low (Some (Index j ∷ a ++ r)) (cond here None (Some (Index (j - 1) ∷ a ++ r))) ≡ Some b → Front (down_above i) (Index j ∷ a) b
    by true low here is e = record { to = Index j ∷ a; rest = r; carried = rw low refl; whole = cc; same = refl }
    by false low true is e = cc
    by false low false is e = record { to = Index (j - 1) ∷ a; rest = r; carried = rw (low, is) refl; whole = cc; same = refl }

name_front : (from to : List ℕ) → IsFrontal (to_name from to)
name_front from to [] r b e = record { to = []; rest = b; carried = refl; whole = refl; same = refl }
name_front from to (Index i ∷ a) r b e = record { to = Index i ∷ a; rest = r; carried = refl; whole = cc; same = refl }
name_front from to (Name n ∷ a) r b e = by (bytes_eq from n) refl e
  where
    by : (old : Bool) → bytes_eq from n ≡ old → cond old (Some (Name to ∷ a ++ r)) (Some (Name n ∷ a ++ r)) ≡ Some b → Front (to_name from to) (Name n ∷ a) b
    by true is e = record { to = Name to ∷ a; rest = r; carried = rw is refl; whole = cc; same = refl }
    by false is e = record { to = Name n ∷ a; rest = r; carried = rw is refl; whole = cc; same = refl }

set_front : (at : Address) → IsFrontal (setting at)
set_front [] = same_front
set_front (s ∷ p) = below_front (s ∷ p) emptied emptied_front

insert_front : (q : Address) (s : Step) → IsFrontal (inserting (Some (q, s)))
insert_front q (Name n) = same_front
insert_front q (Index i) = below_front q (up_from i) (up_front i)

rename_front : (to : List ℕ) (q : Address) (s : Step) → IsFrontal (renaming (Some (q, s)) to)
rename_front to q (Name n) = below_front q (to_name n to) (name_front n to)
rename_front to q (Index i) = same_front

remove_front : (q : Address) (s : Step) → IsFrontal (removing (Some (q, s)))
remove_front q (Name n) = below_front q (carry_below (Name n ∷ []) nowhere) (below_front (Name n ∷ []) nowhere nowhere_front)
remove_front q (Index i) = below_front q (down_above i) (down_front i)

pub carried_front : CarriedFront
carried_front (set at value) = set_front at
carried_front (insert at value) = by_parts (λ o p. IsFrontal (inserting o)) same_front insert_front at
carried_front (rename at to) = by_parts (λ o p. IsFrontal (renaming o to)) same_front (rename_front to) at
carried_front (remove at) = by_parts (λ o p. IsFrontal (removing o)) same_front remove_front at
carried_front (new_section at) = same_front
carried_front (new_element at) = same_front
