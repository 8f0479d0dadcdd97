-- Beginnings of what a list carries, and the order of two things that are carried.
use Rattle.std.proofs.Common.{◌≡◌, ℕ, zero, suc, ◌≤◌, List, [], ◌∷◌, ◌++◌, length, Option, Some, None, IsSome, is_some, true≢false, refl, sym, ap, subst, ◌∙◌, arith, length-append}
use Rattle.std.proofs.lemmas.List.{append-nil}
use Rattle.std.proofs.lemmas.Option.{same_Some}
use Rattle.std.specs.Prelude.{option_and_then}
use Rattle.toml_names.specs.model.Addresses.{Address}
use Rattle.toml_names.specs.mentions.Mentions.{Kind}
use Rattle.toml_edits.specs.Carry.{carry}
use Rattle.toml_edits.specs.Edits.{Change}
use Rattle.toml_edits.specs.Laws.{FrontsStand}
use Rattle.toml_edits.specs.ListLaws.{ListsCarryFronts, CarriedKeepOrder}
use Rattle.toml_edits.specs.Lists.{carried}
use Rattle.toml_edits.proofs.Apart.{nothing_below}
use Rattle.toml_edits.proofs.Fronts.{carried_front}
use Rattle.toml_edits.proofs.ListsApart.{lists_carry_apart, through}

pub lists_carry_fronts : ListsCarryFronts
lists_carry_fronts [] a r b e = record { to = a; rest = r; carried = refl; whole = sym (same_Some (a ++ r) b e); same = refl }
lists_carry_fronts (c ∷ cs) a r b e =
    let x = through cs (carry c (a ++ r)) b e in
    let f = carried_front c a r x.0 x.1 in
    let g = lists_carry_fronts cs f.to f.rest b (ap (carried cs) (sym f.whole) ∙ x.2) in
    record { to = g.to; rest = g.rest; carried = ap (option_and_then (carried cs)) f.carried ∙ g.carried; whole = g.whole; same = g.same ∙ f.same }

as_long : (cs : List Change) (a b : Address) → carried cs a ≡ Some b → length b ≡ length a
as_long cs a b e =
    let f = lists_carry_fronts cs a [] b (ap (carried cs) (append-nil a) ∙ e) in
    let same : f.to ≡ b = same_Some f.to b (sym f.carried ∙ e) in
    sym (ap length same) ∙ f.same

-- ---- addresses by their lengths

split : (n : ℕ) (a : Address) → n ≤ length a → (q : Address) × (r : Address) × (a ≡ q ++ r) × (length q ≡ n)
split zero a h = ([], a, refl, refl)
split (suc n) [] h = absurd (omega arith)
split (suc n) (s ∷ a) h = let w = split n a (omega arith) in (s ∷ w.0, w.1, ap (λ x. s ∷ x) w.2, ap suc w.3)

front_same : (a b r s : Address) → length a ≡ length b → a ++ r ≡ b ++ s → a ≡ b
front_same [] [] r s l e = refl
front_same [] (t ∷ b) r s l e = absurd (omega arith)
front_same (t ∷ a) [] r s l e = absurd (omega arith)
front_same (t ∷ a) (u ∷ b) r s l e =
    let head : t ≡ u = cc in
    let rest : a ++ r ≡ b ++ s = cc in
    let l : length a ≡ length b = omega arith in
    ap (λ x. x ∷ a) head ∙ ap (λ x. u ∷ x) (front_same a b r s l rest)

-- ---- data in which nothing stands below nothing

pub fronts_stand : FrontsStand
fronts_stand kinds h q r s = by (kinds q) refl
  where
    by : (o : Option Kind) → kinds q ≡ o → IsSome o
    by None e = absurd (true≢false (sym s ∙ ap is_some (nothing_below kinds h r q e)))
    by (Some k) e = refl

-- the beginning of the lower one, as long as the upper one, is carried to where that is
pub carried_keep_order : CarriedKeepOrder
carried_keep_order profile cs old new closed lead p a to rest some there e f =
    let long = as_long cs p to e in
    let far = as_long cs a (to ++ rest) f in
    let w = split (length p) a (omega (arith, long, far, length-append to rest)) in
    let x = lists_carry_fronts cs w.0 w.1 (to ++ rest) (ap (carried cs) (sym w.2) ∙ f) in
    let same : x.to ≡ to = front_same x.to to x.rest rest (x.same ∙ w.3 ∙ sym long) (sym x.whole) in
    let one : w.0 ≡ p = lists_carry_apart profile cs old new closed lead w.0 p to (fronts_stand old closed w.0 w.1 (subst (λ y. IsSome (old y)) w.2 there)) some (x.carried ∙ ap Some same) e in
    (w.1, w.2 ∙ ap (λ y. y ++ w.1) one)
