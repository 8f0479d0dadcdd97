-- A walk down the tree of a list shows what the list does, edit by edit.
use Rattle.std.proofs.Common.{◌≡◌, ℕ, ◌+◌, ◌-◌, ◌<◌, ◌^◌, List, [], ◌∷◌, length, Option, Some, None, refl, sym, ap, ◌∙◌, arith}
use Rattle.std.proofs.lemmas.Option.{same_Some, none-some}
use Rattle.std.specs.Prelude.{IfSome, option_map, option_and_then}
use Rattle.toml_names.specs.model.Addresses.{Address}
use Rattle.toml_names.specs.model.Indices.{IsLow}
use Rattle.toml_edits.specs.declared.moves.Moves.{Moves}
use Rattle.toml_edits.specs.Carry.{carry}
use Rattle.toml_edits.specs.Edits.{Change, place}
use Rattle.toml_edits.specs.Fitting.{FitsOne}
use Rattle.toml_edits.specs.Fronts.{IsFront}
use Rattle.toml_edits.specs.Lists.{carried}
use Rattle.toml_edits.specs.Moves.{moves}
use Rattle.toml_edits.specs.Notes.{Sort, SeenIsCarried, noted, seen, sort}
use Rattle.toml_edits.specs.Told.{TellsOf}
use Rattle.toml_edits.specs.Trees.{Told, Tells, Seen, told_at, walk}
use Rattle.toml_edits.proofs.StaysLow.{lower, stays_low}
use Rattle.toml_edits.proofs.WalkAlong.{Under}
use Rattle.toml_edits.proofs.WalkFronts.{front_shows}

-- what is told of the longer list, by what is told of the other
one_more : (f : Seen → Seen) (g : Address → Told (Option Seen)) (h : Address → Option Seen) (y : Option Address) → IfSome y (λ b. Tells (g b) (h b)) → (x : Told (Option Seen))
    → Under x (option_map (option_map f) (told_at g y)) → Tells x (option_map f (option_and_then h y))
one_more f g h y k None u = tt
one_more f g h None k (Some z) u = sym (same_Some None z u)
one_more f g h (Some b) k (Some z) u = on (g b) k u
  where
    on : (w : Told (Option Seen)) → Tells w (h b) → option_map (option_map f) w ≡ Some z → z ≡ option_map f (h b)
    on None k u = absurd (none-some z u)
    on (Some m) k u = sym (same_Some (option_map f m) z u) ∙ ap (option_map f) k

pub one_told : (c : Change) (cs : List Change) (old t : Moves) → ¬ (place c ≡ []) → IsFront moves c (Some old) t → TellsOf cs old → TellsOf (c ∷ cs) t
one_told c cs old t placed front tells = record { placed = (placed, tells.placed); shows = shows }
  where
    behind : (n : ℕ) → n + 1 + length cs < 2 ^ 64 → (y : Option Address) → IfSome y (IsLow (n + 1)) → IfSome y (λ b. Tells (walk moves (Some old) b) (seen cs b))
    behind n room None low = tt
    behind n room (Some b) low = tells.shows (n + 1) b low room

    shows : (n : ℕ) (a : Address) → IsLow n a → n + length (c ∷ cs) < 2 ^ 64 → Tells (walk moves (Some t) a) (seen (c ∷ cs) a)
    shows n a low room =
        let fits : FitsOne c a = record { placed = placed; low = lower n (2 ^ 64 - 1) (omega (arith, room)) a low } in
        one_more (noted (sort c) (place c) a) (walk moves (Some old)) (seen cs) (carry c a) (behind n (omega (arith, room)) (carry c a) (stays_low n c a low)) (walk moves (Some t) a) (front_shows moves c (Some old) t front a fits)

still_to : (k : Sort) (p a : Address) (x : Option Seen) → option_map (λ (s : Seen). s.to) (option_map (noted k p a) x) ≡ option_map (λ (s : Seen). s.to) x
still_to k p a None = refl
still_to k p a (Some s) = refl

pub seen_is_carried : SeenIsCarried
seen_is_carried [] a = refl
seen_is_carried (c ∷ cs) a = still_to (sort c) (place c) a (option_and_then (seen cs) (carry c a)) ∙ by (carry c a) (seen_is_carried cs)
  where
    by : (y : Option Address) → ((b : Address) → option_map (λ (s : Seen). s.to) (seen cs b) ≡ carried cs b) → option_map (λ (s : Seen). s.to) (option_and_then (seen cs) y) ≡ option_and_then (carried cs) y
    by None next = refl
    by (Some b) next = next b
