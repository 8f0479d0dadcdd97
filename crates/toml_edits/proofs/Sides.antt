-- How a place and an address lie to each other.
use Rattle.std.proofs.Common.{◌≡◌, [], ◌∷◌, ◌++◌, Bool, true, false, cond, refl, sym, ap, subst, ◌∙◌}
use Rattle.std.proofs.lemmas.List.{append-nil}
use Rattle.toml_names.specs.declared.model.address.Step.{Step}
use Rattle.toml_names.specs.model.Addresses.{Address, IsAbove, same_step}
use Rattle.toml_names.proofs.Proved.{same_step-equal, same_step-self}
use Rattle.toml_edits.specs.declared.side.Side.{Side}
use Rattle.toml_edits.specs.declared.side.Side.TheVariants.{Apart, Above, At, Below}
use Rattle.toml_edits.specs.Sides.{side, SidesAreRight}

abbrev pub Seen : Side → Address → Address → Type 0
Seen Apart p a = Unit {0}
Seen Above p a = IsAbove p a
Seen At p a = p ≡ a
Seen Below p a = IsAbove a p

one_more : (s t : Step) → s ≡ t → (x : Side) (p a : Address) → Seen x p a → Seen x (s ∷ p) (t ∷ a)
one_more s t e Apart p a h = tt
one_more s t e Above p a h = (h.0, h.1, ap (λ x. x ∷ a) (sym e) ∙ ap (λ r. s ∷ r) h.2)
one_more s t e At p a h = ap (λ x. x ∷ p) e ∙ ap (λ r. t ∷ r) h
one_more s t e Below p a h = (h.0, h.1, ap (λ x. x ∷ p) e ∙ ap (λ r. t ∷ r) h.2)

pub seen : (p a : Address) → Seen (side p a) p a
seen [] [] = refl
seen [] (t ∷ a) = (t, a, refl)
seen (s ∷ p) [] = (s, p, refl)
seen (s ∷ p) (t ∷ a) = by (same_step s t) refl (seen p a)
  where
    by : (b : Bool) → same_step s t ≡ b → Seen (side p a) p a → Seen (cond b (side p a) Apart) (s ∷ p) (t ∷ a)
    by false e h = tt
    by true e h = one_more s t (same_step-equal s t e) (side p a) p a h

pub side_at : (p : Address) → side p p ≡ At
side_at [] = refl
side_at (s ∷ p) = rw (same_step-self s) (side_at p)

pub side_past : (p x r : Address) → side (p ++ x) (p ++ r) ≡ side x r
side_past [] x r = refl
side_past (s ∷ p) x r = rw (same_step-self s) (side_past p x r)

pub side_of_front : (p r : Address) → side p (p ++ r) ≡ side [] r
side_of_front p r = ap (λ q. side q (p ++ r)) (sym (append-nil p)) ∙ side_past p [] r

pub side_of_longer : (p r : Address) → side (p ++ r) p ≡ side r []
side_of_longer p r = ap (side (p ++ r)) (sym (append-nil p)) ∙ side_past p r []

pub sides_are_right : SidesAreRight
sides_are_right p a = record {
  above = ((λ e. subst (λ x. Seen x p a) e (seen p a)), (λ w. ap (side p) w.2 ∙ side_of_front p (w.0 ∷ w.1)));
  at = ((λ e. subst (λ x. Seen x p a) e (seen p a)), (λ e. ap (side p) (sym e) ∙ side_at p));
  below = ((λ e. subst (λ x. Seen x p a) e (seen p a)), (λ w. ap (λ q. side q a) w.2 ∙ side_of_longer a (w.0 ∷ w.1)));
}
