-- An address as its parent and its last step.
use Rattle.std.proofs.Common.{◌≡◌, [], ◌∷◌, ◌++◌, Option, Some, refl, sym, ap, ◌∙◌}
use Rattle.std.specs.Prelude.{option_map}
use Rattle.toml_names.specs.declared.model.address.Step.{Step}
use Rattle.toml_names.specs.model.Addresses.{Address}
use Rattle.toml_edits.specs.Carry.{parted}
use Rattle.toml_edits.specs.Laws.{PartedAtLast}

abbrev Parts : Type 0
Parts = Address × Step

pub parted_at_last : PartedAtLast
parted_at_last [] s = refl
parted_at_last (t ∷ []) s = refl
parted_at_last (t ∷ u ∷ q) s = ap (option_map (λ (w : Parts). (t ∷ w.0, w.1))) (parted_at_last (u ∷ q) s)

pub no_root : (q : Address) (s : Step) → ¬ (q ++ s ∷ [] ≡ [])
no_root [] s is = cc
no_root (t ∷ q) s is = cc

inner : (x y : Parts) → ◌≡◌ {A = Option Parts} (Some x) (Some y) → x ≡ y
inner x y is = cc

same_parts : (q r : Address) (s t : Step) → q ++ s ∷ [] ≡ r ++ t ∷ [] → ◌≡◌ {A = Parts} (q, s) (r, t)
same_parts q r s t is = inner (q, s) (r, t) (sym (parted_at_last q s) ∙ ap parted is ∙ parted_at_last r t)

pub same_last : (q r : Address) (s t : Step) → q ++ s ∷ [] ≡ r ++ t ∷ [] → s ≡ t
same_last q r s t is = ap (λ (x : Parts). x.1) (same_parts q r s t is)

pub same_parent : (q r : Address) (s t : Step) → q ++ s ∷ [] ≡ r ++ t ∷ [] → q ≡ r
same_parent q r s t is = ap (λ (x : Parts). x.0) (same_parts q r s t is)
