-- What was found, and what was not.
use Rattle.std.proofs.Common.{◌≡◌, ◌↔◌, ◌==◌, Bool, true, false, not, [], length, Option, Some, None, IsSome, is_some, refl, sym, ap, ◌∙◌, true≢false}
use Rattle.toml_names.specs.model.Addresses.{Address}
use Rattle.toml_names.specs.mentions.Mentions.{Kind}

pub not_empty : (at : Address) → false ≡ (length at == 0) → ¬ (at ≡ [])
not_empty at h is = true≢false (sym (h ∙ ap (λ (a : Address). length a == 0) is))

pub none_of : (o : Option Kind) → ¬ IsSome o → o ≡ None
none_of None not = refl
none_of (Some k) not = absurd (not refl)

pub some_of : (o : Option Kind) → ¬ (o ≡ None) → IsSome o
some_of None not = absurd (not refl)
some_of (Some k) not = refl

pub some_none : (o : Option Kind) → IsSome o → ¬ (o ≡ None)
some_none o some is = true≢false (sym some ∙ ap is_some is)

pub nowhere_found : {A : Type 0} (o : Option A) (k : Option Kind) (b : Bool) → IsSome o ↔ IsSome k → is_some o ≡ not b → b ≡ true → k ≡ None
nowhere_found o k b found is yes_none = none_of k (λ some. true≢false (sym (found.1 some) ∙ is ∙ ap not yes_none))

pub found_there : {A : Type 0} (o : Option A) (k : Option Kind) (b : Bool) → IsSome o ↔ IsSome k → is_some o ≡ not b → b ≡ false → IsSome k
found_there o k b found is other = found.0 (is ∙ ap not other)
