-- What a set of addresses reaches, and what it hides.
use Rattle.toml_names.proofs.Common.{◌≡◌, ◌++◌, ℕ, Bool, true, false, List, [], ◌∷◌, Option, Some, None, refl, Step, Name, Index, Address}
use Rattle.std.specs.Prelude.{not, option_map, if◌then◌else◌}
use Rattle.std.specs.Option.{unwrap_or}
use Rattle.toml_names.specs.declared.model.address_set.AddressSet.{AddressSet}
use Rattle.toml_names.specs.model.AddressSets.{below, is_hidden, is_whole, reaches}
use Rattle.toml_names.specs.model.Hidden.{is_off}

-- beside a way all that ends in a name is hidden
off_named : (s : Step) (at : Address) (n : List ℕ) → false ≡ not (is_off s (at ++ Name n ∷ []))
off_named (Name m) at n = refl
off_named (Index i) [] n = refl
off_named (Index i) (t ∷ at) n = refl

at_name : (whole : Bool) (o : Option AddressSet)
    → (if whole then true else unwrap_or (option_map (λ t. reaches t []) o) false) ≡ not (if whole then false else unwrap_or (option_map (λ t. is_hidden t []) o) true)
at_name true o = refl
at_name false None = refl
at_name false (Some t) = refl

in_step : (s : Step) (at : Address) (n : List ℕ) → ((t : AddressSet) → reaches t (at ++ Name n ∷ []) ≡ not (is_hidden t (at ++ Name n ∷ []))) → (whole : Bool) (o : Option AddressSet)
    → (if whole then true else unwrap_or (option_map (λ t. reaches t (at ++ Name n ∷ [])) o) false)
    ≡ not (if whole then false else unwrap_or (option_map (λ t. is_hidden t (at ++ Name n ∷ [])) o) (is_off s (at ++ Name n ∷ [])))
in_step s at n below_it true o = refl
in_step s at n below_it false None = off_named s at n
in_step s at n below_it false (Some t) = below_it t

pub reached_are_not_hidden : (set : AddressSet) (at : Address) (n : List ℕ) → reaches set (at ++ Name n ∷ []) ≡ not (is_hidden set (at ++ Name n ∷ []))
reached_are_not_hidden set [] n = at_name (is_whole set) (below set (Name n))
reached_are_not_hidden set (s ∷ at) n = in_step s at n (λ t. reached_are_not_hidden t at n) (is_whole set) (below set s)
