-- What is found among the lines of the working tree.
use Rattle.std.proofs.Common.{◌≡◌, ◌∙◌, ℕ, ◌+◌, Bool, false, ◌||◌, List, take, get_or, Option, Some, None, refl, ap, sym}
use Rattle.std.specs.Prelude.{option_map, slice_get}
use Rattle.std.specs.List.{list_any}
use Rattle.std.proofs.lemmas.List.Folds.{list_any_more}
use Rattle.std.proofs.lemmas.Option.{none-some, slice_get_within, get_or_from_slice_get}
use Rattle.toml_names.specs.model.Addresses.{Address}
use Rattle.toml_working.specs.declared.lines.Seen.{Seen}
use Rattle.toml_working.specs.declared.lines.Sought.{Sought}
use Rattle.toml_working.specs.Seeing.{found, seen, is_sought, is_sought_line}
use Rattle.toml_working.specs.Standing.{Standing}

-- whether a line that is seen is what is sought
pub seen_sought : (what : Sought) (p : Address) (o : Option Standing) (r : Option Seen) (x : Seen) (b : Bool) → option_map seen r ≡ option_map found o → r ≡ Some x
    → is_sought what p (seen x) ≡ b → option_map (is_sought_line what p) o ≡ Some b
seen_sought what p None r x b h is test = absurd (none-some (seen x) (sym h ∙ ap (option_map seen) is))
seen_sought what p (Some s) r x b h is test =
    let e : Some (found s) ≡ Some (seen x) = sym h ∙ ap (option_map seen) is in
    ap (option_map (is_sought what p)) e ∙ ap Some test

-- the next one is none
pub none_on : {X : Type 0} (f : X → Bool) (xs : List X) (i : ℕ) → option_map f (slice_get xs i) ≡ Some false → list_any f (take i xs) ≡ false → list_any f (take (i + 1) xs) ≡ false
none_on {X} f xs i h so_far = at (slice_get xs i) refl h
  where
    at : (o : Option X) → slice_get xs i ≡ o → option_map f o ≡ Some false → list_any f (take (i + 1) xs) ≡ false
    at None is e = cc
    at (Some x) is e =
        let here : f x ≡ false = cc in
        list_any_more f xs i x (slice_get_within xs i x is)
        ∙ ap (λ b. b || f (get_or xs i x)) so_far ∙ ap f (get_or_from_slice_get xs i x x is) ∙ here
