-- Where a thing stands, by the names of the lines, tells whether a line's value stands at it or above it.
use Rattle.std.proofs.Common.{◌≡◌, ℕ, Bool, true, false, ◌&&◌, Option, Some, None, List, [], ◌∷◌, refl, sym, ◌∙◌, subst, append-nil}
use Rattle.std.specs.List.{list_any}
use Rattle.std.proofs.lemmas.Bool.{and_parts, cond-false}
use Rattle.toml_tree.specs.Spells.{EachIs}
use Rattle.toml_names.specs.declared.mentions.mention.Role.{Role}
use Rattle.toml_names.specs.declared.mentions.mention.Role.TheVariants.{Passed, Header, Dotted, Valued, Tables, Element, Bare}
use Rattle.toml_names.specs.declared.model.place.Place.{Place}
use Rattle.toml_names.specs.declared.model.place.Place.TheVariants as places
use Rattle.toml_names.specs.mentions.Mentions.{Named, named}
use Rattle.toml_names.specs.model.Addresses.{Address, is_above, same_address}
use Rattle.toml_names.specs.model.Places.{first_line, in_value, line_above, or_else, place, same_role}
use Rattle.toml_names.proofs.Proved.{above_is_above, same_address-decides}
use Rattle.toml_working.specs.Standing.{holds, standing}
use Rattle.toml_editor.specs.HeaderLaws.{IsInValue, ValueIsPlace}
use Rattle.toml_editor.proofs.written.Pairwise.{has_of_any}
use Rattle.toml_editor.proofs.written.Roles.{IsNotOver, none_over}
use Rattle.toml_editor.proofs.written.ValuesAbove.{stands_in_value, value_over}

valued_is : (r : Role) → same_role r Valued ≡ true → r ≡ Valued
valued_is Valued is = refl
valued_is Passed is = absurd cc
valued_is Header is = absurd cc
valued_is Dotted is = absurd cc
valued_is Tables is = absurd cc
valued_is Element is = absurd cc
valued_is Bare is = absurd cc

module _ (q : Address) where
  -- where no value that is named stands at the address or above it, none is found above it,
  none_above : (ms : List Named) → EachIs (IsNotOver q) ms → line_above ms q ≡ None
  none_above [] are = refl
  none_above (m ∷ ms) are = cond-false _ _ _ (apart (is_above m.address q && same_role m.role Valued) refl) ∙ none_above ms are.1
    where
      apart : (b : Bool) → (is_above m.address q && same_role m.role Valued) ≡ b → b ≡ false
      apart false is = refl
      apart true is =
          let (over, valued) = and_parts (is_above m.address q) (same_role m.role Valued) is in
          let above = (above_is_above m.address q).0 over in
          absurd (are.0 (valued_is m.role valued) (above.0 ∷ above.1) above.2)

  -- nor at it
  none_at : (ms : List Named) → EachIs (IsNotOver q) ms → first_line ms q Valued ≡ None
  none_at [] are = refl
  none_at (m ∷ ms) are = cond-false _ _ _ (apart (same_address m.address q && same_role m.role Valued) refl) ∙ none_at ms are.1
    where
      apart : (b : Bool) → (same_address m.address q && same_role m.role Valued) ≡ b → b ≡ false
      apart false is = refl
      apart true is =
          let (at, valued) = and_parts (same_address m.address q) (same_role m.role Valued) is in
          absurd (are.0 (valued_is m.role valued) [] (sym ((same_address-decides m.address q).0 at) ∙ sym (append-nil m.address)))

-- one of two places, neither of which is a value's
neither : (o : Option ℕ) (p : ℕ → Place) (other : Option Place) → ((n : ℕ) → o ≡ Some n → ¬ IsInValue (Some (p n))) → ¬ IsInValue other
    → ¬ IsInValue (or_else o p other)
neither None p other first second = second
neither (Some n) p other first second = first n refl

-- so what is named there stands in no value
not_in_value : (q : Address) (ms : List Named) → EachIs (IsNotOver q) ms → ¬ IsInValue (place ms q)
not_in_value [] ms are placed = placed
not_in_value (s ∷ q) ms are placed =
    let at = s ∷ q in
    neither (first_line ms at Valued) places.KeyVal _ (λ n is h. let none = none_at at ms are in cc)
    (neither (first_line ms at Header) places.Header _ (λ n is h. h)
    (neither (first_line ms at Element) places.Header _ (λ n is h. h)
    (neither (first_line ms at Dotted) places.Dotted _ (λ n is h. h)
    (neither (first_line ms at Tables) places.Tables _ (λ n is h. h)
    (neither (first_line ms at Passed) places.Implicit None (λ n is h. h) (λ h. h))))))
    (subst (λ o. IsInValue (in_value o ms at)) (none_above at ms are) placed)

pub value_is_place : ValueIsPlace
value_is_place q lines there = (forth (list_any (holds q) (standing lines)) refl, λ placed none. not_in_value q (named lines) (none_over q lines none) placed)
  where
    forth : (b : Bool) → list_any (holds q) (standing lines) ≡ b → ¬ (list_any (holds q) (standing lines) ≡ false) → IsInValue (place (named lines) q)
    forth false is some = absurd (some is)
    forth true is some = stands_in_value q (named lines) (value_over q lines is) (has_of_any (λ m. m.address ≡ q) (named lines) there)
