-- What an address is spelled as is read back to its steps.
use Rattle.std.proofs.Common.{◌≡◌, ℕ, zero, suc, ◌<◌, ◌^◌, true, List, [], ◌∷◌, map, get_or, Some, sym, refl, subst, arith, inl, inr}
use Rattle.std.specs.Prelude.{decimal}
use Rattle.std.specs.Int.{IsInRange}
use Rattle.std.specs.List.{flat_map}
use Rattle.std.specs.Str.Parse.{digits_value}
use Rattle.std.proofs.lemmas.Bool.Decides.{nat_tests}
use Rattle.std.proofs.lemmas.Fmt.{decimal_digit, digits_decimal, digits_value-decimal, first_decimal}
use Rattle.std.proofs.lemmas.Option.{none-some, same_Some}
use Rattle.std.proofs.lemmas.Str.Parse.{IsDigitsTest, IsNumeralModel, numerals_by_value}
use Rattle.toml_text.specs.Bytes.{is_digit, is_leading_digit}
use Rattle.toml_text.specs.Forms.{Each}
use Rattle.toml_scalar.specs.Spelling.{spelled}
use Rattle.toml_scalar.proofs.Proved.{spelled_names}
use Rattle.toml_names.specs.declared.model.address.Step.{Step}
use Rattle.toml_names.specs.declared.model.address.Step.TheVariants as steps
use Rattle.toml_names.specs.model.Addresses.{Address}
use Rattle.toml_names.specs.model.Indices.{IsLow, IsLowStep}
use Rattle.toml_places.specs.Laws.{SpelledIsReadBack}
use Rattle.toml_places.specs.Places.{IsNumeral, IsNumber, SpellsStep, SpellsSteps, SpellsPlace}
use Rattle.toml_places.specs.Spelled.{step_text, place_text, plain_step}
use Rattle.toml_places.proofs.Complete.{spelled_is_found}

from_digit : (b : ℕ) → is_digit b ≡ true → IsInRange 48 57 b
from_digit b h = (grind (arith, nat_tests), grind (arith, nat_tests))

to_digit : (b : ℕ) → IsInRange 48 57 b → is_digit b ≡ true
to_digit b h = let low = h.0 in let high = h.1 in grind (arith, nat_tests)

tells : IsDigitsTest (Each is_digit)
tells = record {
  empty = tt;
  parts = λ c cs h. (from_digit c h.0, h.1);
  more = λ c cs r h. (to_digit c r, h);
}

pub numerals : IsNumeralModel (Each is_digit) (digits_value 10)
numerals = numerals_by_value (Each is_digit) tells

leading : (b : ℕ) → is_digit b ≡ true → 48 < b → is_leading_digit b ≡ true
leading b digit some = grind (arith, nat_tests)

numeral : (ds : List ℕ) → Each is_digit ds → 48 < get_or ds 0 0 → IsNumeral ds
numeral [] each first = absurd (omega arith)
numeral (d ∷ ds) each first = inr (leading d each.0 first, each.1)

decimal_form : (n : ℕ) → n < 2 ^ 64 → IsNumeral (decimal n)
decimal_form zero low = subst IsNumeral (sym (decimal_digit 0 (omega arith))) (inl (refl, refl))
decimal_form (suc n) low = numeral (decimal (suc n)) (digits_decimal numerals (suc n) low) (first_decimal (suc n) (omega arith) low)

pub decimal_number : (n : ℕ) → n < 2 ^ 64 → IsNumber (decimal n) n
decimal_number n low = record { numeral = decimal_form n low; value = sym (digits_value-decimal numerals n low); limit = low }

step_spelled : (s : Step) → IsLowStep (2 ^ 64) s → SpellsStep (plain_step s) (step_text s)
step_spelled (steps.Name name) low = ([], [], spelled name, tt, tt, spelled_names name, refl)
step_spelled (steps.Index i) low = (decimal i, decimal_number i low, refl)

steps_spelled : (at : Address) → IsLow (2 ^ 64) at → SpellsSteps (map plain_step at) (flat_map step_text at)
steps_spelled [] low = refl
steps_spelled (s ∷ at) low = (step_text s, flat_map step_text at, step_spelled s low.0, steps_spelled at low.1, refl)

place_spelled : (at : Address) (text : List ℕ) → IsLow (2 ^ 64) at → place_text at ≡ Some text → SpellsPlace (map plain_step at) text
place_spelled [] text low is = sym (same_Some _ _ is)
place_spelled (steps.Name name ∷ at) text low is = (spelled name, flat_map step_text at, spelled_names name, steps_spelled at low.1, sym (same_Some _ _ is))
place_spelled (steps.Index i ∷ at) text low is = absurd (none-some text is)

pub spelled_is_read_back : SpelledIsReadBack
spelled_is_read_back at text low is = spelled_is_found text (map plain_step at) (place_spelled at text low is)
