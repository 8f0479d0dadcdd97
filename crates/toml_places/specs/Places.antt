-- The grammar of places: which texts spell which steps.
use Rattle.std.specs.Prelude.{◌≡◌, ◌<◌, ◌^◌, ◌⊎◌, ℕ, true, List, [], ◌∷◌, ◌++◌}
use Rattle.std.specs.Str.Parse.{digits_value}
use Rattle.toml_text.specs.Bytes.{is_digit, is_leading_digit}
use Rattle.toml_text.specs.Forms.{Each, IsWs}
use Rattle.toml_scalar.specs.Names.{IsName}
use Rattle.toml_places.specs.declared.place.PlaceStep.{PlaceStep}
use Rattle.toml_places.specs.declared.place.PlaceStep.TheVariants.{Name, Index, FromEnd, Behind}

-- `"0"`, or a digit 1 to 9 and digits
abbrev pub IsNumeral : List ℕ → Type 0
IsNumeral [] = ⊥
IsNumeral (d ∷ ds) = ((d ≡ 0x30) × (ds ≡ [])) ⊎ ((is_leading_digit d ≡ true) × Each is_digit ds)

-- `number`: it is at most 18446744073709551615
pub record IsNumber (digits : List ℕ) (n : ℕ) : Type 0 where
  pub numeral : IsNumeral digits
  pub value : n ≡ digits_value 10 digits
  pub limit : n < 2 ^ 64

-- what stands for a step behind the first: `ws "." ws` and a key part, `[n]`, `[-n]` with n from 1, or `[+]`
abbrev pub SpellsStep : PlaceStep → List ℕ → Type 0
SpellsStep (Name name) text =
    (before after part : List ℕ) × IsWs before × IsWs after × IsName part name × (text ≡ before ++ 0x2E ∷ (after ++ part))
SpellsStep (Index n) text = (digits : List ℕ) × IsNumber digits n × (text ≡ 0x5B ∷ (digits ++ 0x5D ∷ []))
SpellsStep (FromEnd n) text = (digits : List ℕ) × IsNumber digits n × (0 < n) × (text ≡ 0x5B ∷ 0x2D ∷ (digits ++ 0x5D ∷ []))
SpellsStep Behind text = text ≡ 0x5B ∷ 0x2B ∷ 0x5D ∷ []

-- the steps behind the first, one behind the other
abbrev pub SpellsSteps : List PlaceStep → List ℕ → Type 0
SpellsSteps [] text = text ≡ []
SpellsSteps (s ∷ steps) text = (front rest : List ℕ) × SpellsStep s front × SpellsSteps steps rest × (text ≡ front ++ rest)

-- `place`: `.` alone, which has no steps and is the root; or a key part, and the steps behind it
abbrev pub SpellsPlace : List PlaceStep → List ℕ → Type 0
SpellsPlace [] text = text ≡ 0x2E ∷ []
SpellsPlace (Name name ∷ steps) text = (part rest : List ℕ) × IsName part name × SpellsSteps steps rest × (text ≡ part ++ rest)
SpellsPlace _ text = ⊥
