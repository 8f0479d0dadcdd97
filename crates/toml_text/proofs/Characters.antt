-- Each character has one byte that begins one.
use Rattle.std.proofs.Common.{◌≡◌, ℕ, ◌+◌, ◌/◌, ◌%◌, ◌≤◌, ◌<◌, true, false, cond, [], ◌∷◌, refl, ap, ap₂, ◌∙◌, arith, count_by, ltb}
use Rattle.std.proofs.lemmas.Bool.Decides.{nat_tests}
use Rattle.std.proofs.lemmas.Bool.{ltb-true}
use Rattle.std.proofs.lemmas.List.Sums.{sum_by-append}
use lib.Utf8.{encode, encodes}
use Rattle.toml_text.specs.Positions.{CharactersBegin, begins_character}

-- a byte that goes on with a character
goes_on : (n : ℕ) → begins_character (128 + n % 64) ≡ false
goes_on n = let few : n % 64 < 64 = omega arith in grind (arith, nat_tests, few)

-- one that begins one of several bytes
leads : (b : ℕ) → 192 ≤ b → begins_character b ≡ true
leads b high = grind (arith, nat_tests, high)

plain : (b : ℕ) → b < 128 → begins_character b ≡ true
plain b low = grind (arith, nat_tests, low)

-- how much a byte counts
abbrev counts : ℕ → ℕ
counts b = cond (begins_character b) 1 0

none : (n : ℕ) → counts (128 + n % 64) ≡ 0
none n = ap (λ t. cond t 1 0) (goes_on n)

one : (b : ℕ) → 192 ≤ b → counts b ≡ 1
one b high = ap (λ t. cond t 1 0) (leads b high)

alone : (b : ℕ) → b < 128 → counts b ≡ 1
alone b low = ap (λ t. cond t 1 0) (plain b low)

pub encode_begins : (c : ℕ) → count_by begins_character (encode c) ≡ 1
unfolding encode
encode_begins c = elim (ltb c 128) as (λ t. ltb c 128 ≡ t → count_by begins_character (encode c) ≡ 1) [
  | true ↦ λ e. rw e (omega (arith, alone c (ltb-true c 128 e)))
  | false ↦ λ e. elim (ltb c 2048) as (λ t. ltb c 2048 ≡ t → count_by begins_character (encode c) ≡ 1) [
    | true ↦ λ f. rw (e, f) (omega (arith, one (192 + c / 64) (omega arith), none c))
    | false ↦ λ f. elim (ltb c 65536) as (λ t. ltb c 65536 ≡ t → count_by begins_character (encode c) ≡ 1) [
      | true ↦ λ g. rw (e, f, g) (omega (arith, one (224 + c / 4096) (omega arith), none (c / 64), none c))
      | false ↦ λ g. rw (e, f, g) (omega (arith, one (240 + c / 262144) (omega arith), none (c / 4096), none (c / 64), none c))
    ] refl
  ] refl
] refl

pub characters_begin : CharactersBegin
characters_begin [] = refl
characters_begin (c ∷ cs) = sum_by-append counts (encode c) (encodes cs) ∙ ap₂ (λ m n. m + n) (encode_begins c) (characters_begin cs) ∙ omega arith
