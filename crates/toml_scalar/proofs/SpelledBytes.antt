-- The bytes that stand for themselves in a basic string.
use Rattle.std.proofs.Common.{◌≡◌, ℕ, ◌+◌, ◌/◌, ◌%◌, ◌≤◌, ◌<◌, ⊎_elim, List, [], ◌∷◌, refl, arith, ltb}
use Rattle.std.proofs.lemmas.Bool.{cases_lt, cond_both, ltb-true}
use Rattle.std.proofs.lemmas.Bool.Decides.{nat_tests}
use Rattle.std.proofs.lemmas.Str.{encode_ascii}
use Rattle.std.specs.Prelude.{encode_utf8}
use Rattle.std.proofs.Math.Utf8.{encode}
use Rattle.std.specs.List.{flat_map}
use Rattle.toml_scalar.specs.Spelling.{spelled_byte}

-- a byte past ASCII
spelled_past : (b : ℕ) → 0x80 ≤ b → spelled_byte b ≡ b ∷ []
spelled_past b h = grind (arith, nat_tests)

-- a byte of ASCII that is neither a mark nor a control character
spelled_printed : (b : ℕ) → 0x20 ≤ b → b < 0x80 → ¬ (b ≡ 0x22) → ¬ (b ≡ 0x5C) → ¬ (b ≡ 0x7F) → flat_map spelled_byte (b ∷ []) ≡ b ∷ []
spelled_printed b low high quote slash delete = grind (arith, nat_tests)

-- bytes that stand for themselves
abbrev Stands : List ℕ → Type 0
Stands bs = flat_map spelled_byte bs ≡ bs

more_stand : (b : ℕ) (bs : List ℕ) → 0x80 ≤ b → Stands bs → Stands (b ∷ bs)
more_stand b bs h e = rw (spelled_past b h, e) refl

-- the bytes of a character past ASCII
spelled_char : (c : ℕ) → 0x80 ≤ c → flat_map spelled_byte (encode_utf8 c) ≡ encode_utf8 c
unfolding encode
spelled_char c h =
    let next : (n : ℕ) (bs : List ℕ) → Stands bs → Stands ((128 + n % 64) ∷ bs) = λ n bs e. more_stand (128 + n % 64) bs (omega arith) e in
    cond_both (ltb c 128) _ _ Stands (λ e. absurd (omega (arith, ltb-true c 128 e))) (λ _.
    cond_both (ltb c 2048) _ _ Stands (λ _. more_stand (192 + c / 64) _ (omega arith) (next c [] refl)) (λ _.
    cond_both (ltb c 65536) _ _ Stands (λ _. more_stand (224 + c / 4096) _ (omega arith) (next (c / 64) _ (next c [] refl))) (λ _.
    more_stand (240 + c / 262144) _ (omega arith) (next (c / 4096) _ (next (c / 64) _ (next c [] refl))))))

-- a character that is neither a mark nor a control character
pub spelled_same : (c : ℕ) → 0x20 ≤ c → ¬ (c ≡ 0x22) → ¬ (c ≡ 0x5C) → ¬ (c ≡ 0x7F) → flat_map spelled_byte (encode_utf8 c) ≡ encode_utf8 c
spelled_same c low quote slash delete = ⊎_elim
    (λ (ascii : c < 128). let one : encode_utf8 c ≡ c ∷ [] = encode_ascii c ascii in rw one (spelled_printed c low ascii quote slash delete))
    (λ (past : 0x80 ≤ c). spelled_char c past)
    (cases_lt c 128)
