-- What has no newline.
use Rattle.std.proofs.Common.{◌≡◌, ◌≢◌, ℕ, ◌+◌, ◌/◌, ◌%◌, ◌≤◌, ◌<◌, ⊎_elim, List, [], ◌∷◌, ◌++◌, Some, sym, ap, ◌∙◌, subst, arith, ltb}
use Rattle.std.proofs.Math.Utf8.{encode}
use Rattle.std.proofs.lemmas.Bool.{cases_lt, cond_both, ltb-true}
use Rattle.std.proofs.lemmas.Option.{none-some}
use Rattle.std.proofs.lemmas.Str.{encode_ascii}
use Rattle.std.specs.Prelude.{encode_utf8, false, string_bytes}
use Rattle.unicode_width.specs.Width.{char_width}
use Rattle.toml_explain.specs.Excerpts.{IsDrawn, IsOneLine}
use Rattle.toml_explain.specs.declared.drawing.Drawing.{Drawing}

pub joined_line : (xs ys : List ℕ) → IsOneLine xs → IsOneLine ys → IsOneLine (xs ++ ys)
joined_line [] ys one other = other
joined_line (x ∷ xs) ys one other = (one.0, joined_line xs ys one.1 other)

more_past : (b : ℕ) (bs : List ℕ) → 0x80 ≤ b → IsOneLine bs → IsOneLine (b ∷ bs)
more_past b bs high rest = (λ e. omega (arith, high, e), rest)

-- the bytes of a character past ASCII
past_line : (c : ℕ) → 0x80 ≤ c → IsOneLine (encode_utf8 c)
unfolding encode
past_line c h =
    let one : List ℕ = (128 + c % 64) ∷ [] in
    let two : List ℕ = (128 + c / 64 % 64) ∷ one in
    let three : List ℕ = (128 + c / 4096 % 64) ∷ two in
    let one_is : IsOneLine one = more_past (128 + c % 64) [] (omega arith) tt in
    let two_is : IsOneLine two = more_past (128 + c / 64 % 64) one (omega arith) one_is in
    let three_is : IsOneLine three = more_past (128 + c / 4096 % 64) two (omega arith) two_is in
    cond_both (ltb c 128) _ _ IsOneLine (λ e. absurd (omega (arith, ltb-true c 128 e))) (λ _.
    cond_both (ltb c 2048) _ _ IsOneLine (λ _. more_past (192 + c / 64) one (omega arith) one_is) (λ _.
    cond_both (ltb c 65536) _ _ IsOneLine (λ _. more_past (224 + c / 4096) two (omega arith) two_is) (λ _.
    more_past (240 + c / 262144) three (omega arith) three_is)))

-- those of any character that is no newline
pub character_line : (c : ℕ) → c ≢ 0x0A → IsOneLine (encode_utf8 c)
character_line c other = ⊎_elim
    (λ (ascii : c < 128). subst IsOneLine (sym (encode_ascii c ascii)) (other, tt))
    (λ (past : 0x80 ≤ c). past_line c past)
    (cases_lt c 128)

-- one character more
pub line_with : (old new : List ℕ) (c : ℕ) → c ≢ 0x0A → new ≡ old ++ encode_utf8 c → IsOneLine old → IsOneLine new
line_with old new c other is line = subst IsOneLine (sym is) (joined_line old (encode_utf8 c) line (character_line c other))

-- a character that takes columns is no newline
pub wide_no_newline : (c w : ℕ) → char_width false c ≡ Some w → c ≢ 0x0A
unfolding char_width
wide_no_newline c w is e = none-some w (sym (ap (char_width false) e) ∙ is)

-- a drawing with one character more
pub drawn_with : (old new : Drawing) (c : ℕ) → c ≢ 0x0A → string_bytes new.text ≡ string_bytes old.text ++ encode_utf8 c → IsOneLine (string_bytes new.below) → IsDrawn old → IsDrawn new
drawn_with old new c other text below drawn = record { line = line_with (string_bytes old.text) (string_bytes new.text) c other text drawn.line; carets = below }
