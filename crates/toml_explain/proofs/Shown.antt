-- The characters of a text, one after the other.
use Rattle.std.proofs.Common.{◌≡◌, ℕ, List, [], ◌++◌, IsUtf8, chars, encode_utf8, sym, ap, ◌∙◌, append_assoc, append-nil}
use Rattle.std.proofs.lemmas.Str.{chars-nil, chars_past_char}
use Rattle.std.specs.List.{flat_map}

-- what is written of a character, and then of those behind it
pub one_more : (f : ℕ → List ℕ) (bs rest front whole : List ℕ) (c : ℕ) → IsUtf8 bs → bs ≡ encode_utf8 c ++ rest → front ++ flat_map f (chars bs) ≡ whole
    → (front ++ f c) ++ flat_map f (chars rest) ≡ whole
one_more f bs rest front whole c u is e =
    append_assoc front (f c) (flat_map f (chars rest)) ∙ (ap (λ l. front ++ flat_map f l) (sym (chars_past_char bs rest c u is)) ∙ e)

pub no_more : (f : ℕ → List ℕ) (bs front whole : List ℕ) → bs ≡ [] → front ++ flat_map f (chars bs) ≡ whole → front ≡ whole
no_more f bs front whole is e =
    sym (append-nil front) ∙ (ap (λ l. front ++ flat_map f l) (sym (ap chars is ∙ chars-nil)) ∙ e)
