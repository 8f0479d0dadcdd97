-- Bytes that are no string, or have more behind one, have no value.
use Rattle.std.proofs.Common.{◌≡◌, ◌≢◌, ⊎_elim, ℕ, true, false, eqb, List, length, Option, Some, None, option_map, option_and_then, refl, sym, ◌∙◌}
use Rattle.std.specs.List.{flat_map}
use Rattle.std.proofs.lemmas.Bool.{cond-false}
use Rattle.std.proofs.lemmas.Bool.Decides.{eqb_tells}
use Rattle.std.proofs.lemmas.Option.{none-some, same_Some}
use Rattle.toml_scalar.specs.Strings.{piece_means}
use Rattle.toml_scalar.specs.StringRuns.{StringToken, string_at, string_len, string_value, token_len, whole_value}

of_other_length : (s : Option StringToken) (n m : ℕ) → option_map token_len s ≡ Some m → m ≢ n → option_and_then (whole_value n) s ≡ None
of_other_length None n m h apart = refl
of_other_length (Some s) n m h apart = ⊎_elim
    (λ (same : (eqb (token_len s) n ≡ true) × (token_len s ≡ n)). absurd (apart (sym (same_Some _ _ h) ∙ same.1)))
    (λ (other : (eqb (token_len s) n ≡ false) × (token_len s ≢ n)). cond-false (eqb (token_len s) n) (Some (flat_map piece_means s.pieces)) None other.0)
    (eqb_tells (token_len s) n)

of_no_length : (s : Option StringToken) (n : ℕ) → option_map token_len s ≡ None → option_and_then (whole_value n) s ≡ None
of_no_length None n h = refl
of_no_length (Some s) n h = absurd (none-some (token_len s) (sym h))

pub not_whole : (bs : List ℕ) (n : ℕ) → string_len bs ≡ Some n → n ≢ length bs → string_value bs ≡ None
unfolding string_len string_value
not_whole bs = of_other_length (string_at bs) (length bs)

pub no_string : (bs : List ℕ) → string_len bs ≡ None → string_value bs ≡ None
unfolding string_len string_value
no_string bs = of_no_length (string_at bs) (length bs)
