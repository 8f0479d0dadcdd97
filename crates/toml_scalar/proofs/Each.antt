-- Runs of bytes of one class: joined, and as ASCII.
use Rattle.std.proofs.Common.{◌≡◌, ℕ, ◌<◌, Bool, true, List, [], ◌∷◌, ◌++◌, arith}
use Rattle.std.proofs.lemmas.Bool.Decides.{nat_tests}
use Rattle.std.proofs.lemmas.Str.Ascii.{IsAscii-nil, IsAscii-cons}
use Rattle.std.specs.Str.{IsAscii}
use Rattle.toml_text.specs.Forms.{Each}
use Rattle.toml_scalar.specs.Runs.{is_value_byte}

pub Each-append : (p : ℕ → Bool) (xs ys : List ℕ) → Each p xs → Each p ys → Each p (xs ++ ys)
Each-append p [] ys front back = back
Each-append p (x ∷ xs) ys front back = (front.0, Each-append p xs ys front.1 back)

ascii_of_value : (b : ℕ) → is_value_byte b ≡ true → b < 128
ascii_of_value b h = grind (arith, nat_tests)

pub each_ascii : (bs : List ℕ) → Each is_value_byte bs → IsAscii bs
each_ascii [] h = IsAscii-nil
each_ascii (b ∷ bs) h = IsAscii-cons b bs (ascii_of_value b h.0) (each_ascii bs h.1)
