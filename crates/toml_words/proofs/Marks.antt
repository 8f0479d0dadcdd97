-- A word that does not begin with the mark.
use Rattle.std.proofs.Common.{◌≡◌, ◌≢◌, ℕ, ◌==◌, true, false, List, [], ◌∷◌, ◌++◌, refl, sym, ap, ◌∙◌, arith}
use Rattle.std.proofs.lemmas.Bool.{cond-false, eqb-true}
use Rattle.std.proofs.lemmas.Str.{encode_ascii}
use Rattle.std.specs.Prelude.{encode_utf8}
use Rattle.toml_words.specs.Marking.{unmarked}

pub none_unmarked : (word : List ℕ) → ((rest : List ℕ) → word ≢ encode_utf8 0 ++ rest) → word ≡ unmarked word
none_unmarked [] none = refl
none_unmarked (c ∷ word) none = elim (c == 0) as (λ t. (c == 0) ≡ t → c ∷ word ≡ unmarked (c ∷ word)) [
  | true ↦ λ e. absurd (none word (ap (λ x. x ∷ word) (eqb-true c 0 e) ∙ sym (ap (λ l. l ++ word) (encode_ascii 0 (omega arith)))))
  | false ↦ λ e. sym (cond-false _ _ _ e)
] refl
