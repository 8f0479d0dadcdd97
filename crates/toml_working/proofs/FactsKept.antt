-- What is known of a line is kept of it.
use Rattle.std.proofs.Common.{◌≡◌, ◌↔◌, ◌==◌, ◌∙◌, ℕ, List, [], ◌∷◌, length, map, Option, Some, None, refl, ap, sym, arith}
use Rattle.std.specs.Prelude.{IsTrue, option_map, slice_get}
use Rattle.std.proofs.lemmas.Bool.{eq-eqb, eqb-true}
use Rattle.std.proofs.lemmas.Option.{none-some, same_Some, slice_get-map}
use Rattle.toml_tree.specs.Tree.{Line}
use Rattle.toml_working.specs.declared.lines.Kept.{Kept}
use Rattle.toml_working.specs.declared.reading.LineFacts.{LineFacts}
use Rattle.toml_working.specs.Reading.{fact_of}
use Rattle.toml_working.specs.Starting.{IsKeptOf}

-- the line of which something is known
pub fact_got : (facts : List LineFacts) (lines : List Line) (n : ℕ) (f : LineFacts) → facts ≡ map fact_of lines → slice_get facts n ≡ Some f
    → (l : Line) × (slice_get lines n ≡ Some l) × (f ≡ fact_of l)
fact_got facts lines n f are is = by (slice_get lines n) refl
  where
    same : option_map fact_of (slice_get lines n) ≡ Some f
    same = sym (slice_get-map fact_of lines n) ∙ ap (λ fs. slice_get fs n) (sym are) ∙ is

    by : (o : Option Line) → slice_get lines n ≡ o → (l : Line) × (slice_get lines n ≡ Some l) × (f ≡ fact_of l)
    by (Some l) found = (l, found, sym (same_Some (fact_of l) f (sym (ap (option_map fact_of) found) ∙ same)))
    by None found = absurd (none-some f (sym (ap (option_map fact_of) found) ∙ same))

length_zero : (xs : List ℕ) → length xs ≡ 0 → xs ≡ []
length_zero [] is = refl
length_zero (x ∷ xs) is = absurd (omega (arith, is))

empty_is : (xs : List ℕ) → IsTrue (length xs == 0) ↔ (xs ≡ [])
empty_is xs = (λ is. length_zero xs (eqb-true (length xs) 0 is), λ none. eq-eqb (length xs) 0 (ap length none))

pub fact_kept : (l : Line) (f : LineFacts) (kept : Kept) → f ≡ fact_of l → kept.span ≡ f.span → kept.is_last ≡ f.is_last → IsKeptOf l kept
fact_kept l f kept is span last =
    let flag : kept.is_last ≡ (length l.newline.text == 0) = last ∙ ap (λ (x : LineFacts). x.is_last) is in
    let empty = empty_is l.newline.text in
    record {
      start = ap (λ s. s.start) (span ∙ ap (λ (x : LineFacts). x.span) is);
      end = ap (λ s. s.end) (span ∙ ap (λ (x : LineFacts). x.span) is);
      last = (λ yes. empty.0 (sym flag ∙ yes), λ none. flag ∙ empty.1 none);
    }
