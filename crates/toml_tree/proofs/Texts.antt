-- Writing the parts of a tree one after the other.
use Rattle.std.proofs.Common.{◌≡◌, ℕ, zero, suc, ◌+◌, ◌<◌, ◌≤◌, List, [], ◌∷◌, ◌++◌, length, get_or, map, take, drop, sym, ap, ◌∙◌, arith, append_assoc, add-one, drop-cons, refl}
use Rattle.std.proofs.lemmas.List.{take-append-drop}
use Rattle.toml_tree.specs.Pieces.{piece_of}
use Rattle.toml_tree.specs.Spells.{Part, part_text, joined, all_parts, value_parts, IsValue, mark_of, Spells, doc_parts}
use Rattle.toml_tree.specs.Tree.{Value, Scalar, Array, Inline, Doc}
use Rattle.toml_tree.proofs.Marks.{mark_front}
use Rattle.toml_tree.proofs.Many.{append-nil}

pub joined_append : (ps qs : List Part) → joined (ps ++ qs) ≡ joined ps ++ joined qs
joined_append [] qs = refl
joined_append (p ∷ ps) qs = ap (λ l. part_text p ++ l) (joined_append ps qs) ∙ sym (append_assoc (part_text p) (joined ps) (joined qs))

-- a part was written, and then others
pub written_then : (out : List ℕ) (p : Part) (ps : List Part) (mid new : List ℕ) → mid ≡ out ++ part_text p → new ≡ mid ++ joined ps → new ≡ out ++ joined (p ∷ ps)
written_then out p ps mid new first then_is = then_is ∙ ap (λ l. l ++ joined ps) first ∙ append_assoc out (part_text p) (joined ps)

-- some parts were written, and then others
pub written_both : (out : List ℕ) (ps qs : List Part) (mid new : List ℕ) → mid ≡ out ++ joined ps → new ≡ mid ++ joined qs → new ≡ out ++ joined (ps ++ qs)
written_both out ps qs mid new first then_is = then_is ∙ ap (λ l. l ++ joined qs) first ∙ append_assoc out (joined ps) (joined qs) ∙ ap (λ l. out ++ l) (sym (joined_append ps qs))

drop-nil : {X : Type 0} (i : ℕ) → ◌≡◌ {A = List X} (drop i []) []
drop-nil zero = refl
drop-nil (suc i) = refl

drop_past : {X : Type 0} (xs : List X) (i : ℕ) → length xs ≤ i → drop i xs ≡ []
drop_past [] i h = drop-nil i
drop_past (x ∷ xs) zero h = absurd (omega arith)
drop_past (x ∷ xs) (suc i) h = drop_past xs i (omega arith)

module _ {X A : Type 0} (g : X → A) (f : A → List Part) where
  -- one more element was written
  pub text_step : (xs : List X) (i : ℕ) (d : X) (out more all : List ℕ) → i < length xs → out ++ joined (all_parts f (map g (drop i xs))) ≡ all → more ≡ out ++ joined (f (g (get_or xs i d))) → more ++ joined (all_parts f (map g (drop (i + 1) xs))) ≡ all
  text_step xs i d out more all lt before is =
      let rest = all_parts f (map g (drop (suc i) xs)) in
      let x = f (g (get_or xs i d)) in
      rw add-one (ap (λ l. l ++ joined rest) is ∙ append_assoc out (joined x) (joined rest) ∙ ap (λ l. out ++ l) (sym (joined_append x rest)) ∙ ap (λ l. out ++ joined (all_parts f (map g l))) (sym (drop-cons xs i d lt)) ∙ before)

  -- all were written
  pub text_all : (xs : List X) (i : ℕ) (out all : List ℕ) → length xs ≤ i → out ++ joined (all_parts f (map g (drop i xs))) ≡ all → out ≡ all
  text_all xs i out all le before = sym (append-nil out) ∙ ap (λ l. out ++ joined (all_parts f (map g l))) (sym (drop_past xs i le)) ∙ before

-- a value's piece has the text of its parts
pub text_of_value : (v : Value) → IsValue v → (piece_of v).text ≡ joined (value_parts v)
text_of_value (Scalar kind p) h = sym (append-nil p.text)
text_of_value (Array whole items) h = h.0
text_of_value (Inline whole pairs) h = h.0

-- the parts of a tree that spells a text are the text
pub text_read : (d : Doc) (text : List ℕ) → Spells d text → joined (doc_parts d) ≡ text
text_read d text h =
    let n = length (mark_of text) in
    let front : d.mark.text ≡ take n text = ap (λ p. p.text) h.mark ∙ sym (mark_front text) in
    (λ i. front i ++ h.lines.text_is i) ∙ take-append-drop n text
