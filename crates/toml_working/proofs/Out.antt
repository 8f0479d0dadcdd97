-- The text of pieces with one more at their end, or with another last one; what is left of things that are written one after the other.
use Rattle.std.proofs.Common.{◌≡◌, ◌<◌, ◌≤◌, ◌+◌, ◌-◌, ◌∙◌, ℕ, suc, List, [], ◌∷◌, ◌++◌, ap, sym, subst, arith, add-one, append_assoc, append-nil, length, get_or, take, drop, take-add, drop-drop, slice_range}
use Rattle.std.proofs.Math.Seq.{drop-cons}
use Rattle.std.proofs.lemmas.List.{drop_all}
use Rattle.toml_text.specs.declared.span.Span.{Span}
use Rattle.toml_units.specs.Pieces.{IsHeldPiece, joined_text, piece_text}
use Rattle.toml_units.specs.declared.piece.Piece.{Piece}
use Rattle.toml_units.specs.declared.piece.Piece.TheVariants.{Kept}
use Rattle.toml_working.proofs.Each.{each_back}
use Rattle.toml_working.specs.Tidy.{AreTidyUpTo}
use Rattle.toml_working.specs.Writing.{SpellAll}

pub joined_more : (text : List ℕ) (ps : List Piece) (p : Piece) → joined_text text (ps ++ p ∷ []) ≡ joined_text text ps ++ piece_text text p
joined_more text [] p = append-nil (piece_text text p)
joined_more text (q ∷ ps) p = ap (λ r. piece_text text q ++ r) (joined_more text ps p) ∙ sym (append_assoc (piece_text text q) (joined_text text ps) (piece_text text p))

-- a last piece that has bytes more
pub joined_longer : (text : List ℕ) (ps : List Piece) (p q : Piece) (bytes : List ℕ) → piece_text text q ≡ piece_text text p ++ bytes
    → joined_text text (ps ++ q ∷ []) ≡ joined_text text (ps ++ p ∷ []) ++ bytes
joined_longer text ps p q bytes is =
    joined_more text ps q ∙ ap (λ r. joined_text text ps ++ r) is ∙ sym (append_assoc (joined_text text ps) (piece_text text p) bytes)
    ∙ ap (λ r. r ++ bytes) (sym (joined_more text ps p))

pub slice_split : (s : List ℕ) (i j k : ℕ) → i ≤ j → j ≤ k → slice_range s i k ≡ slice_range s i j ++ slice_range s j k
slice_split s i j k ij jk =
    let e : k - i ≡ (j - i) + (k - j) = omega arith in
    let f : i + (j - i) ≡ j = omega arith in
    ap (λ n. take n (drop i s)) e ∙ take-add (j - i) (k - j) (drop i s)
    ∙ ap (λ t. slice_range s i j ++ take (k - j) t) (drop-drop (j - i) i s ∙ ap (λ n. drop n s) f)

-- a span that touches the last kept one
pub joined_touching : (text : List ℕ) (end : ℕ) (left : List Piece) (last span : Span) → AreTidyUpTo text end (left ++ Kept last ∷ []) → last.end ≡ span.start → span.start ≤ span.end
    → joined_text text (left ++ Kept (record { start = last.start; end = span.end }) ∷ []) ≡ joined_text text (left ++ Kept last ∷ []) ++ slice_range text span.start span.end
joined_touching text end left last span tidy touches order =
    let held = each_back (IsHeldPiece text) left (Kept last ∷ []) tidy.tidy.held in
    joined_longer text left (Kept last) (Kept (record { start = last.start; end = span.end })) (slice_range text span.start span.end)
    (slice_split text last.start last.end span.end held.0.order (omega (arith, touches)) ∙ ap (λ n. slice_range text last.start last.end ++ slice_range text n span.end) touches)

-- one more is passed
pub dropped : {A : Type 0} (xs : List A) (i : ℕ) (x : A) → i < length xs → x ≡ get_or xs i x → drop i xs ≡ x ∷ drop (i + 1) xs
dropped xs i x low is = rw add-one (drop-cons xs i x low ∙ ap (λ y. y ∷ drop (suc i) xs) (sym is))

-- so far things are written that spell a text, and these are left
abbrev pub SpelledSoFar : {A : Type 0} → (A → List ℕ → Type 0) → List ℕ → List A → ℕ → List ℕ → List ℕ → Type 0
SpelledSoFar P old xs i out text = (rest : List ℕ) × SpellAll P (drop i xs) rest × (out ++ rest ≡ old ++ text)

-- one more is written
pub spelled_on : {A : Type 0} (P : A → List ℕ → Type 0) (old : List ℕ) (xs : List A) (i : ℕ) (x : A) (out next text : List ℕ) → i < length xs → x ≡ get_or xs i x
    → ((t : List ℕ) → P x t → next ≡ out ++ t) → SpelledSoFar P old xs i out text → SpelledSoFar P old xs (i + 1) next text
spelled_on P old xs i x out next text low is more (rest, left, so_far) =
    let (front, back, here, behind, split) = subst (λ ls. SpellAll P ls rest) (dropped xs i x low is) left in
    (back, behind, ap (λ r. r ++ back) (more front here) ∙ append_assoc out front back ∙ ap (λ r. out ++ r) (sym split) ∙ so_far)

-- none are left
pub spelled_all : {A : Type 0} (P : A → List ℕ → Type 0) (old : List ℕ) (xs : List A) (i : ℕ) (out text : List ℕ) → length xs ≤ i → SpelledSoFar P old xs i out text → out ≡ old ++ text
spelled_all P old xs i out text past (rest, left, so_far) =
    let none : rest ≡ [] = subst (λ ls. SpellAll P ls rest) (drop_all i xs past) left in
    sym (append-nil out) ∙ ap (λ r. out ++ r) (sym none) ∙ so_far
