-- The newline at the front, by its length.
use Rattle.std.proofs.Common.{◌≡◌, ℕ, ◌-◌, ◌<◌, ◌≤◌, true, false, cond, ◌&&◌, List, [], ◌∷◌, ◌++◌, length, get_or, ◌⊎◌, take, drop, sym, refl, ap, ◌∙◌, arith, lit<, eqb, ⊎_elim, inl, inr, length-take}
use Rattle.std.proofs.lemmas.Bool.{and_parts, eqb-true, cond-true, cond-false}
use Rattle.std.proofs.lemmas.List.{take-append-drop}
use Rattle.toml_text.specs.Forms.{IsNewline}
use Rattle.toml_text.specs.Runs.{newline_len}
use Rattle.toml_text.proofs.Runs.{LongestFront}

-- what stands at the front by the length of the newline there
abbrev pub NewlineAt : List ℕ → Type 0
NewlineAt bs = (newline_len bs ≡ 0) ⊎ (((r : List ℕ) × (bs ≡ 0x0A ∷ r) × (newline_len bs ≡ 1)) ⊎ ((r : List ℕ) × (bs ≡ 0x0D ∷ 0x0A ∷ r) × (newline_len bs ≡ 2)))

pub newline_cases : (bs : List ℕ) → NewlineAt bs
newline_cases [] = inl refl
newline_cases (b ∷ []) = elim (eqb b 0x0A) as (λ t. eqb b 0x0A ≡ t → NewlineAt (b ∷ [])) [
  | true ↦ λ e. inr (inl ([], rw (eqb-true b 0x0A e) refl, cond-true _ _ _ e))
  | false ↦ λ e. inl (rw e (elim (eqb b 0x0D) as (λ t. ◌≡◌ {A = ℕ} (cond (t && false) 2 0) 0) [ true ↦ refl | false ↦ refl ]))
] refl
newline_cases (b ∷ d ∷ r) = elim (eqb b 0x0A) as (λ t. eqb b 0x0A ≡ t → NewlineAt (b ∷ d ∷ r)) [
  | true ↦ λ e. inr (inl (d ∷ r, rw (eqb-true b 0x0A e) refl, cond-true _ _ _ e))
  | false ↦ λ e. elim (eqb b 0x0D && eqb d 0x0A) as (λ t. (eqb b 0x0D && eqb d 0x0A) ≡ t → NewlineAt (b ∷ d ∷ r)) [
    | true ↦ λ k. let p = and_parts _ _ k in inr (inr (r, rw (eqb-true b 0x0D p.0, eqb-true d 0x0A p.1) refl, cond-false _ _ _ e ∙ cond-true _ _ _ k))
    | false ↦ λ k. inl (cond-false _ _ _ e ∙ cond-false _ _ _ k)
  ] refl
] refl

abbrev Lf : List ℕ → Type 0
Lf bs = (r : List ℕ) × (bs ≡ 0x0A ∷ r) × (newline_len bs ≡ 1)

abbrev CrLf : List ℕ → Type 0
CrLf bs = (r : List ℕ) × (bs ≡ 0x0D ∷ 0x0A ∷ r) × (newline_len bs ≡ 2)

pub newline_len-le : (bs : List ℕ) → newline_len bs ≤ length bs
newline_len-le bs = ⊎_elim
    (λ (z : newline_len bs ≡ 0). omega arith)
    (⊎_elim (λ (k : Lf bs). omega (arith, ap length k.1, k.2)) (λ (k : CrLf bs). omega (arith, ap length k.1, k.2)))
    (newline_cases bs)

pub newline_ascii : (bs : List ℕ) → 0 < newline_len bs → get_or bs (newline_len bs - 1) 0 < 128
newline_ascii bs h = ⊎_elim
    (λ (z : newline_len bs ≡ 0). absurd (omega arith))
    (⊎_elim (λ (k : Lf bs). rw (k.2, k.1) (lit< tt)) (λ (k : CrLf bs). rw (k.2, k.1) (lit< tt)))
    (newline_cases bs)

pub newline_piece : (bs : List ℕ) → 0 < newline_len bs → IsNewline (take (newline_len bs) bs)
newline_piece bs h = ⊎_elim
    (λ (z : newline_len bs ≡ 0). absurd (omega arith))
    (⊎_elim (λ (k : Lf bs). rw (k.2, k.1) (inl refl)) (λ (k : CrLf bs). rw (k.2, k.1) (inr refl)))
    (newline_cases bs)

-- a front that is a newline has the newline's length
pub newline_front : (bs : List ℕ) (m : ℕ) → m ≤ length bs → IsNewline (take m bs) → (newline_len bs ≡ m) × (0 < m)
newline_front bs m within newline =
    let count : length (take m bs) ≡ m = omega (arith, length-take m bs) in
    let whole : bs ≡ take m bs ++ drop m bs = sym (take-append-drop m bs) in
    ⊎_elim
    (λ (lf : take m bs ≡ 0x0A ∷ []).
    let one : newline_len bs ≡ 1 = ap newline_len (whole ∙ ap (λ l. l ++ drop m bs) lf) in
    (omega (arith, ap length lf), omega (arith, ap length lf)))
    (λ (crlf : take m bs ≡ 0x0D ∷ 0x0A ∷ []).
    let two : newline_len bs ≡ 2 = ap newline_len (whole ∙ ap (λ l. l ++ drop m bs) crlf) in
    (omega (arith, ap length crlf), omega (arith, ap length crlf)))
    newline

pub newline_longest : (bs : List ℕ) → 0 < newline_len bs → LongestFront IsNewline bs (newline_len bs)
newline_longest bs some = record {
  within = newline_len-le bs;
  piece = newline_piece bs some;
  longest = λ m after within newline. absurd (omega (arith, newline_front bs m within newline));
}

pub newline_none : (bs : List ℕ) → newline_len bs ≡ 0 → (m : ℕ) → m ≤ length bs → ¬ IsNewline (take m bs)
newline_none bs none m within newline = absurd (omega (arith, newline_front bs m within newline))
