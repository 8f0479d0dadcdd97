-- Runs of whitespace and newlines.
use Rattle.std.proofs.Common.{◌≡◌, ℕ, suc, ◌+◌, ◌≤◌, Bool, true, false, cond, ◌||◌, ◌&&◌, List, [], ◌∷◌, ◌++◌, length, take, drop, refl, ap, ◌∙◌, arith, add-one, eqb, eq-eqb, ⊎_elim, inl, inr}
use Rattle.std.proofs.lemmas.Bool.{or_cases, or_parts, or_left, or_right, or_from, and_parts, and_from, eqb-true, cond-true, cond-false}
use Rattle.toml_text.specs.Bytes.{is_ws}
use Rattle.toml_text.specs.Runs.{begins, is_byte, newline_len}
use Rattle.toml_scalar.specs.Strings.{AreSpaces}
use Rattle.toml_scalar.specs.StringRuns.{spaces_len}

abbrev is_space : ℕ → List ℕ → Bool
is_space b bs = is_ws b || eqb b 0x0A || (eqb b 0x0D && begins (is_byte 0x0A) bs)

lf_first : (bs : List ℕ) → begins (is_byte 0x0A) bs ≡ true → (r : List ℕ) × (take (spaces_len bs) bs ≡ 0x0A ∷ r)
lf_first [] e = absurd cc
lf_first (b ∷ bs) e = (take (spaces_len bs) bs, rw (eqb-true b 0x0A e, add-one) refl)

space_are : (b : ℕ) (bs : List ℕ) → is_space b bs ≡ true → AreSpaces (take (spaces_len bs) bs) → AreSpaces (b ∷ take (spaces_len bs) bs)
space_are b bs e h = ⊎_elim
    (λ (k : (is_ws b || eqb b 0x0A) ≡ true). ⊎_elim (λ (w : is_ws b ≡ true). inl (w, h)) (λ (l : eqb b 0x0A ≡ true). inr (inl (eqb-true b 0x0A l, h))) (or_cases _ _ k))
    (λ (k : (eqb b 0x0D && begins (is_byte 0x0A) bs) ≡ true). let p = and_parts _ _ k in inr (inr (eqb-true b 0x0D p.0, lf_first bs p.1, h)))
    (or_cases _ _ e)

pub spaces_are : (bs : List ℕ) → AreSpaces (take (spaces_len bs) bs)
spaces_are [] = tt
spaces_are (b ∷ bs) = elim (is_space b bs) as (λ t. is_space b bs ≡ t → AreSpaces (take (cond t (spaces_len bs + 1) 0) (b ∷ bs))) [
  | true ↦ λ e. rw add-one (space_are b bs e (spaces_are bs))
  | false ↦ λ e. tt
] refl

-- neither whitespace nor a newline
abbrev pub NoSpace : List ℕ → Type 0
NoSpace bs = (begins is_ws bs ≡ false) × (newline_len bs ≡ 0)

no_space : (b : ℕ) (bs : List ℕ) → is_space b bs ≡ false → NoSpace (b ∷ bs)
no_space b bs e =
    let p = or_parts _ _ e in
    let q = or_parts _ _ p.0 in
    (q.0, cond-false _ _ _ q.1 ∙ cond-false _ _ _ p.1)

pub spaces_stop : (bs : List ℕ) → NoSpace (drop (spaces_len bs) bs)
spaces_stop [] = (refl, refl)
spaces_stop (b ∷ bs) = elim (is_space b bs) as (λ t. is_space b bs ≡ t → NoSpace (drop (cond t (spaces_len bs + 1) 0) (b ∷ bs))) [
  | true ↦ λ e. rw add-one (spaces_stop bs)
  | false ↦ λ e. no_space b bs e
] refl

lf_no : (b : ℕ) (bs : List ℕ) (t : Bool) → eqb b 0x0A ≡ t → newline_len (b ∷ bs) ≡ 0 → eqb b 0x0A ≡ false
lf_no b bs true e h = let one : newline_len (b ∷ bs) ≡ 1 = cond-true _ _ _ e in absurd (omega arith)
lf_no b bs false e h = e

crlf_no : (b : ℕ) (bs : List ℕ) (t : Bool) → eqb b 0x0A ≡ false → (eqb b 0x0D && begins (is_byte 0x0A) bs) ≡ t → newline_len (b ∷ bs) ≡ 0 → (eqb b 0x0D && begins (is_byte 0x0A) bs) ≡ false
crlf_no b bs true f e h = let two : newline_len (b ∷ bs) ≡ 2 = cond-false _ _ _ f ∙ cond-true _ _ _ e in absurd (omega arith)
crlf_no b bs false f e h = e

spaces_none : (bs : List ℕ) → NoSpace bs → spaces_len bs ≡ 0
spaces_none [] h = refl
spaces_none (b ∷ bs) h =
    let lf : eqb b 0x0A ≡ false = lf_no b bs (eqb b 0x0A) refl h.1 in
    let crlf : (eqb b 0x0D && begins (is_byte 0x0A) bs) ≡ false = crlf_no b bs _ lf refl h.1 in
    cond-false _ _ _ (or_from _ _ (or_from _ _ h.0 lf) crlf)

lf_begins : (bs rest : List ℕ) → ((r : List ℕ) × (bs ≡ 0x0A ∷ r)) → begins (is_byte 0x0A) (bs ++ rest) ≡ true
lf_begins bs rest h = ap (λ l. begins (is_byte 0x0A) (l ++ rest)) h.1

one_more : (t : Bool) (n m : ℕ) → t ≡ true → n ≡ m → cond t (n + 1) 0 ≡ suc m
one_more t n m e h = rw e (omega arith)

pub spaces_found : (bs rest : List ℕ) → AreSpaces bs → NoSpace rest → spaces_len (bs ++ rest) ≡ length bs
spaces_found [] rest h stop = spaces_none rest stop
spaces_found (b ∷ bs) rest h stop = ⊎_elim
    (λ (k : (is_ws b ≡ true) × AreSpaces bs). one_more _ _ _ (or_left _ _ (or_left _ _ k.0)) (spaces_found bs rest k.1 stop))
    (⊎_elim
    (λ (k : (b ≡ 0x0A) × AreSpaces bs). one_more _ _ _ (or_left _ _ (or_right _ _ (eq-eqb b 0x0A k.0))) (spaces_found bs rest k.1 stop))
    (λ (k : (b ≡ 0x0D) × ((r : List ℕ) × (bs ≡ 0x0A ∷ r)) × AreSpaces bs). one_more _ _ _ (or_right _ _ (and_from _ _ (eq-eqb b 0x0D k.0) (lf_begins bs rest k.1))) (spaces_found bs rest k.2 stop)))
    h

pub spaces_len-le : (bs : List ℕ) → spaces_len bs ≤ length bs
spaces_len-le [] = omega arith
spaces_len-le (b ∷ bs) = elim (is_space b bs) as (λ t. cond t (spaces_len bs + 1) 0 ≤ suc (length bs)) [ true ↦ omega (arith, spaces_len-le bs) | false ↦ omega arith ]
