-- The parts of gaps, as loops go over them.
use Rattle.std.proofs.Common.{◌≡◌, ◌∙◌, ℕ, zero, suc, ◌+◌, ◌<◌, true, false, cond, ◌&&◌, List, [], ◌∷◌, length, take, drop, get_or, refl, ap, sym, subst, arith, add-one}
use Rattle.std.proofs.Math.Bool.{and-false}
use Rattle.std.proofs.lemmas.List.Folds.{list_all_at}
use Rattle.toml_layout.specs.declared.tree.GapPart.{GapPart}
use Rattle.toml_layout.specs.Gaps.{are_ws, is_ws, trimmed}
use Rattle.toml_layout.proofs.Small.{dropped}

-- ---- whitespace in front

-- ---- whitespace at the end

pub ws_on : (ps : List GapPart) (i : ℕ) (p : GapPart) → i < length ps → p ≡ get_or ps i p → is_ws p ≡ true → are_ws (drop (i + 1) ps) ≡ true
    → are_ws (drop i ps) ≡ true
ws_on ps i p low is ws behind = ap are_ws (dropped ps i p low is) ∙ ap (λ b. b && are_ws (drop (i + 1) ps)) ws ∙ behind

pub trimmed_none : (ps : List GapPart) → are_ws ps ≡ true → [] ≡ trimmed ps
trimmed_none [] all = refl
trimmed_none (p ∷ ps) all = sym (ap (λ b. cond b [] (p ∷ trimmed ps)) all)

trimmed_suc : (ps : List GapPart) (i : ℕ) (p : GapPart) → i < length ps → p ≡ get_or ps i p → is_ws p ≡ false → are_ws (drop (suc i) ps) ≡ true
    → take (suc i) ps ≡ trimmed ps
trimmed_suc [] i p low is ws behind = absurd (omega arith)
trimmed_suc (x ∷ ps) zero p low is ws behind =
    let own : are_ws (x ∷ ps) ≡ false = ap (λ b. b && are_ws ps) (subst (λ q. is_ws q ≡ false) is ws) in
    sym (ap (λ b. cond b [] (x ∷ trimmed ps)) own ∙ ap (λ t. x ∷ t) (sym (trimmed_none ps behind)))
trimmed_suc (x ∷ ps) (suc i) p low is ws behind =
    let low_here : i < length ps = omega arith in
    let rest : are_ws ps ≡ false = list_all_at is_ws ps i p low_here (subst (λ q. is_ws q ≡ false) is ws) in
    let own : are_ws (x ∷ ps) ≡ false = ap (λ b. is_ws x && b) rest ∙ and-false (is_ws x) in
    ap (λ t. x ∷ t) (trimmed_suc ps i p low_here is ws behind) ∙ sym (ap (λ b. cond b [] (x ∷ trimmed ps)) own)

pub trimmed_at : (ps : List GapPart) (i : ℕ) (p : GapPart) → i < length ps → p ≡ get_or ps i p → is_ws p ≡ false → are_ws (drop (i + 1) ps) ≡ true
    → take (i + 1) ps ≡ trimmed ps
trimmed_at ps i p low is ws behind =
    subst (λ n. take n ps ≡ trimmed ps) (sym (add-one i)) (trimmed_suc ps i p low is ws (subst (λ n. are_ws (drop n ps) ≡ true) (add-one i) behind))

-- ---- newlines

-- ---- by what stands at an index

got : {A : Type 0} (xs : List A) (i : ℕ) (d e : A) → i < length xs → get_or xs i d ≡ get_or xs i e
got [] i d e low = absurd (omega arith)
got (x ∷ xs) zero d e low = refl
got (x ∷ xs) (suc i) d e low = got xs i d e (omega arith)

pub trimmed_got : (ps : List GapPart) (i : ℕ) (d : GapPart) → i < length ps → is_ws (get_or ps i d) ≡ false → are_ws (drop (i + 1) ps) ≡ true
    → take (i + 1) ps ≡ trimmed ps
trimmed_got ps i d low ws behind = trimmed_at ps i (get_or ps i d) low (got ps i d (get_or ps i d) low) ws behind
