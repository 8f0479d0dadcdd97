-- The steps behind a beginning.
use Rattle.std.proofs.Common.{◌≡◌, ◌<◌, ℕ, zero, suc, false, [], ◌∷◌, ◌++◌, length, get_or, take, drop, sym, ap, ◌∙◌, arith, length-append, true≢false}
use Rattle.std.proofs.lemmas.List.{take_all, take-append-drop}
use Rattle.toml_names.specs.declared.model.address.Step.{Step}
use Rattle.toml_names.specs.model.Addresses.{Address, same_step}
use Rattle.toml_names.proofs.Proved.{same_step-self}

pub too_short : (front steps rest : Address) → length steps < length front → steps ≡ front ++ rest → ⊥
too_short front steps rest short is = omega (arith, ap length is, length-append front rest)

step_there : (front rest : Address) (i : ℕ) (d e : Step) → i < length front → get_or front i d ≡ get_or (front ++ rest) i e
step_there [] rest i d e low = absurd (omega arith)
step_there (s ∷ front) rest zero d e low = λ i. s
step_there (s ∷ front) rest (suc i) d e low = step_there front rest i d e (omega arith)

-- they differ at an index
pub differs : (front steps rest : Address) (i : ℕ) (s t d e : Step) → i < length front → s ≡ get_or front i d → t ≡ get_or steps i e → same_step s t ≡ false → steps ≡ front ++ rest → ⊥
differs front steps rest i s t d e low one two differ is =
    let same : s ≡ t = one ∙ step_there front rest i d e low ∙ ap (λ l. get_or l i e) (sym is) ∙ sym two in
    true≢false (sym (same_step-self s) ∙ ap (same_step s) same ∙ differ)

pub joined : (front steps : Address) → take (length front) front ≡ take (length front) steps → steps ≡ front ++ drop (length front) steps
joined front steps same =
    sym (take-append-drop (length front) steps)
    ∙ ap (λ l. l ++ drop (length front) steps) (sym same ∙ take_all (length front) front (omega arith))

-- within a list it does not matter what stands past its end
pub get_or-any : (steps : Address) (i : ℕ) (d e : Step) → i < length steps → get_or steps i d ≡ get_or steps i e
get_or-any [] i d e low = absurd (omega arith)
get_or-any (s ∷ steps) zero d e low = λ i. s
get_or-any (s ∷ steps) (suc i) d e low = get_or-any steps i d e (omega arith)
