-- What is hidden beside a way, and what is not.
use Rattle.toml_names.proofs.Common.{◌≡◌, ℕ, Bool, true, false, cond, ◌&&◌, [], ◌∷◌, refl, sym, ◌∙◌, Step, Name, Index, Address, same_step}
use Rattle.toml_names.specs.model.Hidden.{ElementsAreNear, FrontsAreNear, WaysAreNear, is_off, is_off_all, is_off_way}
use Rattle.toml_names.proofs.lemmas.model.Equal.{same_step-self}

pub and_true : (b : Bool) → b && true ≡ b
and_true true = refl
and_true false = refl

pub and_false : (b : Bool) → b && false ≡ false
and_false true = refl
and_false false = refl

and_neither : (a b : Bool) → a && false ≡ b && false
and_neither a b = and_false a ∙ sym (and_false b)

-- the end of a way, and what is above it, is not beside it
off_way-root : (way : Address) → is_off_way way [] ≡ false
off_way-root [] = refl
off_way-root (s ∷ way) = refl

-- nor is an element right below its first step's array
off_way-element : (way : Address) (i : ℕ) → is_off_way way (Index i ∷ []) ≡ false
off_way-element [] i = refl
off_way-element (u ∷ way) i = by (same_step u (Index i))
  where
    by : (b : Bool) → cond b (is_off_way way []) false ≡ false
    by true = off_way-root way
    by false = refl

-- what is beside a way is beside the first step, or it is that step
off_step : (t u : Step) (way at : Address) → is_off t at && is_off_way (u ∷ way) (t ∷ at) ≡ is_off_way (u ∷ way) (t ∷ at)
off_step (Name m) u way at = refl
off_step (Index j) u way [] = sym (off_way-element (u ∷ way) j)
off_step (Index j) u way (t ∷ at) = refl

-- what no way leads to, once one does
pub off_both : (s : Step) (way at : Address) → is_off_all at && is_off_way way at ≡ is_off s at && is_off_way way at
off_both s [] at = and_neither (is_off_all at) (is_off s at)
off_both s (u ∷ way) [] = and_neither false (is_off s [])
off_both (Name n) (u ∷ way) (t ∷ at) = off_step t u way at
off_both (Index i) (u ∷ way) (t ∷ at) = off_step t u way at

-- ---- the laws

pub ways_are_near : WaysAreNear
ways_are_near [] r = refl
ways_are_near (s ∷ way) r = rw (same_step-self s) (ways_are_near way r)

pub fronts_are_near : FrontsAreNear
fronts_are_near [] r = off_way-root r
fronts_are_near (s ∷ q) r = rw (same_step-self s) (fronts_are_near q r)

pub elements_are_near : ElementsAreNear
elements_are_near [] r i = off_way-element r i
elements_are_near (s ∷ q) r i = rw (same_step-self s) (elements_are_near q r i)
