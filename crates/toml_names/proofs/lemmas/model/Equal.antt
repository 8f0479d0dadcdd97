-- Addresses that are the same are equal, by their last step too; which address is strictly above which.
use Rattle.toml_names.proofs.Common.{◌≡◌, true, refl, rules, Decides, pointwise_decides, Step, Address, same_step, same_address, SameStepIsEqual, StepIsSame, common_steps, ℕ, ◌<◌, ◌≤◌, false, ◌&&◌, [], ◌∷◌, length, drop, ap, ◌∙◌, arith, Bool, drop_all, is_above, ◌+◌, List, ◌++◌, ◌-◌, length-append, child, element, IsAbove, slice_set, take, sym, suc, zero}
use Rattle.std.proofs.lemmas.List.{take_all}

pub same_step-equal : SameStepIsEqual
same_step-equal = search rules

pub same_step-self : StepIsSame
same_step-self = search rules

pub same_step-decides : (s t : Step) → Decides (same_step s t) (s ≡ t)
same_step-decides s t = (same_step-equal s t, λ e. rw e (same_step-self t))

pub same_address-decides : (a b : Address) → Decides (same_address a b) (a ≡ b)
same_address-decides = pointwise_decides same_step-decides

pub same_address-equal : (a b : Address) → same_address a b ≡ true → a ≡ b
same_address-equal a b h = (same_address-decides a b).0 h

pub same_address-self : (a : Address) → same_address a a ≡ true
same_address-self a = (same_address-decides a a).1 refl

pub and_false : (b : Bool) → (b && false) ≡ false
and_false b = search rules

pub above_short : (a b : Address) → length b ≤ length a → is_above a b ≡ false
above_short [] [] h = refl
above_short [] (t ∷ b) h = absurd (omega arith)
above_short (s ∷ a) [] h = refl
above_short (s ∷ a) (t ∷ b) h = ap (λ r. same_step s t && r) (above_short a b (omega arith)) ∙ and_false (same_step s t)

above_nil : (b : Address) → 0 < length b → is_above [] b ≡ true
above_nil b h = search rules

drop_some : (b : Address) (i : ℕ) → i < length b → 0 < length (drop i b)
drop_some b i h = grind (arith, common_steps)

-- the shorter one was gone through
pub above_end : (a b : Address) (i : ℕ) → length a < length b → length a ≤ i → i ≤ length a → is_above (drop i a) (drop i b) ≡ true
above_end a b i low past within = ap (λ l. is_above l (drop i b)) (drop_all i a past) ∙ above_nil (drop i b) (drop_some b i (omega arith))

pub child_is_no_element : (p q : Address) (n : List ℕ) (j : ℕ) → ¬ (child p n ≡ element q j)
child_is_no_element p q n j = grind (arith, common_steps)

pub element_parts : (p q : Address) (i j : ℕ) → element p i ≡ element q j → (p ≡ q) × (i ≡ j)
element_parts p q i j h = grind (arith, common_steps)

pub one_longer : (p : Address) (s : Step) → length (p ++ s ∷ []) ≡ length p + 1
one_longer p s = length-append p (s ∷ [])

-- what is above another address, and shorter by one step
pub one_below : (a b : Address) → IsAbove a b → length b - 1 ≡ length a → (s : Step) × (b ≡ a ++ s ∷ [])
one_below a b (s, [], is) short = (s, is)
one_below a b (s, t ∷ rest, is) short = absurd (omega (arith, short, ap length is, length-append a (s ∷ t ∷ rest)))

-- another last step
pub last_set : (q : Address) (s t : Step) → slice_set (q ++ s ∷ []) (length q) t ≡ q ++ t ∷ []
last_set [] s t = refl
last_set (r ∷ q) s t = ap (λ p. r ∷ p) (last_set q s t)

-- an address with a step put at a depth
pub step_set : (at : Address) (depth : ℕ) (s : Step) → depth < length at → take (depth + 1) (slice_set at depth s) ≡ take depth at ++ s ∷ []
step_set [] depth s low = absurd (omega (arith, low))
step_set (t ∷ at) zero s low = refl
step_set (t ∷ at) (suc depth) s low =
    let one : suc depth + 1 ≡ suc (depth + 1) = omega arith in
    ap (λ n. take n (t ∷ slice_set at depth s)) one ∙ ap (λ p. t ∷ p) (step_set at depth s (omega (arith, low)))

pub step_pushed : (at : Address) (depth : ℕ) (s : Step) → depth ≡ length at → take (depth + 1) (at ++ s ∷ []) ≡ take depth at ++ s ∷ []
step_pushed at depth s is =
    take_all (depth + 1) (at ++ s ∷ []) (omega (arith, is, length-append at (s ∷ []))) ∙ ap (λ p. p ++ s ∷ []) (sym (take_all depth at (omega (arith, is))))

-- what is as long as a front fits
pub front_fits : (n : ℕ) (at : Address) → length (take n at) ≡ n → n ≤ length at
front_fits zero at h = omega arith
front_fits (suc n) [] h = absurd (omega (arith, h))
front_fits (suc n) (s ∷ at) h = let more = front_fits n at (omega (arith, h)) in omega (arith, more)
