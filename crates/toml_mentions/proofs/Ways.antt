-- How many steps of the way to a target lead to an address.
use Rattle.std.proofs.Common.{◌≡◌, ◌≤◌, ◌<◌, ◌+◌, ℕ, zero, suc, Bool, true, false, List, [], ◌∷◌, ◌++◌, length, take, drop, get_or, Option, Some, None, refl, sym, ap, ◌∙◌, subst, arith}
use Rattle.std.specs.Prelude.{◌&&◌, if◌then◌else◌}
use Rattle.std.proofs.lemmas.List.{append-nil, length_push, length-take, length-take-le, take_all, take-append-drop}
use Rattle.std.proofs.lemmas.Option.{none-some}
use Rattle.toml_names.specs.declared.model.address.Step.{Step}
use Rattle.toml_names.specs.model.Addresses.{Address, same_address, same_step}
use Rattle.toml_names.proofs.Proved.{same_address-decides, same_step-equal, same_step-self}
use Rattle.toml_mentions.specs.Sought.{is_front, way_to}

and_true : (b : Bool) → (b && true) ≡ b
and_true true = refl
and_true false = refl

and_assoc : (a b c : Bool) → (a && (b && c)) ≡ ((a && b) && c)
and_assoc true b c = refl
and_assoc false b c = refl

and_first : (a b : Bool) → (a && b) ≡ true → a ≡ true
and_first true b h = refl
and_first false b h = h

and_second : (a b : Bool) → (a && b) ≡ true → b ≡ true
and_second true b h = h
and_second false b h = absurd (let differs : false ≡ true = h in cc)

pub false_from : (b : Bool) → ¬ (b ≡ true) → b ≡ false
false_from true differs = absurd (differs refl)
false_from false differs = refl

-- whether the target goes on with the step behind so many
next_is : Step → Address → ℕ → Bool
next_is s [] n = false
next_is s (x ∷ t) zero = same_step s x
next_is s (x ∷ t) (suc n) = next_is s t n

front_more : (at : Address) (s : Step) (t : Address) → is_front (at ++ s ∷ []) t ≡ (is_front at t && next_is s t (length at))
unfolding next_is
front_more [] s [] = refl
front_more [] s (x ∷ t) = and_true (same_step s x)
front_more (a ∷ at) s [] = refl
front_more (a ∷ at) s (x ∷ t) = ap (λ b. same_step a x && b) (front_more at s t) ∙ and_assoc (same_step a x) (is_front at t) (next_is s t (length at))

on_by : (b : Bool) (n d : ℕ) → Some d ≡ (if b then Some n else None) → (b ≡ true) × (d ≡ n)
on_by true n d h = (refl, cc)
on_by false n d h = absurd (none-some d (sym h))

off_by : (b : Bool) (n : ℕ) → None ≡ (if b then Some n else None) → b ≡ false
off_by true n h = absurd (none-some n h)
off_by false n h = refl

-- on the way
on : (t at : Address) (d : ℕ) → Some d ≡ way_to t at → (is_front at t ≡ true) × (d ≡ length at)
on t at d h = on_by (is_front at t) (length at) d h

-- by whether it is a front
front_way : (t at : Address) → is_front at t ≡ true → way_to t at ≡ Some (length at)
front_way t at h = ap (λ b. if b then Some (length at) else None) h

no_front_way : (t at : Address) → is_front at t ≡ false → None ≡ way_to t at
no_front_way t at h = sym (ap (λ b. if b then Some (length at) else None) h)

-- below what is off the way all is
pub off : (t at : Address) (s : Step) → None ≡ way_to t at → None ≡ way_to t (at ++ s ∷ [])
off t at s h =
    let none : is_front at t ≡ false = off_by (is_front at t) (length at) h in
    no_front_way t (at ++ s ∷ []) (front_more at s t ∙ ap (λ b. b && next_is s t (length at)) none)

next_at : (s : Step) (t : Address) (d : ℕ) (x : Step) → d < length t → x ≡ get_or t d x → next_is s t d ≡ same_step s x
unfolding next_is
next_at s [] d x low is = absurd (omega (arith, low))
next_at s (y ∷ t) zero x low is = ap (same_step s) (sym is)
next_at s (y ∷ t) (suc d) x low is = next_at s t d x (omega (arith, low)) is

next_none : (s : Step) (t : Address) (d : ℕ) → length t ≤ d → next_is s t d ≡ false
unfolding next_is
next_none s [] d low = refl
next_none s (y ∷ t) zero low = absurd (omega (arith, low))
next_none s (y ∷ t) (suc d) low = next_none s t d (omega (arith, low))

-- one step further on the way
module _ (t at : Address) (s : Step) (d : ℕ) (h : Some d ≡ way_to t at) where
  further : is_front (at ++ s ∷ []) t ≡ next_is s t d
  further =
      let front = (on t at d h).0 in
      let long = (on t at d h).1 in
      front_more at s t ∙ (ap (λ b. b && next_is s t (length at)) front ∙ ap (next_is s t) (sym long))

  long_more : length (at ++ s ∷ []) ≡ d + 1
  long_more = length_push at s ∙ ap (λ n. n + 1) (sym (on t at d h).1)

  pub step_end : length t ≤ d → None ≡ way_to t (at ++ s ∷ [])
  step_end past = no_front_way t (at ++ s ∷ []) (further ∙ next_none s t d past)

  module _ (x : Step) (low : d < length t) (is : x ≡ get_or t d x) where
    pub step_on : same_step s x ≡ true → Some (d + 1) ≡ way_to t (at ++ s ∷ [])
    step_on same = sym (front_way t (at ++ s ∷ []) (further ∙ (next_at s t d x low is ∙ same)) ∙ ap (λ n. Some n) long_more)

    pub step_off : same_step s x ≡ false → None ≡ way_to t (at ++ s ∷ [])
    step_off other = no_front_way t (at ++ s ∷ []) (further ∙ (next_at s t d x low is ∙ other))

-- a front is the first steps of the target
front_take : (at t : Address) → is_front at t ≡ true → at ≡ take (length at) t
front_take [] t h = refl
front_take (s ∷ at) [] h = absurd (let differs : false ≡ true = h in cc)
front_take (s ∷ at) (x ∷ t) h =
    let first : s ≡ x = same_step-equal s x (and_first (same_step s x) (is_front at t) h) in
    let rest : at ≡ take (length at) t = front_take at t (and_second (same_step s x) (is_front at t) h) in
    ap (λ y. y ∷ at) first ∙ ap (λ l. x ∷ l) rest

pub way_is_take : (t at : Address) (d : ℕ) → Some d ≡ way_to t at → at ≡ take d t
way_is_take t at d h = front_take at t (on t at d h).0 ∙ ap (λ n. take n t) (sym (on t at d h).1)

front_self : (q rest : Address) → is_front q (q ++ rest) ≡ true
front_self [] rest = refl
front_self (s ∷ q) rest = ap (λ b. b && is_front q (q ++ rest)) (same_step-self s) ∙ front_self q rest

pub way_self : (t : Address) → Some (length t) ≡ way_to t t
way_self t = sym (front_way t t (subst (λ l. is_front t l ≡ true) (append-nil t) (front_self t [])))

-- at the target, and elsewhere
take_whole : (t : Address) → take (length t) t ≡ t
take_whole t = take_all (length t) t (omega arith)

pub is_here : (t at : Address) → Some (length t) ≡ way_to t at → same_address at t ≡ true
is_here t at h = (same_address-decides at t).1 (way_is_take t at (length t) h ∙ take_whole t)

pub not_here : (t at : Address) → ¬ (Some (length t) ≡ way_to t at) → same_address at t ≡ false
not_here t at other = false_from (same_address at t) (λ h. other (subst (λ a. Some (length t) ≡ way_to t a) (sym ((same_address-decides at t).0 h)) (way_self t)))

pub off_apart : (t at : Address) → None ≡ way_to t at → same_address at t ≡ false
off_apart t at h = not_here t at (λ (e : Some (length t) ≡ way_to t at). none-some (length t) (h ∙ sym e))

-- of the target's fronts it is that one, or none
pub take_apart : (t at : Address) (d : ℕ) → d ≤ length t → ¬ (Some d ≡ way_to t at) → same_address at (take d t) ≡ false
take_apart t at d low other =
    false_from (same_address at (take d t)) (λ h.
    let same : at ≡ take d t = (same_address-decides at (take d t)).0 h in
    let long : length (take d t) ≡ d = length-take-le d t low in
    let front : is_front (take d t) t ≡ true = subst (λ l. is_front (take d t) l ≡ true) (take-append-drop d t) (front_self (take d t) (drop d t)) in
    other (subst (λ a. Some d ≡ way_to t a) (sym same) (sym (front_way t (take d t) front ∙ ap (λ n. Some n) long))))

pub take_here : (t at : Address) (d : ℕ) → Some d ≡ way_to t at → same_address at (take d t) ≡ true
take_here t at d h = (same_address-decides at (take d t)).1 (way_is_take t at d h)

pub way_low : (t at : Address) (d : ℕ) → Some d ≡ way_to t at → d ≤ length t
way_low t at d h =
    let long : length at ≡ length (take d t) = ap length (way_is_take t at d h) in
    let short = length-take d t in
    omega (arith, long, short, (on t at d h).1)
