-- The kind of the first thing named at an address, and once one more thing is named.
use Rattle.toml_names.proofs.Common.{◌≡◌, zero, suc, Bool, true, false, List, [], ◌∷◌, ◌++◌, All, Any, Some, None, refl, sym, ◌∙◌, subst, arith, rules, cond-true, cond-false, none-some, same_Some, Address, same_address, IsFact, fact_at, Kind, Named, Option, IsSome}
use Rattle.toml_names.proofs.lemmas.model.Equal.{same_address-equal, same_address-self}

pub any_here : (P : Named → Type 0) (m : Named) (ms : List Named) → P m → Any P (m ∷ ms)
any_here P m ms p = (zero, m, omega arith, refl, p)

pub any_later : (P : Named → Type 0) (m : Named) (ms : List Named) → Any P ms → Any P (m ∷ ms)
any_later P m ms (k, x, low, is, p) = (suc k, x, omega (arith, low), is, p)

-- what holds of all holds of the one
pub from_all : (P Q : Named → Type 0) (C : Type 0) (ms : List Named) → All P ms → Any Q ms → ((e : Named) → P e → Q e → C) → C
from_all P Q C ms all (k, x, low, is, q) then = then x (subst P is (all k x low)) q

-- the one has more, by what holds of all
pub any_with : (P Q R : Named → Type 0) (ms : List Named) → All P ms → Any Q ms → ((e : Named) → P e → Q e → R e) → Any R ms
any_with P Q R ms all (k, x, low, is, q) then = (k, x, low, is, then x (subst P is (all k x low)) q)

pub fact_here : (m : Named) (ms : List Named) (at : Address) → m.address ≡ at → fact_at (m ∷ ms) at ≡ Some m.kind
fact_here m ms at same = cond-true _ _ _ (subst (λ a. same_address m.address a ≡ true) same (same_address-self m.address))

differ : (a b : Address) → ¬ (a ≡ b) → same_address a b ≡ false
differ a b apart = search (rules, same_address-equal)

pub fact_later : (m : Named) (ms : List Named) (at : Address) → ¬ (m.address ≡ at) → fact_at (m ∷ ms) at ≡ fact_at ms at
fact_later m ms at apart = cond-false _ _ _ (differ m.address at apart)

-- what is found is named
pub found : (ms : List Named) (at : Address) (k : Kind) → fact_at ms at ≡ Some k → IsFact ms at k
found [] at k h = absurd (none-some k h)
found (m ∷ ms) at k h = by (same_address m.address at) refl (found ms at k)
  where
    by : (t : Bool) → same_address m.address at ≡ t → (fact_at ms at ≡ Some k → IsFact ms at k) → IsFact (m ∷ ms) at k
    by true same more = any_here _ m ms (same_address-equal m.address at same, same_Some m.kind k (sym (cond-true _ _ _ same) ∙ h))
    by false apart more = any_later _ m ms (more (sym (cond-false _ _ _ apart) ∙ h))

-- what stands at an address, in a list that goes on
pub fact_kept : (ms more : List Named) (at : Address) (k : Kind) → fact_at ms at ≡ Some k → fact_at (ms ++ more) at ≡ Some k
fact_kept [] more at k h = absurd (none-some k h)
fact_kept (m ∷ ms) more at k h = search (rules, cond-true, cond-false, fact_kept ms more at k)

pub fact_behind : (ms more : List Named) (at : Address) → fact_at ms at ≡ None → fact_at (ms ++ more) at ≡ fact_at more at
fact_behind [] more at h = refl
fact_behind (m ∷ ms) more at h = search (rules, none-some, cond-true, cond-false, fact_behind ms more at)

pub there_is : (o : Option Kind) (k : Kind) → o ≡ Some k → IsSome o
there_is o k h = cc

pub fact_new : (ms : List Named) (m : Named) → fact_at ms m.address ≡ None → fact_at (ms ++ m ∷ []) m.address ≡ Some m.kind
fact_new ms m none = fact_behind ms (m ∷ []) m.address none ∙ fact_here m [] m.address refl

pub fact_other : (ms : List Named) (m : Named) (at : Address) → ¬ (m.address ≡ at) → fact_at (ms ++ m ∷ []) at ≡ fact_at ms at
fact_other ms m at apart = by (fact_at ms at) refl
  where
    by : (o : Option Kind) → fact_at ms at ≡ o → fact_at (ms ++ m ∷ []) at ≡ fact_at ms at
    by None h = fact_behind ms (m ∷ []) at h ∙ fact_later m [] at apart ∙ sym h
    by (Some k) h = fact_kept ms (m ∷ []) at k h ∙ sym h

pub stays : (ms more : List Named) (at : Address) → IsSome (fact_at ms at) → IsSome (fact_at (ms ++ more) at)
stays ms more at there = search (rules, there_is, fact_kept)

-- where nothing stands, nothing stood
pub none_before : (ms more : List Named) (at : Address) → fact_at (ms ++ more) at ≡ None → fact_at ms at ≡ None
none_before ms more at none = search (rules, none-some, fact_kept)
