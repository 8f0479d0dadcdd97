-- How many tables the array at an address has, once more is named.
use Rattle.toml_names.proofs.Common.{common_steps, ◌≡◌, ℕ, zero, suc, ◌+◌, ◌<◌, ◌&&◌, Bool, false, cond, List, [], ◌∷◌, ◌++◌, Any, None, refl, ap, ◌∙◌, arith, rules, cond-true, cond-false, sum_by-cons, sum_by_push, none-some, Tables, Address, same_address, fact_at, Named, is_tables, is_tables_at, count_tables}
use Rattle.toml_names.proofs.lemmas.model.Equal.{same_address-self}

-- one more, if it is an array of tables at the address
abbrev pub adds : Address → Named → ℕ
adds at m = cond (is_tables_at at m) 1 0

pub count_cons : (m : Named) (ms : List Named) (at : Address) → count_tables (m ∷ ms) at ≡ adds at m + count_tables ms at
count_cons m ms at = sum_by-cons (adds at) m ms

pub count_push : (ms : List Named) (m : Named) (at : Address) → count_tables (ms ++ m ∷ []) at ≡ count_tables ms at + adds at m
count_push ms m at = sum_by_push (adds at) ms m

and_false : (b : Bool) → (b && false) ≡ false
and_false b = search rules

pub adds_none : (m : Named) (at : Address) → is_tables m.role ≡ false → adds at m ≡ 0
adds_none m at plain = cond-false _ _ _ (ap (λ b. same_address m.address at && b) plain ∙ and_false (same_address m.address at))

pub count_plain : (ms : List Named) (m : Named) (at : Address) → is_tables m.role ≡ false → count_tables (ms ++ m ∷ []) at ≡ count_tables ms at
count_plain ms m at plain = let none = adds_none m at plain in omega (arith, count_push ms m at)

-- where nothing stands no array of tables does
pub count_absent : (ms : List Named) (at : Address) → fact_at ms at ≡ None → count_tables ms at ≡ 0
count_absent [] at none = refl
count_absent (m ∷ ms) at none = search (rules, none-some, cond-true, cond-false, count_cons, count_absent ms at)

-- where one stands the count says so
pub count_there : (ms : List Named) (at : Address) → Any (λ m. (m.address ≡ at) × (m.role ≡ Tables)) ms → 0 < count_tables ms at
count_there [] at (k, x, low, is, p) = absurd (omega (arith, low))
count_there (m ∷ ms) at (zero, x, low, is, p) = grind (arith, common_steps, same_address-self, cond-true, count_cons)
count_there (m ∷ ms) at (suc k, x, low, is, p) =
    let more = count_there ms at (k, x, omega (arith, low), is, p) in
    omega (arith, count_cons m ms at)
