-- What a `rename` makes of the key and the value of a line, by the line's own address.
use Rattle.std.proofs.Common.{◌≡◌, ◌∙◌, ℕ, ◌+◌, ◌-◌, ◌<◌, ◌≤◌, Bool, true, false, cond, ◌&&◌, List, [], ◌∷◌, ◌++◌, map, length, Some, None, refl, sym, ap, ap₂, subst, arith}
use Rattle.std.specs.Bool.{nat_lt}
use Rattle.std.proofs.lemmas.Bool.{and_parts, false≢true, true≢false}
use Rattle.std.proofs.lemmas.Bool.Decides.{nat_tests}
use Rattle.std.proofs.lemmas.List.{length-append}
use Rattle.toml_names.specs.declared.model.address.Step.{Step}
use Rattle.toml_names.specs.declared.model.address.Step.TheVariants.{Name}
use Rattle.toml_names.specs.mentions.Keys.{Key}
use Rattle.toml_names.specs.model.Addresses.{Address, same_step, is_above, below}
use Rattle.toml_names.proofs.Proved.{above_is_above, same_step-equal, same_step-self}
use Rattle.toml_layout.specs.Outlines.{AssignOutline, ValueOutline, Pair}
use Rattle.toml_layout.specs.RenameOutlines.{rename_outlined, rename_outline}
use Rattle.toml_layout.specs.RenamedPairs.{minus, own_part_with}
use Rattle.toml_layout.specs.RenamingIn.{reaches, part_with}
use Rattle.toml_layout.specs.SetOutlines.{outlined_names}
use Rattle.toml_layout.specs.Beginnings.{begins}
use Rattle.toml_layout.proofs.Small.{above_begins}
use Rattle.toml_layout.proofs.RenameInside.{key_kept, key_renamed, value_kept}

pub step_other : (s t : Step) → same_step s t ≡ same_step t s
step_other s t = by (same_step s t) (same_step t s) refl refl
  where
    by : (a b : Bool) → same_step s t ≡ a → same_step t s ≡ b → same_step s t ≡ same_step t s
    by true true h k = h ∙ sym k
    by false false h k = h ∙ sym k
    by true false h k = let e = same_step-equal s t h in absurd (false≢true (sym k ∙ subst (λ x. same_step x s ≡ true) e (same_step-self s)))
    by false true h k = let e = same_step-equal t s k in absurd (false≢true (sym h ∙ subst (λ x. same_step x t ≡ true) e (same_step-self t)))

pub begins_behind : (at a b : Address) → begins (at ++ a) (at ++ b) ≡ begins a b
begins_behind [] a b = refl
begins_behind (s ∷ at) a b = ap (λ c. c && begins (at ++ a) (at ++ b)) (same_step-self s) ∙ begins_behind at a b

names_begin : (k : Key) (steps : Address) → reaches k steps ≡ begins steps (map Name k)
names_begin [] [] = refl
names_begin (n ∷ k) [] = refl
names_begin [] (s ∷ steps) = refl
names_begin (n ∷ k) (s ∷ steps) = ap₂ (λ x y. x && y) (step_other (Name n) s) (names_begin k steps)

-- an address at or above what is below another, but not below that, is at or above it
short : (p at m : Address) → begins p (at ++ m) ≡ true → is_above at p ≡ false → length p ≤ length at
short [] at m h k = omega arith
short (t ∷ p) [] m h k = absurd (true≢false k)
short (t ∷ p) (s ∷ at) m h k =
    let (same, rest) = and_parts (same_step t s) (begins p (at ++ m)) h in
    let later = short p at m rest (sym (ap (λ c. c && is_above at p) (step_other s t ∙ same)) ∙ k) in
    omega (arith, later)

pub minus_none : (n m : ℕ) → n < m → minus n m ≡ None
minus_none n m h = let e : nat_lt n m ≡ true = grind (arith, nat_tests) in ap (λ b. cond b None (Some (n - m))) e

pub minus_some : (n m : ℕ) → m ≤ n → minus n m ≡ Some (n - m)
minus_some n m h = let e : nat_lt n m ≡ false = grind (arith, nat_tests) in ap (λ b. cond b None (Some (n - m))) e

-- the key and the value of a line whose key stands in the table at the first address, and its value at the second
pub pair_renamed : (p at : Address) (text : List ℕ) (a : AssignOutline) (v : ValueOutline)
    → Pair (rename_outlined p text at a) (rename_outline p text (below at (outlined_names a)) v)
    ≡ cond (begins p (below at (outlined_names a))) (own_part_with (minus (length p) (length at + 1)) text (Pair a v))
    (Pair a (rename_outline p text (below at (outlined_names a)) v))
pair_renamed p at text a v = by (begins p there) (is_above at p) refl refl
  where
    there : Address
    there = below at (outlined_names a)

    new : ValueOutline
    new = rename_outline p text there v

    value : begins p there ≡ true → new ≡ v
    value h = value_kept p text v there (off (is_above there p) refl)
      where
        off : (c : Bool) → is_above there p ≡ c → is_above there p ≡ false
        off false e = e
        off true e = absurd (false≢true (sym (above_begins there p e).1 ∙ h))

    -- the address goes on below the table
    on : (s : Step) (steps : Address) → p ≡ at ++ s ∷ steps → rename_outlined p text at a ≡ cond (begins p there) (part_with (length (s ∷ steps) - 1) text a) a
    on s steps is =
        ap (λ q. rename_outlined q text at a) is
        ∙ key_renamed text a at (s ∷ steps) (λ e. cc)
        ∙ ap (λ b. cond b (part_with (length (s ∷ steps) - 1) text a) a)
        (names_begin (outlined_names a) (s ∷ steps) ∙ sym (begins_behind at (s ∷ steps) (map Name (outlined_names a))) ∙ ap (λ q. begins q there) (sym is))

    by : (b c : Bool) → begins p there ≡ b → is_above at p ≡ c
        → Pair (rename_outlined p text at a) new ≡ cond (begins p there)
        (own_part_with (minus (length p) (length at + 1)) text (Pair a v)) (Pair a new)
    by false false h k =
        ap (λ k. Pair k new) (key_kept p text a at k)
        ∙ sym (ap (λ b. cond b (own_part_with (minus (length p) (length at + 1)) text (Pair a v)) (Pair a new)) h)
    by false true h k =
        let (s, steps, is) = (above_is_above at p).0 k in
        ap (λ k. Pair k new) (on s steps is ∙ ap (λ b. cond b (part_with (length (s ∷ steps) - 1) text a) a) h)
        ∙ sym (ap (λ b. cond b (own_part_with (minus (length p) (length at + 1)) text (Pair a v)) (Pair a new)) h)
    by true false h k =
        let low = short p at (map Name (outlined_names a)) h k in
        ap₂ Pair (key_kept p text a at k) (value h)
        ∙ ap (λ o. own_part_with o text (Pair a v)) (sym (minus_none (length p) (length at + 1) (omega (arith, low))))
        ∙ sym (ap (λ b. cond b (own_part_with (minus (length p) (length at + 1)) text (Pair a v)) (Pair a new)) h)
    by true true h k =
        let (s, steps, is) = (above_is_above at p).0 k in
        let size : length p ≡ length at + length (s ∷ steps) = ap (λ (q : Address). length q) is ∙ length-append at (s ∷ steps) in
        let number : length p - (length at + 1) ≡ length (s ∷ steps) - 1 = omega (arith, size) in
        ap₂ Pair (on s steps is ∙ ap (λ b. cond b (part_with (length (s ∷ steps) - 1) text a) a) h) (value h)
        ∙ ap (λ i. Pair (part_with i text a) v) (sym number)
        ∙ ap (λ o. own_part_with o text (Pair a v)) (sym (minus_some (length p) (length at + 1) (omega (arith, size))))
        ∙ sym (ap (λ b. cond b (own_part_with (minus (length p) (length at + 1)) text (Pair a v)) (Pair a new)) h)
