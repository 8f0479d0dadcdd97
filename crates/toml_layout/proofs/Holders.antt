-- Whether something holds what steps name, by the entry to which they lead.
use Rattle.std.proofs.Common.{◌≡◌, ◌-◌, ◌∙◌, ℕ, zero, suc, true, false, cond, Some, None, List, [], ◌∷◌, ◌++◌, length, length-append, drop, take, refl, sym, ap, ap₂, subst, arith}
use Rattle.std.proofs.Math.Seq.{take-append_seam}
use Rattle.std.proofs.lemmas.Option.{none-some, same_Some}
use Rattle.std.specs.List.{list_all}
use Rattle.toml_names.specs.declared.model.address.Step.{Step}
use Rattle.toml_names.specs.declared.model.address.Step.TheVariants.{Name, Index}
use Rattle.toml_names.specs.mentions.Keys.{Key}
use Rattle.toml_names.specs.model.Addresses.{Address}
use Rattle.toml_layout.proofs.SetInside.{key_each, not_both, not_led}
use Rattle.toml_layout.proofs.Small.{each_of_all}
use Rattle.toml_layout.specs.Apart.{KeysApart, begins_key, keys_of}
use Rattle.toml_layout.specs.Holders.{element_holds, has_holder, is_name, pair_holds, parent_of}
use Rattle.toml_layout.specs.Leading.{LeadsOn, first_index, key_in, leads, value_in}
use Rattle.toml_layout.specs.Outlines.{ValueOutline, Token, Listed, Braced, EntriesOutline, End, Entry}
use Rattle.toml_layout.specs.SetOutlines.{outlined_names}

pub none_if : (steps : Address) → length steps ≡ 0 → steps ≡ []
none_if [] none = refl
none_if (s ∷ steps) none = absurd (omega (arith, none))

pub no_steps : (v : ValueOutline) → has_holder v [] ≡ false
no_steps (Token text) = refl
no_steps (Listed opening es) = refl
no_steps (Braced opening es) = refl

-- ---- elements

pub no_index : (opening : List ℕ) (es : EntriesOutline) (steps : Address) → first_index steps ≡ None → has_holder (Listed opening es) steps ≡ false
no_index opening es [] none = refl
no_index opening es (Name n ∷ steps) none = refl
no_index opening es (Index i ∷ steps) none = absurd (none-some i (sym none))

pub element_there : (es : EntriesOutline) (i : ℕ) (v : ValueOutline) (steps : Address) → value_in es i ≡ Some v → element_holds es i steps ≡ has_holder v steps
element_there (End gap) i v steps has = absurd (none-some v has)
element_there (Entry before a u after es) zero v steps has = ap (λ w. has_holder w steps) (same_Some u v has)
element_there (Entry before a u after es) (suc i) v steps has = element_there es i v steps has

pub element_none : (es : EntriesOutline) (i : ℕ) (steps : Address) → value_in es i ≡ None → element_holds es i steps ≡ false
element_none (End gap) i steps none = refl
element_none (Entry before a u after es) zero steps none = absurd (none-some u (sym none))
element_none (Entry before a u after es) (suc i) steps none = element_none es i steps none

pub list_has : (opening : List ℕ) (es : EntriesOutline) (i : ℕ) (steps rest : Address) → steps ≡ Index i ∷ rest → ¬ (rest ≡ [])
    → has_holder (Listed opening es) steps ≡ element_holds es i rest
list_has opening es i steps [] is some = absurd (some refl)
list_has opening es i steps (s ∷ rest) is some = ap (has_holder (Listed opening es)) is

pub list_ends : (opening : List ℕ) (es : EntriesOutline) (i : ℕ) (steps : Address) → steps ≡ Index i ∷ [] → has_holder (Listed opening es) steps ≡ true
list_ends opening es i steps is = ap (has_holder (Listed opening es)) is

-- ---- pairs

pub parent_is : (steps parent : Address) (last : Step) → steps ≡ parent ++ last ∷ [] → parent_of steps ≡ parent
parent_is steps parent last is =
    let whole = length-append parent (last ∷ []) in
    let long : length steps - 1 ≡ length parent = omega (arith, ap length is, whole) in
    ap₂ take long is ∙ take-append_seam parent (last ∷ [])

last_some : (parent : Address) (last : Step) → ¬ (parent ++ last ∷ [] ≡ [])
last_some [] last is = cc
last_some (s ∷ parent) last is = cc

pub steps_there : (steps parent : Address) (last : Step) → steps ≡ parent ++ last ∷ [] → ¬ (steps ≡ [])
steps_there steps parent last is none = last_some parent last (sym is ∙ none)

pub table_has : (opening : List ℕ) (es : EntriesOutline) (steps : Address) → ¬ (steps ≡ []) → has_holder (Braced opening es) steps ≡ pair_holds es steps
table_has opening es [] some = absurd (some refl)
table_has opening es (s ∷ steps) some = refl

pub pair_there : (es : EntriesOutline) (i : ℕ) (k : Key) (v : ValueOutline) (steps : Address) → KeysApart (keys_of es) → key_in es i ≡ Some k
    → leads k (parent_of steps) ≡ true → value_in es i ≡ Some v → pair_holds es steps ≡ has_holder v (drop (length k) steps)
pair_there (End gap) i k v steps apart key led has = absurd (none-some v has)
pair_there (Entry before None u after es) zero k v steps apart key led has = absurd (none-some k key)
pair_there (Entry before None u after es) (suc i) k v steps apart key led has = pair_there es i k v steps apart key led has
pair_there (Entry before (Some a) u after es) zero k v steps apart key led has =
    let same = same_Some (outlined_names a) k key in
    let lead = subst (λ x. leads x (parent_of steps) ≡ true) (sym same) led in
    ap (λ b. cond b (has_holder u (drop (length (outlined_names a)) steps)) (pair_holds es steps)) lead
    ∙ ap₂ (λ w x. has_holder w (drop (length x) steps)) (same_Some u v has) same
pair_there (Entry before (Some a) u after es) (suc i) k v steps apart key led has =
    let others = each_of_all (λ l. (begins_key (outlined_names a) l ≡ false) × (begins_key l (outlined_names a) ≡ false)) (keys_of es) apart.0 in
    let two = key_each (λ l. (begins_key (outlined_names a) l ≡ false) × (begins_key l (outlined_names a) ≡ false)) es i k others key in
    let off = not_both k (outlined_names a) (parent_of steps) led two.1 two.0 in
    ap (λ b. cond b (has_holder u (drop (length (outlined_names a)) steps)) (pair_holds es steps)) off
    ∙ pair_there es i k v steps apart.1 key led has

pub pair_none : (es : EntriesOutline) (steps : Address) → LeadsOn es (parent_of steps) None → pair_holds es steps ≡ list_all is_name steps
pair_none (End gap) steps none = refl
pair_none (Entry before None v after es) steps none = pair_none es steps (λ i. none (suc i))
pair_none (Entry before (Some a) v after es) steps none =
    ap (λ b. cond b (has_holder v (drop (length (outlined_names a)) steps)) (pair_holds es steps)) (not_led (outlined_names a) (parent_of steps) (none zero))
    ∙ pair_none es steps (λ i. none (suc i))

-- the steps are names, where no pair leads on
pub table_names : (opening : List ℕ) (es : EntriesOutline) (steps parent : Address) (last : Step) → steps ≡ parent ++ last ∷ [] → LeadsOn es parent None
    → has_holder (Braced opening es) steps ≡ list_all is_name steps
table_names opening es steps parent last is none =
    table_has opening es steps (steps_there steps parent last is)
    ∙ pair_none es steps (subst (λ p. LeadsOn es p None) (sym (parent_is steps parent last is)) none)

-- steps stand behind the first one
pub more_steps : (steps parent : Address) (last : Step) → steps ≡ parent ++ last ∷ [] → ¬ (parent ≡ []) → ¬ (drop 1 steps ≡ [])
more_steps steps [] last is some none = some refl
more_steps steps (s ∷ parent) last is some none = last_some parent last (sym (ap (drop 1) is) ∙ none)
