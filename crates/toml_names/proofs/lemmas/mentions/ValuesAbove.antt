-- What stands one step below something says of which kind this is. The first value above an address in the text is the first on the way to it, since what is above is named earlier.
use Rattle.toml_names.proofs.Common.{◌≡◌, ℕ, Bool, true, false, cond, ◌&&◌, ◌||◌, List, [], ◌∷◌, ◌++◌, length, Option, Some, None, refl, sym, ap, subst, ◌∙◌, true≢false, arith, rules, append_assoc, append-nil, none-some, Step, Valued, Address, same_step, same_address, is_above, BeginsAtRoot, fact_at, Joins, JoinAll, Joined, Kind, Named, same_role, first_line, line_above, first_of, common_steps, cond-false, Name, Index, a_table, an_array, IsTreeOf, Spot}
use Rattle.std.proofs.lemmas.List.{length-append}
use Rattle.toml_names.proofs.lemmas.model.Equal.{same_step-equal, same_step-self, same_address-equal, same_address-self}
use Rattle.toml_names.proofs.lemmas.mentions.FirstLines.{first_line-push, first_line-none}
use Rattle.toml_names.proofs.lemmas.tree.NodePlaces.{same_address-apart, root_address}
use Rattle.toml_names.proofs.lemmas.mentions.PlacesFound.{same_role-equal}
use Rattle.toml_names.proofs.lemmas.mentions.FactAt.{fact_kept, fact_behind}
use Rattle.toml_names.proofs.lemmas.tree.NodeAddresses.{length-addresses}

-- the kind of what has something one such step below
abbrev pub holder : Step → Kind
holder (Name n) = a_table
holder (Index i) = an_array

abbrev pub AreHeld : List Named → Type 0
AreHeld ms = (at : Address) (s : Step) (k : Kind) → fact_at ms (at ++ s ∷ []) ≡ Some k → fact_at ms at ≡ Some (holder s)

fact_one : (m : Named) (at : Address) (k : Kind) → fact_at (m ∷ []) at ≡ Some k → m.address ≡ at
fact_one m at k is = search (rules, same_address-equal, none-some, cond-false)

joined_holds : (ms : List Named) (m : Named) (at : Address) (s : Step) → Joins ms m → fact_at ms (at ++ s ∷ []) ≡ None → m.address ≡ at ++ s ∷ [] → fact_at ms at ≡ Some (holder s)
joined_holds ms m at s h1 none same = grind (arith, common_steps)

pub AreHeld-push : (ms : List Named) (m : Named) → AreHeld ms → Joins ms m → AreHeld (ms ++ m ∷ [])
AreHeld-push ms m held joins at s k is = by (fact_at ms (at ++ s ∷ [])) refl
  where
    by : (o : Option Kind) → fact_at ms (at ++ s ∷ []) ≡ o → fact_at (ms ++ m ∷ []) at ≡ Some (holder s)
    by (Some j) there = fact_kept ms (m ∷ []) at (holder s) (held at s j there)
    by None none =
        let same = fact_one m (at ++ s ∷ []) k (sym (fact_behind ms (m ∷ []) (at ++ s ∷ []) none) ∙ is) in
        fact_kept ms (m ∷ []) at (holder s) (joined_holds ms m at s joins none same)

AreHeld-more : (more ms : List Named) → AreHeld ms → JoinAll ms more → AreHeld (ms ++ more)
AreHeld-more [] ms held join = subst AreHeld (sym (append-nil ms)) held
AreHeld-more (m ∷ more) ms held join = subst AreHeld (append_assoc ms (m ∷ []) more) (AreHeld-more more (ms ++ m ∷ []) (AreHeld-push ms m held join.0) join.1)

pub AreHeld-first : (m : Named) → m.address ≡ [] → AreHeld (m ∷ [])
AreHeld-first m root = search rules

pub held : (ms : List Named) → BeginsAtRoot ms → Joined ms → AreHeld ms
held [] root joined = absurd root
held (m ∷ ms) root joined = AreHeld-more ms (m ∷ []) (AreHeld-first m root) joined

-- what a tree stands for begins at the root
pub begins_at_root : (nodes : List Spot) (ms : List Named) → IsTreeOf nodes ms → BeginsAtRoot ms
begins_at_root nodes ms stands = search (rules, length-addresses, root_address)

-- ---- fronts

-- the address is a front of the steps behind another
abbrev is_front : Address → Address → Address → Bool
is_front a at [] = false
is_front a at (s ∷ rest) = same_address a at || is_front a (at ++ s ∷ []) rest

-- what goes on by another step is no front
other_front : (at : Address) (s t : Step) (b c rest : Address) → same_step s t ≡ false → is_front (at ++ s ∷ b) ((at ++ t ∷ []) ++ c) rest ≡ false
other_front at s t b c [] other = refl
other_front at s t b c (u ∷ rest) other =
    let here = same_address-apart (at ++ s ∷ b) ((at ++ t ∷ []) ++ c) (λ same. differ at s t b c other (same ∙ append_assoc at (t ∷ []) c)) in
    let later : is_front (at ++ s ∷ b) (((at ++ t ∷ []) ++ c) ++ u ∷ []) rest ≡ false =
    ap (λ a. is_front (at ++ s ∷ b) a rest) (append_assoc (at ++ t ∷ []) c (u ∷ [])) ∙ other_front at s t b (c ++ u ∷ []) rest other in
    ap (λ x. x || is_front (at ++ s ∷ b) (((at ++ t ∷ []) ++ c) ++ u ∷ []) rest) here ∙ later
  where
    differ : (at : Address) (s t : Step) (b c : Address) → same_step s t ≡ false → ¬ (at ++ s ∷ b ≡ at ++ t ∷ c)
    differ [] s t b c other same = let steps : s ≡ t = cc in true≢false (sym (same_step-self s) ∙ ap (same_step s) steps ∙ other)
    differ (x ∷ at) s t b c other same = let rest : at ++ s ∷ b ≡ at ++ t ∷ c = cc in differ at s t b c other rest

-- an address is a front where it is above
front_above : (at b rest : Address) → is_front (at ++ b) at rest ≡ is_above b rest
front_above at [] [] = refl
front_above at (s ∷ b) [] = refl
front_above at [] (t ∷ rest) = ap (λ x. x || is_front (at ++ []) (at ++ t ∷ []) rest) (ap (λ a. same_address a at) (append-nil at) ∙ same_address-self at)
front_above at (s ∷ b) (t ∷ rest) =
    ap (λ x. x || is_front (at ++ s ∷ b) (at ++ t ∷ []) rest) (same_address-apart (at ++ s ∷ b) at (λ same. longer same))
    ∙ by (same_step s t) refl (front_above (at ++ t ∷ []) b rest)
  where
    longer : ¬ (at ++ s ∷ b ≡ at)
    longer same = let long : length (at ++ s ∷ b) ≡ length at = ap length same in omega (arith, length-append at (s ∷ b))

    by : (x : Bool) → same_step s t ≡ x → is_front ((at ++ t ∷ []) ++ b) (at ++ t ∷ []) rest ≡ is_above b rest → is_front (at ++ s ∷ b) (at ++ t ∷ []) rest ≡ (x && is_above b rest)
    by true same rest_is =
        ap (λ a. is_front a (at ++ t ∷ []) rest) (ap (λ u. at ++ u ∷ b) (same_step-equal s t same) ∙ sym (append_assoc at (t ∷ []) b)) ∙ rest_is
    by false other rest_is = ap (λ a. is_front (at ++ s ∷ b) a rest) (sym (append-nil (at ++ t ∷ []))) ∙ other_front at s t b [] rest other

-- ---- values on the way

-- the line of the first value at the address or further along the steps
abbrev pub front_value : List Named → Address → Address → Option ℕ
front_value ms at [] = None
front_value ms at (s ∷ rest) = first_of (first_line ms at Valued) (front_value ms (at ++ s ∷ []) rest)

-- the line of one more thing, where it is a value on the way
abbrev new_value : Named → Bool → Option ℕ
new_value m there = cond (there && same_role m.role Valued) (Some m.line) None

front_none : (ms : List Named) (at rest : Address) → ((more : Address) → fact_at ms (at ++ more) ≡ None) → front_value ms at rest ≡ None
front_none ms at [] none = refl
front_none ms at (s ∷ rest) none =
    ap (λ o. first_of o (front_value ms (at ++ s ∷ []) rest)) (first_line-none ms at Valued (ap (fact_at ms) (sym (append-nil at)) ∙ none []))
    ∙ front_none ms (at ++ s ∷ []) rest (λ more. ap (fact_at ms) (append_assoc at (s ∷ []) more) ∙ none (s ∷ more))

joined_of : (f g x : Option ℕ) → first_of (first_of f None) (first_of g x) ≡ first_of (first_of f g) x
joined_of f g x = grind arith

never : (line : ℕ) (there : Bool) → cond (there && false) (Some line) None ≡ None
never line there = grind arith

-- where something stands, something stands above
closed : (ms : List Named) → AreHeld ms → (at more : Address) → fact_at ms at ≡ None → fact_at ms (at ++ more) ≡ None
closed ms held at [] none = ap (fact_at ms) (append-nil at) ∙ none
closed ms held at (s ∷ more) none = ap (fact_at ms) (sym (append_assoc at (s ∷ []) more)) ∙ closed ms held (at ++ s ∷ []) more (by (fact_at ms (at ++ s ∷ [])) refl)
  where
    by : (o : Option Kind) → fact_at ms (at ++ s ∷ []) ≡ o → fact_at ms (at ++ s ∷ []) ≡ None
    by None is = is
    by (Some k) is = absurd (none-some (holder s) (sym none ∙ held at s k is))

line_above-push : (ms : List Named) (m : Named) (at : Address) → line_above (ms ++ m ∷ []) at ≡ first_of (line_above ms at) (new_value m (is_above m.address at))
line_above-push [] m at = refl
line_above-push (x ∷ ms) m at = search (rules, line_above-push ms m at)

-- one more thing, which is new if it is a value
module _ (ms : List Named) (m : Named) (held : AreHeld ms) (fresh : m.role ≡ Valued → fact_at ms m.address ≡ None) where
  alone_at : (s : Step) (rest at : Address) → (same_address m.address at ≡ true) × (same_role m.role Valued ≡ true) → (first_line ms at Valued ≡ None) × (front_value ms (at ++ s ∷ []) rest ≡ None)
  alone_at s rest at both =
      let none : fact_at ms at ≡ None = ap (fact_at ms) (sym (same_address-equal m.address at both.0)) ∙ fresh (same_role-equal m.role Valued both.1) in
      (first_line-none ms at Valued none, front_none ms (at ++ s ∷ []) rest (λ more. ap (fact_at ms) (append_assoc at (s ∷ []) more) ∙ closed ms held at (s ∷ more) none))

  front_push : (rest at : Address) → front_value (ms ++ m ∷ []) at rest ≡ first_of (front_value ms at rest) (new_value m (is_front m.address at rest))
  front_push [] at = refl
  front_push (s ∷ rest) at = search (rules, first_line-push, joined_of, never, alone_at, true≢false, front_push rest (at ++ s ∷ []))

  value_push : (at : Address) → line_above ms at ≡ front_value ms [] at → line_above (ms ++ m ∷ []) at ≡ front_value (ms ++ m ∷ []) [] at
  value_push at same =
      line_above-push ms m at ∙ ap (λ o. first_of o (new_value m (is_above m.address at))) same
      ∙ ap (λ b. first_of (front_value ms [] at) (new_value m b)) (sym (front_above [] m.address at))
      ∙ sym (front_push at [])

-- a value that joins is new
fresh_value : (ms : List Named) (m : Named) → Joins ms m → m.role ≡ Valued → fact_at ms m.address ≡ None
fresh_value ms m h1 value = search (rules, true≢false)

values_more : (more ms : List Named) → AreHeld ms → ((at : Address) → line_above ms at ≡ front_value ms [] at) → JoinAll ms more
    → (at : Address) → line_above (ms ++ more) at ≡ front_value (ms ++ more) [] at
values_more [] ms held same join at = subst (λ l. line_above l at ≡ front_value l [] at) (sym (append-nil ms)) (same at)
values_more (m ∷ more) ms held same join at =
    subst (λ l. line_above l at ≡ front_value l [] at) (append_assoc ms (m ∷ []) more)
    (values_more more (ms ++ m ∷ []) (AreHeld-push ms m held join.0) (λ b. value_push ms m held (fresh_value ms m join.0) b (same b)) join.1 at)

none_held : AreHeld []
none_held at s k is = absurd (none-some k is)

-- the first value above an address is the first on the way to it
pub value_above : (ms : List Named) → BeginsAtRoot ms → Joined ms → (at : Address) → line_above ms at ≡ front_value ms [] at
value_above [] root joined at = absurd root
value_above (m ∷ ms) root joined at =
    values_more ms (m ∷ []) (AreHeld-first m root) (λ b. value_push [] m none_held (λ value. refl) b (sym (front_none [] [] b (λ more. refl)))) joined at
