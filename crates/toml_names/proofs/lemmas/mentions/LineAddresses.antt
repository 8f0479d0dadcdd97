-- The address of a line is that of what its expression stands for. What is named by itself is so named once, and a line's own address is named and has a fact.
use Rattle.toml_names.proofs.Common.{◌≡◌, ◌⊎◌, inl, inr, ℕ, ◌+◌, ◌<◌, ◌≤◌, ◌==◌, true, false, ◌&&◌, List, [], ◌∷◌, ◌++◌, length, Some, None, refl, sym, ap, ◌∙◌, arith, rules, eq-eqb, append_assoc, append-nil, EachIs, Value, Expr, BlankLine, KeyValLine, TableLine, ArrayTableLine, Line, Valued, Address, child, below, Key, part_name, rest_names, key_names, Named, root, value_named, fronts, inside, followed, entered, ends_table, ends_tables, named, named_by, named_from, section, NamedHasLine, LineAddresses, NoLineAddress, is_own, line_address, header_end, own_address, Any, Option, IfSome, IsSome, is_some, eqb-true, none-some, same_Some, Role, is_lone, is_itself, LineIsNamed, ThemselvesDiffer, OwnAddressesDiffer, OwnAddressIsNamed, OwnAddressHasFact, may_follow}
use Rattle.toml_names.proofs.Each.{each_append, each_weaker, Has, pairs_of_all, any_of_has, from_two}
use Rattle.toml_names.proofs.lemmas.mentions.Within.{pair_within}
use Rattle.toml_names.proofs.lemmas.model.Equal.{and_false}
use Rattle.toml_names.proofs.lemmas.mentions.AllLines.{new_from, named_from-is, line_values_stand_alone}

-- what the search for the line's own address goes past
abbrev IsPassed : ℕ → Named → Type 0
IsPassed line m = (m.line == line && is_own m.role) ≡ false

abbrev ArePassed : ℕ → List Named → Type 0
ArePassed line = EachIs (IsPassed line)

pass : (line : ℕ) (ms more : List Named) → ArePassed line ms → line_address (ms ++ more) line ≡ line_address more line
pass line [] more h = refl
pass line (m ∷ ms) more h = rw h.0 (pass line ms more h.1)

-- what a line names is of that line
abbrev pub AreOf : ℕ → List Named → Type 0
AreOf line = EachIs (λ m. m.line ≡ line)

followed_of : (line : ℕ) (earlier : List Named) (end : Address → List Named) (ends : (at : Address) → AreOf line (end at)) (key : Key) (at : Address) → AreOf line (followed line earlier end at key)
followed_of line earlier end ends [] at = tt
followed_of line earlier end ends (n ∷ []) at = ends (child at n)
followed_of line earlier end ends (n ∷ m ∷ more) at = (refl, followed_of line earlier end ends (m ∷ more) (entered earlier (child at n)))

pub named_has_line : NamedHasLine
named_has_line = grind (arith, each_weaker, pair_within, followed_of)

not_same : (n line : ℕ) → n < line ⊎ line < n → (n == line) ≡ false
not_same n line h1 = search rules

others_passed : (n line : ℕ) (ms : List Named) → n < line ⊎ line < n → AreOf n ms → ArePassed line ms
others_passed n line ms apart = each_weaker (λ m. m.line ≡ n) (IsPassed line) (λ m of. rw (of, not_same n line apart) refl) ms

-- lines that come later
rest_passed : (ls : List Line) (earlier : List Named) (n line : ℕ) → line < n → (rest : List Named) × (named_from earlier n ls ≡ earlier ++ rest) × ArePassed line rest
rest_passed [] earlier n line low = ([], sym (append-nil earlier), tt)
rest_passed (l ∷ ls) earlier n line low =
    let by = named_by earlier n l.expr in
    let r = rest_passed ls (earlier ++ by) (n + 1) line (omega arith) in
    (by ++ r.0, r.1 ∙ append_assoc earlier by r.0, each_append (IsPassed line) by r.0 (others_passed n line by (inr low) (named_has_line earlier n l.expr)) r.2)

-- lines that came before
before_passed : (ls : List Line) (earlier : List Named) (n line : ℕ) → n + length ls ≤ line → ArePassed line earlier → ArePassed line (named_from earlier n ls)
before_passed [] earlier n line low h = h
before_passed (l ∷ ls) earlier n line low h =
    let by = named_by earlier n l.expr in
    before_passed ls (earlier ++ by) (n + 1) line (omega arith) (each_append (IsPassed line) earlier by h (others_passed n line by (inl (omega arith)) (named_has_line earlier n l.expr)))

none : (line : ℕ) (ms : List Named) → ArePassed line ms → line_address ms line ≡ None
none line ms h = ap (λ l. line_address l line) (sym (append-nil ms)) ∙ pass line ms [] h

root_passed : (line : ℕ) → ArePassed line (root ∷ [])
root_passed line = (and_false (0 == line), tt)

pub no_line_address : NoLineAddress
no_line_address lines line past =
    none line (named lines) (before_passed lines (root ∷ []) 0 line (omega arith) (root_passed line))

-- the line itself
fronts_passed : (line k : ℕ) (key : Key) (at : Address) → ArePassed k (fronts line at key)
fronts_passed line k [] at = tt
fronts_passed line k (n ∷ []) at = tt
fronts_passed line k (n ∷ m ∷ more) at = (and_false (line == k), fronts_passed line k (m ∷ more) (child at n))

module _ (earlier : List Named) (k : ℕ) (rest : List Named) where
  same : (k == k) ≡ true
  same = eq-eqb k k refl

  own_value : (at : Address) (key : Key) (v : Value) → line_address ((fronts k at key ++ value_named k Valued (below at key) v ∷ inside k (below at key) v) ++ rest) k ≡ Some (below at key)
  own_value at key v = search (rules, append_assoc, pass, fronts_passed, same)

  own_end : (end : Address → List Named) (n : List ℕ) (more : Key) (at : Address)
      → line_address (followed k earlier end at (n ∷ more) ++ rest) k ≡ line_address (end (header_end earlier at (n ∷ more)) ++ rest) k
  own_end end n [] at = refl
  own_end end n (m ∷ more) at = rw (and_false (k == k)) (own_end end m more (entered earlier (child at n)))

  own_found : (e : Expr) → ArePassed k rest → line_address (named_by earlier k e ++ rest) k ≡ own_address earlier e
  own_found (BlankLine b) h = none k rest h
  own_found (KeyValLine ws pair tail) h = own_value (section earlier) (key_names pair.assign.key) pair.value
  own_found (TableLine ws header tail) h = own_end (ends_table k) (part_name header.key.first) (rest_names header.key.rest) [] ∙ rw same refl
  own_found (ArrayTableLine ws header tail) h = own_end (ends_tables k earlier) (part_name header.key.first) (rest_names header.key.rest) [] ∙ rw (and_false (k == k), same) refl

pub named_from-append : (xs ys : List Line) (earlier : List Named) (n at : ℕ) → n + length xs ≡ at → named_from earlier n (xs ++ ys) ≡ named_from (named_from earlier n xs) at ys
named_from-append [] ys earlier n at is = ap (λ k. named_from earlier k ys) (omega (arith, is))
named_from-append (x ∷ xs) ys earlier n at is = named_from-append xs ys (earlier ++ named_by earlier n x.expr) (n + 1) at (omega (arith, is))

pub line_addresses : LineAddresses
line_addresses before behind l =
    let k = length before in
    let old = named before in
    let by = named_by old k l.expr in
    let r = rest_passed behind (old ++ by) (k + 1) k (omega arith) in
    ap (λ ms. line_address ms k) (named_from-append before (l ∷ behind) (root ∷ []) 0 k (omega arith) ∙ r.1 ∙ append_assoc old by r.0)
    ∙ pass k old (by ++ r.0) (before_passed before (root ∷ []) 0 k (omega arith) (root_passed k))
    ∙ own_found old k r.0 l.expr r.2

pub line_is_named : LineIsNamed
line_is_named before behind l =
    let k = length before in
    let now = named before ++ named_by (named before) k l.expr in
    (new_from now (k + 1) behind, named_from-append before (l ∷ behind) (root ∷ []) 0 k (omega arith) ∙ named_from-is behind now (k + 1))

-- ---- what is named by itself

-- two that are not alone are of headers, and no header follows another
no_two : (r s : Role) → is_itself r ≡ true → is_itself s ≡ true → is_lone r ≡ false → is_lone s ≡ false → may_follow r s ≡ true → ⊥
no_two r s a b x y m = search rules

pub themselves_differ : ThemselvesDiffer
themselves_differ lines keeps i j d low high one other same =
    let alone = line_values_stand_alone lines keeps i j d low high same in
    no_two _ _ one other alone.0 alone.1 (keeps i j d low high same)

-- ---- the line's own

-- named by the line itself
abbrev IsOwnOf : ℕ → Address → Named → Type 0
IsOwnOf line at m = (m.address ≡ at) × (is_own m.role ≡ true) × (m.line ≡ line)

own_named : (ms : List Named) (line : ℕ) (at : Address) → line_address ms line ≡ Some at → Has (IsOwnOf line at) ms
own_named [] line at found = none-some at found
own_named (m ∷ ms) line at found = search (rules, same_Some, eqb-true, own_named ms line at)

own_itself : (r : Role) → is_own r ≡ true → is_itself r ≡ true
own_itself r own = search rules

pub own_addresses_differ : OwnAddressesDiffer
own_addresses_differ lines i j at keeps one other =
    from_two (λ e l. is_itself e.role ≡ true → is_itself l.role ≡ true → ¬ (e.address ≡ l.address)) (IsOwnOf i at) (IsOwnOf j at) (i ≡ j)
    (λ m p q. sym p.2 ∙ q.2)
    (λ e l apart p q. absurd (apart (own_itself e.role p.1) (own_itself l.role q.1) (p.0 ∙ sym q.0)))
    (λ e l apart q p. absurd (apart (own_itself e.role q.1) (own_itself l.role p.1) (q.0 ∙ sym p.0)))
    (named lines) (pairs_of_all _ (named lines) (themselves_differ lines keeps)) (own_named (named lines) i at one) (own_named (named lines) j at other)

if_some : {A : Type 0} (P : A → Type 0) (o : Option A) → ((x : A) → o ≡ Some x → P x) → IfSome o P
if_some P o h = search rules

pub own_address_is_named : OwnAddressIsNamed
own_address_is_named before behind l =
    if_some _ (own_address (named before) l.expr) (λ at is.
    any_of_has _ (named (before ++ l ∷ behind)) (own_named (named (before ++ l ∷ behind)) (length before) at (line_addresses before behind l ∙ is)))

pub own_address_has_fact : OwnAddressHasFact
own_address_has_fact before behind l kinds facts =
    if_some _ (own_address (named before) l.expr) (λ at is.
    there at (any_of_has _ (named (before ++ l ∷ behind)) (own_named (named (before ++ l ∷ behind)) (length before) at (line_addresses before behind l ∙ is))))
  where
    there : (at : Address) → Any (IsOwnOf (length before) at) (named (before ++ l ∷ behind)) → IsSome (kinds at)
    there at (k, m, low, is, own) = ap is_some ((facts at m.kind).1 (k, m, low, is, (own.0, refl)))
