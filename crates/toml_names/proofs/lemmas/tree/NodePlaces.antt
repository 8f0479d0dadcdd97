-- Where an address stands among addresses, before and after one more, the nodes below a node, and the tables of an array, counted by its elements.
use Rattle.toml_names.proofs.Common.{◌≡◌, ℕ, ◌+◌, ◌<◌, Bool, true, false, cond, List, [], ◌∷◌, ◌++◌, length, Option, Some, None, refl, sym, ap, ◌∙◌, add-one, slice_index_or, true≢false, ◌⊎◌, inl, inr, arith, rules, false_from_ne_true, option_map, Step, Address, same_step, same_address, place_of, ◌&&◌, Role, role_after, Named, is_tables, is_tables_at, count_tables, table_count, Spot, linked, marked, may_follow, append_assoc, append-nil, same_from_push, length_push, none-some, same_Some, fact_at, AreNested, IsTree, IsTreeOf, LeadsTo, address_under, addresses, address_at, nowhere}
use Rattle.toml_names.proofs.lemmas.model.Equal.{same_step-decides, same_address-decides, same_address-equal}
use Rattle.toml_names.proofs.lemmas.mentions.Counting.{count_push}
use Rattle.toml_names.proofs.lemmas.tree.NodeAddresses.{length-addresses, address_at-under}

pub none_is_some : (k : ℕ) → ◌≡◌ {A = Option ℕ} None (Some k) → ⊥
none_is_some k h = cc

pub same_address-apart : (a b : Address) → (a ≡ b → ⊥) → same_address a b ≡ false
same_address-apart a b apart = false_from_ne_true _ (λ h. apart (same_address-equal a b h))

pub apart-same_address : (a b : Address) → same_address a b ≡ false → a ≡ b → ⊥
apart-same_address a b h e = true≢false (sym ((same_address-decides a b).1 e) ∙ h)

pub same_address-here : (a b : Address) → a ≡ b → same_address a b ≡ true
same_address-here a b e = (same_address-decides a b).1 e

pub is_step : (s t : Step) → (s ≡ t) ⊎ (s ≡ t → ⊥)
is_step s t = by (same_step s t) refl
  where
    by : (b : Bool) → same_step s t ≡ b → (s ≡ t) ⊎ (s ≡ t → ⊥)
    by true e = inl ((same_step-decides s t).0 e)
    by false e = inr (λ h. true≢false (sym ((same_step-decides s t).1 h) ∙ e))

some_below : (o : Option ℕ) (k : ℕ) → option_map (λ i. i + 1) o ≡ Some k → (i : ℕ) × (o ≡ Some i) × (k ≡ i + 1)
some_below o k h = search rules

-- a place that is none, at the first address and at the rest
none_parts : (b : Bool) (o : Option ℕ) → cond b (Some 0) (option_map (λ i. i + 1) o) ≡ None → (b ≡ false) × (o ≡ None)
none_parts b o h = search rules

pub place_of-push : (ats : List Address) (b at : Address) → place_of b ats ≡ None → place_of at (ats ++ b ∷ []) ≡ cond (same_address b at) (Some (length ats)) (place_of at ats)
place_of-push [] b at none = refl
place_of-push (a ∷ ats) b at none =
    let (apart, rest) = none_parts (same_address a b) (place_of b ats) none in
    by apart (place_of-push ats b at rest) (same_address a at) refl (same_address b at) refl
  where
    by : same_address a b ≡ false → place_of at (ats ++ b ∷ []) ≡ cond (same_address b at) (Some (length ats)) (place_of at ats)
        → (x : Bool) → same_address a at ≡ x → (y : Bool) → same_address b at ≡ y
        → cond x (Some 0) (option_map (λ i. i + 1) (place_of at (ats ++ b ∷ []))) ≡ cond y (Some (length (a ∷ ats))) (cond x (Some 0) (option_map (λ i. i + 1) (place_of at ats)))
    by apart ih true e true f = absurd (apart-same_address a b apart (same_address-equal a at e ∙ sym (same_address-equal b at f)))
    by apart ih true e false f = refl
    by apart ih false e true f = ap (option_map (λ i. i + 1)) (ih ∙ ap (λ t. cond t (Some (length ats)) (place_of at ats)) f) ∙ ap Some (add-one (length ats))
    by apart ih false e false f = ap (option_map (λ i. i + 1)) (ih ∙ ap (λ t. cond t (Some (length ats)) (place_of at ats)) f)

-- an address that has a place stands there
pub place_of-at : (ats : List Address) (at d : Address) (k : ℕ) → place_of at ats ≡ Some k → (k < length ats) × (slice_index_or ats k d ≡ at)
place_of-at [] at d k h = absurd (none_is_some k h)
place_of-at (a ∷ ats) at d k h = by (place_of-at ats at d) (same_address a at) refl h
  where
    by : ((i : ℕ) → place_of at ats ≡ Some i → (i < length ats) × (slice_index_or ats i d ≡ at))
        → (x : Bool) → same_address a at ≡ x → cond x (Some 0) (option_map (λ i. i + 1) (place_of at ats)) ≡ Some k → (k < length (a ∷ ats)) × (slice_index_or (a ∷ ats) k d ≡ at)
    by ih true e h = let z : 0 ≡ k = cc in rw (← z) (omega arith, same_address-equal a at e)
    by ih false e h =
        let (i, found, is) = some_below (place_of at ats) k h in
        let (low, same) = ih i found in
        rw (is, add-one) (omega arith, same)

-- an address that has no place after one more had none, and is another
pub none_before : (ats : List Address) (b at : Address) → place_of b ats ≡ None → place_of at (ats ++ b ∷ []) ≡ None → (b ≡ at → ⊥) × (place_of at ats ≡ None)
none_before ats b at fresh none = by (same_address b at) refl (sym (place_of-push ats b at fresh) ∙ none)
  where
    by : (x : Bool) → same_address b at ≡ x → cond x (Some (length ats)) (place_of at ats) ≡ None → (b ≡ at → ⊥) × (place_of at ats ≡ None)
    by true e h = absurd (none_is_some (length ats) (sym h))
    by false e h = (apart-same_address b at e, h)

adds : (a b c n : ℕ) → a ≡ b + c → c ≡ n → a ≡ b + n
adds a b c n is same = is ∙ ap (λ x. b + x) same

adds_none : (a b c : ℕ) → a ≡ b + c → c ≡ 0 → a ≡ b
adds_none a b c is none = omega arith

-- one more mention of another address
pub count_elsewhere : (ms : List Named) (m : Named) (at : Address) → (m.address ≡ at → ⊥) → count_tables (ms ++ m ∷ []) at ≡ count_tables ms at
count_elsewhere ms m at apart =
    adds_none (count_tables (ms ++ m ∷ []) at) (count_tables ms at) (cond (is_tables_at at m) 1 0) (count_push ms m at)
    (ap (λ (b : Bool). cond (b && is_tables m.role) 1 0) (same_address-apart m.address at apart))

-- one more header of the array of tables
pub count_here : (ms : List Named) (m : Named) (at : Address) → m.address ≡ at → is_tables m.role ≡ true → count_tables (ms ++ m ∷ []) at ≡ count_tables ms at + 1
count_here ms m at is tables =
    adds (count_tables (ms ++ m ∷ []) at) (count_tables ms at) (cond (is_tables_at at m) 1 0) 1 (count_push ms m at)
    (ap (λ (b : Bool). cond (b && is_tables m.role) 1 0) (same_address-here m.address at is) ∙ ap (λ (b : Bool). cond b 1 0) tables)

pub table_count-plain : (spot : Spot) → is_tables spot.role ≡ false → table_count spot ≡ 0
table_count-plain spot plain = ap (λ b. cond b (length spot.elements) 0) plain

pub table_count-tables : (spot : Spot) → is_tables spot.role ≡ true → table_count spot ≡ length spot.elements
table_count-tables spot tables = ap (λ b. cond b (length spot.elements) 0) tables

pub table_count-element : (parent : Spot) (s : Step) (id : ℕ) → is_tables parent.role ≡ false → table_count (linked parent s id) ≡ table_count parent
table_count-element parent s id plain = search rules

-- what may follow and is no array of tables leaves the mark an array of tables, or none
is_tables-after : (q r : Role) → may_follow q r ≡ true → is_tables r ≡ false → is_tables (role_after q r) ≡ is_tables q
is_tables-after q r goes plain = search rules

pub table_count-marked : (here : Spot) (r : Role) (line : ℕ) → may_follow here.role r ≡ true → is_tables r ≡ false → table_count (marked here r line) ≡ table_count here
table_count-marked here r line goes plain = ap (λ b. cond b (length here.elements) 0) (is_tables-after here.role r goes plain)

-- below an address that has no place nothing has one
pub nothing_below : (ats : List Address) → AreNested ats → (rest at : Address) → place_of at ats ≡ None → place_of (at ++ rest) ats ≡ None
nothing_below ats nested [] at none = ap (λ a. place_of a ats) (append-nil at) ∙ none
nothing_below ats nested (s ∷ rest) at none = ap (λ a. place_of a ats) (sym (append_assoc at (s ∷ []) rest)) ∙ nothing_below ats nested rest (at ++ s ∷ []) (nested.above at s none)

module _ (nodes : List Spot) (tree : IsTree nodes) where
  pub own_place : (k : ℕ) → k < length nodes → place_of (address_at nodes k) (addresses nodes) ≡ Some k
  own_place k low = tree.nested.own k [] (omega (arith, length-addresses nodes))

  pub leads_to : (at : Address) (k : ℕ) → place_of at (addresses nodes) ≡ Some k → LeadsTo nodes k at
  leads_to at k place =
      let there = place_of-at (addresses nodes) at [] k place in
      let low = there.0 in
      record { within = omega (arith, length-addresses nodes); address = there.1 }

  pub one_node : (k l : ℕ) → k < length nodes → l < length nodes → address_at nodes k ≡ address_at nodes l → k ≡ l
  one_node k l low_k low_l same = same_Some k l (sym (own_place k low_k) ∙ ap (λ a. place_of a (addresses nodes)) same ∙ own_place l low_l)

  pub root_address : address_at nodes 0 ≡ []
  root_address =
      address_at-under nodes 0 nowhere tree.root (λ p s is. tree.rising 0 nowhere p s tree.root is)
      ∙ ap (address_under (addresses nodes)) (tree.root_above nowhere)

  -- a node below another comes later
  pub later : (k c : ℕ) (s : Step) → k < length nodes → place_of (address_at nodes k ++ s ∷ []) (addresses nodes) ≡ Some c → k < c
  later k c s low place =
      let leads = leads_to (address_at nodes k ++ s ∷ []) c place in
      by (slice_index_or nodes c nowhere).under refl leads.within (sym (address_at-under nodes c nowhere leads.within (λ p t is. tree.rising c nowhere p t leads.within is)) ∙ leads.address)
    where
      by : (u : Option (ℕ × Step)) → (slice_index_or nodes c nowhere).under ≡ u → c < length nodes → address_under (addresses nodes) (slice_index_or nodes c nowhere).under ≡ address_at nodes k ++ s ∷ [] → k < c
      by None is within same =
          let short : 0 ≡ length (address_at nodes k ++ s ∷ []) = ap length (ap (address_under (addresses nodes)) (sym is) ∙ same) in
          absurd (omega (arith, length_push (address_at nodes k) s))
      by (Some (p, t)) is within same =
          let first : p < c = tree.rising c nowhere p t within is in
          let parts = same_from_push (address_at nodes p) (address_at nodes k) t s (ap (address_under (addresses nodes)) (sym is) ∙ same) in
          let one : p ≡ k = one_node p k (omega arith) low parts.0 in
          omega arith

module _ (nodes : List Spot) (ms : List Named) (stands : IsTreeOf nodes ms) where
  -- what is named has a node
  pub no_place : (at : Address) → fact_at ms at ≡ None → place_of at (addresses nodes) ≡ None
  no_place at none = by (place_of at (addresses nodes)) refl
    where
      by : (o : Option ℕ) → place_of at (addresses nodes) ≡ o → place_of at (addresses nodes) ≡ None
      by None is = is
      by (Some k) is =
          let leads = leads_to nodes stands.tree at k is in
          absurd (none-some (slice_index_or nodes k nowhere).kind (sym none ∙ ap (fact_at ms) (sym leads.address) ∙ stands.kinds k nowhere leads.within))

  -- where no node is nothing is named, and nothing below
  pub nothing_named : (at rest : Address) → place_of at (addresses nodes) ≡ None → fact_at ms (at ++ rest) ≡ None
  nothing_named at rest none = stands.no_facts (at ++ rest) (nothing_below (addresses nodes) stands.tree.nested rest at none)
