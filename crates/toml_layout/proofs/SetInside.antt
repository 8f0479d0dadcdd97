-- A `set` below a value: what stands aside of its address stays, and the entry that leads on has the new value in it.
use Rattle.std.proofs.Common.{◌≡◌, ℕ, zero, suc, ◌+◌, ◌≤◌, ◌==◌, Bool, true, false, cond, ◌||◌, ◌&&◌, Option, Some, None, List, [], ◌∷◌, ◌++◌, map, length, drop, refl, sym, ap, ap₂, subst, ◌∙◌, arith, append_assoc, append-nil}
use Rattle.std.proofs.Math.Bool.{or-false}
use Rattle.std.proofs.lemmas.Bool.{and_parts, false≢true, true≢false}
use Rattle.std.proofs.lemmas.Bool.Decides.{nat_tests}
use Rattle.std.proofs.lemmas.Option.{cond_some, none-some, same_Some}
use Rattle.std.specs.Str.{bytes_eq}
use Rattle.toml_tree.specs.Spells.{EachIs}
use Rattle.toml_names.specs.declared.model.address.Step.TheVariants.{Name, Index}
use Rattle.toml_names.specs.mentions.Keys.{Key}
use Rattle.toml_names.specs.model.Addresses.{Address, same_step, same_address, element, below}
use Rattle.toml_names.proofs.Proved.{same_step-equal, same_step-self}
use Rattle.toml_layout.specs.Apart.{HasKeysApart, EachApart, KeysApart, begins_key, keys_of}
use Rattle.toml_layout.specs.Leading.{LeadsOn, first_index, key_in, leads, led_by, value_in, with_value}
use Rattle.toml_layout.specs.SettingIn.{SetsEntry, SetsIn}
use Rattle.toml_layout.specs.OpenOutlines.{Enclosed}
use Rattle.toml_layout.specs.Parts.{PartOutline}
use Rattle.toml_layout.specs.Outlines.{AssignOutline, ValueOutline, Token, Listed, Braced, EntriesOutline, End, Entry}
use Rattle.toml_layout.specs.SetOutlines.{SetStaysAside, outlined_names, set_outline, set_outline_within, set_listed, set_braced, has_outline, has_within, has_listed, has_braced}
use Rattle.toml_layout.specs.Beginnings.{begins}
use Rattle.toml_layout.proofs.Small.{begins_self, still_off, each_weaker, each_of_all}
use Rattle.toml_layout.proofs.Clear.{above_apart, differ, self}

-- ---- addresses and keys

pub begins_more : (a b p : Address) → begins a p ≡ false → begins (a ++ b) p ≡ false
begins_more [] b p off = absurd (true≢false off)
begins_more (s ∷ a) b [] off = refl
begins_more (s ∷ a) b (t ∷ p) off = still_off (same_step s t) (begins a p) (begins (a ++ b) p) (begins_more a b p) off

-- what follows the same steps
pub begins_behind : (at a b : Address) → begins (at ++ a) (at ++ b) ≡ begins a b
begins_behind [] a b = refl
begins_behind (s ∷ at) a b = ap (λ c. c && begins (at ++ a) (at ++ b)) (same_step-self s) ∙ begins_behind at a b

far : (at steps : Address) → ¬ (steps ≡ []) → same_address at (at ++ steps) ≡ false
far at [] some = absurd (some refl)
far at (s ∷ steps) some = differ at (at ++ s ∷ steps) (λ is. above_apart at (at ++ s ∷ steps) (s, steps, refl) (sym is))

-- the steps by whether there are none
pub empty_if : (steps : Address) (b : Bool) → b ≡ (length steps == 0) → b ≡ true → steps ≡ []
empty_if [] b is empty = refl
empty_if (s ∷ steps) b is empty = let e : suc (length steps) ≡ 0 = grind (arith, nat_tests) in absurd (omega (arith, e))

pub some_if : (steps : Address) (b : Bool) → b ≡ (length steps == 0) → b ≡ false → ¬ (steps ≡ [])
some_if [] b is off e = true≢false (sym is ∙ off)
some_if (s ∷ steps) b is off e = cc

-- where one key leads to the steps, one that is apart from it does not
pub not_both : (k l : Key) (steps : Address) → leads k steps ≡ true → begins_key k l ≡ false → begins_key l k ≡ false → leads l steps ≡ false
not_both [] l steps led off other = absurd (true≢false off)
not_both (m ∷ k) [] steps led off other = absurd (true≢false other)
not_both (m ∷ k) (n ∷ l) [] led off other = refl
not_both (m ∷ k) (n ∷ l) (s ∷ steps) led off other =
    let (here, behind) = and_parts (same_step (Name m) s) (leads k steps) led in
    let is : Name m ≡ s = same_step-equal (Name m) s here in
    by is behind (not_both k l steps behind) (same_step (Name n) s) refl
  where
    by : Name m ≡ s → leads k steps ≡ true → (begins_key k l ≡ false → begins_key l k ≡ false → leads l steps ≡ false)
        → (c : Bool) → same_step (Name n) s ≡ c → (c && leads l steps) ≡ false
    by is behind later false same = refl
    by is behind later true same =
        let both : Name n ≡ Name m = same_step-equal (Name n) s same ∙ sym is in
        let one : bytes_eq n m ≡ true = subst (λ t. same_step (Name n) t ≡ true) both (same_step-self (Name n)) in
        let two : bytes_eq m n ≡ true = subst (λ t. same_step (Name m) t ≡ true) (sym both) (same_step-self (Name m)) in
        later (sym (ap (λ c. c && begins_key k l) two) ∙ off) (sym (ap (λ c. c && begins_key l k) one) ∙ other)

-- the steps behind a key that leads to them
pub led_on : (k : Key) (steps : Address) → leads k steps ≡ true → map Name k ++ drop (length k) steps ≡ steps
led_on [] steps led = refl
led_on (n ∷ k) [] led = absurd (false≢true led)
led_on (n ∷ k) (s ∷ steps) led =
    let (here, behind) = and_parts (same_step (Name n) s) (leads k steps) led in
    ap₂ (λ t r. t ∷ r) (same_step-equal (Name n) s here) (led_on k steps behind)

pub index_on : (steps : Address) (i : ℕ) → first_index steps ≡ Some i → steps ≡ Index i ∷ drop 1 steps
index_on [] i is = absurd (none-some i is)
index_on (Name n ∷ steps) i is = absurd (none-some i is)
index_on (Index j ∷ steps) i is = ap (λ k. Index k ∷ steps) (same_Some j i is)

-- a key that leads to the steps, and one that does not
pub led_at : (o : Option Key) (steps : Address) (used : ℕ) → led_by o steps ≡ Some used → (k : Key) × (o ≡ Some k) × (length k ≡ used) × (leads k steps ≡ true)
led_at None steps used is = absurd (none-some used is)
led_at (Some k) steps used is = let (led, long) = cond_some (leads k steps) (length k) used is in (k, refl, long, led)

pub not_led : (k : Key) (steps : Address) → led_by (Some k) steps ≡ None → leads k steps ≡ false
not_led k steps is = by (leads k steps) is
  where
    by : (b : Bool) → cond b (Some (length k)) None ≡ None → b ≡ false
    by true some = absurd (none-some (length k) (sym some))
    by false _ = refl

-- a pair has a value
pub has_value : (es : EntriesOutline) (i : ℕ) (k : Key) → key_in es i ≡ Some k → (v : ValueOutline) × (value_in es i ≡ Some v)
has_value (End gap) i k is = absurd (none-some k is)
has_value (Entry before a v after es) zero k is = (v, refl)
has_value (Entry before a v after es) (suc i) k is = has_value es i k is

-- what holds of all keys
pub key_each : (P : Key → Type 0) (es : EntriesOutline) (i : ℕ) (k : Key) → EachIs P (keys_of es) → key_in es i ≡ Some k → P k
key_each P (End gap) i k all is = absurd (none-some k is)
key_each P (Entry before None v after es) zero k all is = absurd (none-some k is)
key_each P (Entry before None v after es) (suc i) k all is = key_each P es i k all is
key_each P (Entry before (Some a) v after es) zero k all is = subst P (same_Some (outlined_names a) k is) all.0
key_each P (Entry before (Some a) v after es) (suc i) k all is = key_each P es i k all.1 is

-- what stands in a value of entries that are apart
pub apart_in : (es : EntriesOutline) (i : ℕ) (v : ValueOutline) → EachApart es → value_in es i ≡ Some v → HasKeysApart v
apart_in (End gap) i v apart is = absurd (none-some v is)
apart_in (Entry before a u after es) zero v apart is = subst HasKeysApart (same_Some u v is) apart.0
apart_in (Entry before a u after es) (suc i) v apart is = apart_in es i v apart.1 is

module _ (p : Address) (new : ValueOutline) where
  -- what a `set` makes of a value, or of entries, and whether a value stood at its address there
  abbrev Sets : Address → ValueOutline → ValueOutline → Bool → Type 0
  Sets at v w done = (w ≡ set_outline p new at v) × (done ≡ has_outline p at v)

  abbrev SetsWithin : Address → ValueOutline → ValueOutline → Bool → Type 0
  SetsWithin at v w done = (w ≡ set_outline_within p new at v) × (done ≡ has_within p at v)

  abbrev SetsListed : Address → ℕ → EntriesOutline → EntriesOutline → Bool → Type 0
  SetsListed at i es fs done = (fs ≡ set_listed p new at i es) × (done ≡ has_listed p at i es)

  abbrev SetsBraced : Address → EntriesOutline → EntriesOutline → Bool → Type 0
  SetsBraced at es fs done = (fs ≡ set_braced p new at es) × (done ≡ has_braced p at es)

  not_here : (at : Address) (v w : ValueOutline) (done : Bool) → same_address at p ≡ false → SetsWithin at v w done → Sets at v w done
  not_here at v w done other (sets, has) = (
    sets ∙ sym (ap (λ b. cond b new (set_outline_within p new at v)) other),
    has ∙ sym (ap (λ b. b || has_within p at v) other),
  )

  -- an element, or a pair, and those behind it
  element_first : (at : Address) (i : ℕ) (before : List PartOutline) (a : Option AssignOutline) (v w : ValueOutline) (after : List PartOutline) (es fs : EntriesOutline) (d e : Bool)
      → Sets (element at i) v w d → SetsListed at (i + 1) es fs e → SetsListed at i (Entry before a v after es) (Entry before a w after fs) (d || e)
  element_first at i before a v w after es fs d e (sets, has) (rest, others) =
      (ap₂ (λ x y. Entry before a x after y) sets rest, ap₂ (λ x y. x || y) has others)

  pair_first : (at : Address) (before : List PartOutline) (a : AssignOutline) (v w : ValueOutline) (after : List PartOutline) (es fs : EntriesOutline) (d e : Bool)
      → Sets (below at (outlined_names a)) v w d → SetsBraced at es fs e
      → SetsBraced at (Entry before (Some a) v after es) (Entry before (Some a) w after fs) (d || e)
  pair_first at before a v w after es fs d e (sets, has) (rest, others) =
      (ap₂ (λ x y. Entry before (Some a) x after y) sets rest, ap₂ (λ x y. x || y) has others)

  -- what stands where the address does not lead
  apart_from : (v : ValueOutline) (at : Address) → begins at p ≡ false → SetsWithin at v v false → Sets at v v false
  apart_from v at off within = not_here at v v false (differ at p (λ is. true≢false (sym (begins_self at) ∙ ap (begins at) is ∙ off))) within

  mutual
    within_aside : (v : ValueOutline) (at : Address) → begins at p ≡ false → SetsWithin at v v false
    within_aside (Token text) at off = (refl, refl)
    within_aside (Listed opening es) at off = let (sets, has) = listed_aside es at 0 off in (ap (Listed opening) sets, has)
    within_aside (Braced opening es) at off = let (sets, has) = braced_aside es at off in (ap (Braced opening) sets, has)

    listed_aside : (es : EntriesOutline) (at : Address) (i : ℕ) → begins at p ≡ false → SetsListed at i es es false
    listed_aside (End gap) at i off = (refl, refl)
    listed_aside (Entry before a v after es) at i off =
        let here = begins_more at (Index i ∷ []) p off in
        element_first at i before a v v after es es false false (apart_from v (element at i) here (within_aside v (element at i) here)) (listed_aside es at (i + 1) off)

    braced_aside : (es : EntriesOutline) (at : Address) → begins at p ≡ false → SetsBraced at es es false
    braced_aside (End gap) at off = (refl, refl)
    braced_aside (Entry before None v after es) at off = let (sets, has) = braced_aside es at off in (ap (Entry before None v after) sets, has)
    braced_aside (Entry before (Some a) v after es) at off =
        let here = begins_more at (map Name (outlined_names a)) p off in
        pair_first at before a v v after es es false false
        (apart_from v (below at (outlined_names a)) here (within_aside v (below at (outlined_names a)) here)) (braced_aside es at off)

  -- a value at no beginning of the address
  pub aside : (v : ValueOutline) (at : Address) → begins at p ≡ false → Sets at v v false
  aside v at off = apart_from v at off (within_aside v at off)

  -- ---- elements

  elements_aside : (es : EntriesOutline) (at : Address) (i : ℕ) → ((j : ℕ) → i ≤ j → begins (element at j) p ≡ false) → SetsListed at i es es false
  elements_aside (End gap) at i off = (refl, refl)
  elements_aside (Entry before a v after es) at i off =
      element_first at i before a v v after es es false false (aside v (element at i) (off i (omega arith)))
      (elements_aside es at (i + 1) (λ j low. off j (omega (arith, low))))

  module _ (at rest : Address) (m : ℕ) (is : p ≡ at ++ Index m ∷ rest) where
    other_element : (i : ℕ) → ¬ (i ≡ m) → begins (element at i) p ≡ false
    other_element i other =
        let differs : (i == m) ≡ false = grind (arith, nat_tests) in
        ap (begins (element at i)) is ∙ begins_behind at (Index i ∷ []) (Index m ∷ rest) ∙ ap (λ b. b && true) differs

    -- the element with the index is there, or it is not
    element_set : (es : EntriesOutline) (i k : ℕ) (v w : ValueOutline) (done : Bool) → m ≡ i + k → value_in es k ≡ Some v
        → Sets (element at m) v w done → SetsListed at i es (with_value es k w) done
    element_set (End gap) i k v w done sum has sets = absurd (none-some v has)
    element_set (Entry before a u after es) i zero v w done sum has sets =
        let same : m ≡ i = omega (arith, sum) in
        let here = subst (λ x. Sets (element at x) v w done) same sets in
        let own = subst (λ x. Sets (element at i) x w done) (sym (same_Some u v has)) here in
        let behind = elements_aside es at (i + 1) (λ j low. other_element j (λ e. absurd (omega (arith, low, e, sum)))) in
        let (all, one) = element_first at i before a u w after es es done false own behind in
        (all, sym (or-false done) ∙ one)
    element_set (Entry before a u after es) i (suc k) v w done sum has sets =
        element_first at i before a u u after es (with_value es k w) false done
        (aside u (element at i) (other_element i (λ e. absurd (omega (arith, e, sum)))))
        (element_set es (i + 1) k v w done (omega (arith, sum)) has sets)

    element_missing : (es : EntriesOutline) (i k : ℕ) → m ≡ i + k → value_in es k ≡ None → SetsListed at i es es false
    element_missing (End gap) i k sum none = (refl, refl)
    element_missing (Entry before a u after es) i zero sum none = absurd (none-some u (sym none))
    element_missing (Entry before a u after es) i (suc k) sum none =
        element_first at i before a u u after es es false false (aside u (element at i) (other_element i (λ e. absurd (omega (arith, e, sum)))))
        (element_missing es (i + 1) k (omega (arith, sum)) none)

  -- ---- pairs

  module _ (at steps : Address) (is : p ≡ at ++ steps) where
    other_pair : (k : Key) → leads k steps ≡ false → begins (below at k) p ≡ false
    other_pair k off = ap (begins (below at k)) is ∙ begins_behind at (map Name k) steps ∙ off

    pairs_aside : (es : EntriesOutline) → ((i : ℕ) (k : Key) → key_in es i ≡ Some k → leads k steps ≡ false) → SetsBraced at es es false
    pairs_aside (End gap) off = (refl, refl)
    pairs_aside (Entry before None v after es) off = let (sets, has) = pairs_aside es (λ i. off (suc i)) in (ap (Entry before None v after) sets, has)
    pairs_aside (Entry before (Some a) v after es) off =
        pair_first at before a v v after es es false false
        (aside v (below at (outlined_names a)) (other_pair (outlined_names a) (off zero (outlined_names a) refl))) (pairs_aside es (λ i. off (suc i)))

    pair_set : (es : EntriesOutline) (i : ℕ) (k : Key) (v w : ValueOutline) (done : Bool) → KeysApart (keys_of es) → key_in es i ≡ Some k → leads k steps ≡ true
        → value_in es i ≡ Some v → Sets (below at k) v w done → SetsBraced at es (with_value es i w) done
    pair_set (End gap) i k v w done apart key led has sets = absurd (none-some v has)
    pair_set (Entry before None u after es) zero k v w done apart key led has sets = absurd (none-some k key)
    pair_set (Entry before None u after es) (suc i) k v w done apart key led has sets =
        let (all, one) = pair_set es i k v w done apart key led has sets in (ap (Entry before None u after) all, one)
    pair_set (Entry before (Some a) u after es) zero k v w done apart key led has sets =
        let same = same_Some (outlined_names a) k key in
        let here = subst (λ x. Sets (below at x) v w done) (sym same) sets in
        let own = subst (λ x. Sets (below at (outlined_names a)) x w done) (sym (same_Some u v has)) here in
        let lead = subst (λ x. leads x steps ≡ true) (sym same) led in
        let others = each_of_all (λ l. (begins_key (outlined_names a) l ≡ false) × (begins_key l (outlined_names a) ≡ false)) (keys_of es) apart.0 in
        let behind = pairs_aside es (λ j l there. key_each (λ l. leads l steps ≡ false) es j l
        (each_weaker (λ l. (begins_key (outlined_names a) l ≡ false) × (begins_key l (outlined_names a) ≡ false)) (λ l. leads l steps ≡ false)
        (λ l two. not_both (outlined_names a) l steps lead two.0 two.1) (keys_of es) others) there) in
        let (all, one) = pair_first at before a u w after es es done false own behind in
        (all, sym (or-false done) ∙ one)
    pair_set (Entry before (Some a) u after es) (suc i) k v w done apart key led has sets =
        let others = each_of_all (λ l. (begins_key (outlined_names a) l ≡ false) × (begins_key l (outlined_names a) ≡ false)) (keys_of es) apart.0 in
        let two = key_each (λ l. (begins_key (outlined_names a) l ≡ false) × (begins_key l (outlined_names a) ≡ false)) es i k others key in
        pair_first at before a u u after es (with_value es i w) false done
        (aside u (below at (outlined_names a)) (other_pair (outlined_names a) (not_both k (outlined_names a) steps led two.1 two.0)))
        (pair_set es i k v w done apart.1 key led has sets)

-- ---- whole values

-- where off step is left
pub set_here : (new old : ValueOutline) → SetsIn [] new old new true
set_here new old apart at =
    let same : same_address at (at ++ []) ≡ true = ap (same_address at) (append-nil at) ∙ self at in (
      sym (ap (λ b. cond b new (set_outline_within (at ++ []) new at old)) same),
      sym (ap (λ b. b || has_within (at ++ []) at old) same),
    )

pub token_kept : (steps : Address) (new : ValueOutline) (text : List ℕ) → ¬ (steps ≡ []) → SetsIn steps new (Token text) (Token text) false
token_kept steps new text some apart at = not_here (at ++ steps) new at (Token text) (Token text) false (far at steps some) (refl, refl)

pub list_kept : (steps : Address) (new : ValueOutline) (opening : List ℕ) (es : EntriesOutline) → ¬ (steps ≡ []) → first_index steps ≡ None
    → SetsIn steps new (Listed opening es) (Listed opening es) false
list_kept steps new opening es some none apart at =
    let (sets, has) = elements_aside (at ++ steps) new es at 0 (λ j low. begins_behind at (Index j ∷ []) steps ∙ not_first steps j none) in
    not_here (at ++ steps) new at (Listed opening es) (Listed opening es) false (far at steps some) (ap (Listed opening) sets, has)
  where
    not_first : (steps : Address) (j : ℕ) → first_index steps ≡ None → begins (Index j ∷ []) steps ≡ false
    not_first [] j none = refl
    not_first (Name n ∷ steps) j none = refl
    not_first (Index i ∷ steps) j none = absurd (none-some i (sym none))

pub list_set : (steps : Address) (i : ℕ) (new : ValueOutline) (old now : Enclosed) (done : Bool) → first_index steps ≡ Some i
    → SetsEntry i (drop 1 steps) new old now done → SetsIn steps new (Listed old.opening old.entries) (Listed now.opening now.entries) done
list_set steps i new old now done first sets apart at = by (value_in old.entries i) refl
  where
    p : Address
    p = at ++ steps

    led : steps ≡ Index i ∷ drop 1 steps
    led = index_on steps i first

    within : SetsListed p new at 0 old.entries now.entries done → now.opening ≡ old.opening
        → (Listed now.opening now.entries ≡ set_outline p new at (Listed old.opening old.entries)) × (done ≡ has_outline p at (Listed old.opening old.entries))
    within (all, one) same =
        not_here p new at (Listed old.opening old.entries) (Listed now.opening now.entries) done (far at steps (λ e. none-some i (sym (ap first_index e) ∙ first)))
        (ap₂ Listed same all, one)

    by : (o : Option ValueOutline) → value_in old.entries i ≡ o
        → (Listed now.opening now.entries ≡ set_outline p new at (Listed old.opening old.entries)) × (done ≡ has_outline p at (Listed old.opening old.entries))
    by None none =
        let (same, not) = sets.missing none in
        let (all, one) = element_missing p new at (drop 1 steps) i (ap (λ s. at ++ s) led) old.entries 0 i (omega arith) none in
        within (ap (λ e. e.entries) same ∙ all, not ∙ one) (ap (λ e. e.opening) same)
    by (Some v) has =
        let (w, inner, same) = sets.found v has in
        let way : (element at i) ++ drop 1 steps ≡ p = append_assoc at (Index i ∷ []) (drop 1 steps) ∙ sym (ap (λ s. at ++ s) led) in
        let own = subst (λ q. Sets q new (element at i) v w done) way (inner (apart_in old.entries i v apart has) (element at i)) in
        let (all, one) = element_set p new at (drop 1 steps) i (ap (λ s. at ++ s) led) old.entries 0 i v w done (omega arith) has own in
        within (ap (λ e. e.entries) same ∙ all, one) (ap (λ e. e.opening) same)

pub table_kept : (steps : Address) (new : ValueOutline) (opening : List ℕ) (es : EntriesOutline) → ¬ (steps ≡ []) → LeadsOn es steps None
    → SetsIn steps new (Braced opening es) (Braced opening es) false
table_kept steps new opening es some none apart at =
    let (sets, has) = pairs_aside (at ++ steps) new at steps refl es (λ i k key. not_led k steps (ap (λ o. led_by o steps) (sym key) ∙ none i)) in
    not_here (at ++ steps) new at (Braced opening es) (Braced opening es) false (far at steps some) (ap (Braced opening) sets, has)

pub table_set : (steps : Address) (i used : ℕ) (new : ValueOutline) (old now : Enclosed) (done : Bool) → ¬ (steps ≡ []) → LeadsOn old.entries steps (Some (i, used))
    → SetsEntry i (drop used steps) new old now done → SetsIn steps new (Braced old.opening old.entries) (Braced now.opening now.entries) done
table_set steps i used new old now done some leading sets apart at =
    let (k, key, long, led) = led_at (key_in old.entries i) steps used leading in
    let (v, has) = has_value old.entries i k key in
    let (w, inner, same) = sets.found v has in
    let behind : map Name k ++ drop used steps ≡ steps = subst (λ n. map Name k ++ drop n steps ≡ steps) long (led_on k steps led) in
    let way : below at k ++ drop used steps ≡ at ++ steps = append_assoc at (map Name k) (drop used steps) ∙ ap (λ s. at ++ s) behind in
    let own = subst (λ q. Sets q new (below at k) v w done) way (inner (apart_in old.entries i v apart.1 has) (below at k)) in
    let (all, one) = pair_set (at ++ steps) new at steps refl old.entries i k v w done apart.0 key led has own in
    not_here (at ++ steps) new at (Braced old.opening old.entries) (Braced now.opening now.entries) done (far at steps some)
    (ap₂ Braced (ap (λ e. e.opening) same) (ap (λ e. e.entries) same ∙ all), one)

-- ---- a value to which the address does not lead

pub set_aside : SetStaysAside
set_aside p new at v off = let (sets, has) = aside p new v at off in (sym sets, sym has)
