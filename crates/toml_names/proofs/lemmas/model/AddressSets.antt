-- What a set of addresses hides once an address is put in.
use Rattle.toml_names.proofs.Common.{◌≡◌, ℕ, Bool, true, false, cond, ◌&&◌, ◌==◌, List, [], ◌∷◌, Option, Some, None, String, BTreeMap, Bor, Global, refl, sym, ap, subst, ◌∙◌, bytes_eq, bytes_eq-Decides, nat_cmp, is_eq, get, get_by_text, Step, Name, Index, Address, eqb-true, eq-eqb, lookup, is_at, slice_cmp, string_bytes, rules}
use Rattle.std.specs.Cmp.{unsigned_ties}
use Rattle.toml_names.specs.declared.model.address_set.AddressSet.{AddressSet, the_lemmas}
use Rattle.toml_names.specs.declared.model.address_set.AddressSet.TheViews.{out-AddressSet, roll-AddressSet}
use Rattle.toml_names.specs.model.AddressSets.{AddsElement, AddsName, HidesLess, below, hides, is_hidden, is_whole, last_step}
use Rattle.toml_names.specs.model.Hidden.{is_off, is_off_all, is_off_way}
use Rattle.toml_names.proofs.lemmas.model.Hidden.{and_true, and_false, off_both}

-- what is hidden at a step is no more hidden beside it
pub hides_off : (o : Option AddressSet) (s : Step) (at : Address) → hides o s at ≡ hides o s at && is_off s at
hides_off o (Name n) at = sym (and_true (hides o (Name n) at))
hides_off None (Index i) [] = refl
hides_off (Some t) (Index i) [] = refl
hides_off o (Index i) (t ∷ at) = sym (and_true (hides o (Index i) (t ∷ at)))

-- the set at a step, or a new one, with a way more
pub fresh_less : (t : AddressSet) (none : AddressSet) (s : Step) (way : Address) → ((at : Address) → is_hidden none at ≡ is_off_all at) → HidesLess none t way → (at : Address) → hides (Some t) s at ≡ hides None s at && is_off_way way at
fresh_less t none s way is less at = less at ∙ ap (λ b. b && is_off_way way at) (is at) ∙ off_both s way at

abbrev Names : Type 0
Names = BTreeMap (String Global) AddressSet

abbrev Elements : Type 0
Elements = BTreeMap ℕ AddressSet

pub name_added : (old new : Names) (n : List ℕ) (o : Option AddressSet) (t : AddressSet) (way : Address) → get_by_text old n ≡ o
    → ((m : List ℕ) → get_by_text new m ≡ cond (bytes_eq n m) (Some t) (get_by_text old m)) → ((at : Address) → hides (Some t) (Name n) at ≡ hides o (Name n) at && is_off_way way at) → AddsName old new n way
name_added old new n o t way was more less m at = by (bytes_eq n m) refl
  where
    by : (b : Bool) → bytes_eq n m ≡ b → hides (get_by_text new m) (Name m) at ≡ hides (get_by_text old m) (Name m) at && is_off_way (Name n ∷ way) (Name m ∷ at)
    by true is = subst (λ k. hides (get_by_text new k) (Name k) at ≡ hides (get_by_text old k) (Name k) at && is_off_way (Name n ∷ way) (Name k ∷ at)) ((bytes_eq-Decides n m).0 is)
        (rw (more n, was, (bytes_eq-Decides n n).1 refl) (less at))
    by false is = rw (more m, is) (sym (and_true (hides (get_by_text old m) (Name m) at)))

pub element_added : (old new : Elements) (i : ℕ) (o : Option AddressSet) (t : AddressSet) (way : Address) → get nat_cmp old i ≡ o
    → ((j : ℕ) → get nat_cmp new j ≡ cond (i == j) (Some t) (get nat_cmp old j)) → ((at : Address) → hides (Some t) (Index i) at ≡ hides o (Index i) at && is_off_way way at) → AddsElement old new i way
element_added old new i o t way was more less j at = by (i == j) refl
  where
    by : (b : Bool) → i == j ≡ b → hides (get nat_cmp new j) (Index j) at ≡ hides (get nat_cmp old j) (Index j) at && is_off_way (Index i ∷ way) (Index j ∷ at)
    by true is = subst (λ k. hides (get nat_cmp new k) (Index k) at ≡ hides (get nat_cmp old k) (Index k) at && is_off_way (Index i ∷ way) (Index k ∷ at)) (eqb-true i j is)
        (rw (more i, was, eq-eqb i i refl) (less at))
    by false is = rw (more j, is) (hides_off (get nat_cmp old j) (Index j) at)

-- a map with the same entries
pub names_still : (old new : Names) → new.entries ≡ old.entries → (m : List ℕ) → get_by_text new m ≡ get_by_text old m
names_still old new same m = ap (lookup (is_at (λ k. slice_cmp nat_cmp m (string_bytes k)))) same

pub elements_still : (old new : Elements) → new.entries ≡ old.entries → (j : ℕ) → get nat_cmp new j ≡ get nat_cmp old j
elements_still old new same j = ap (lookup (is_at (nat_cmp j))) same

same_index : (i j : ℕ) → is_eq (nat_cmp i j) ≡ (i == j)
same_index i j = sym (unsigned_ties i j)

-- an element was put in, and nothing changed before
pub element_put : (old mid new : Elements) (i : ℕ) (t : AddressSet) → mid.entries ≡ old.entries → ((j : ℕ) → get nat_cmp new j ≡ cond (is_at (nat_cmp i) j) (Some t) (get nat_cmp mid j))
    → (j : ℕ) → get nat_cmp new j ≡ cond (i == j) (Some t) (get nat_cmp old j)
element_put old mid new i t same more j =
    more j ∙ ap (λ b. cond b (Some t) (get nat_cmp mid j)) (same_index i j) ∙ ap (cond (i == j) (Some t)) (elements_still old mid same j)

not_whole : (whole other : Bool) (x y b : Bool) → whole ≡ other → x ≡ y && b → cond whole false x ≡ cond other false y && b
not_whole true true x y b is less = refl
not_whole true false x y b is less = cc
not_whole false true x y b is less = cc
not_whole false false x y b is less = less

-- one way more at a name
pub less_by_name : (old new : AddressSet) (n : List ℕ) (way more : Address) → is_whole new ≡ is_whole old → (out-AddressSet new).elements ≡ (out-AddressSet old).elements
    → AddsName (out-AddressSet old).names (out-AddressSet new).names n way → more ≡ Name n ∷ way → HidesLess old new more
less_by_name old new n way more whole same adds is = subst (HidesLess old new) (sym is) by
  where
    by : HidesLess old new (Name n ∷ way)
    by [] = refl
    by (Name m ∷ at) = not_whole _ _ _ _ _ whole (adds m at)
    by (Index i ∷ at) = not_whole _ _ _ _ _ whole (ap (λ es. hides (get nat_cmp es i) (Index i) at) same ∙ hides_off (below old (Index i)) (Index i) at)

pub name_entered : (old : AddressSet) (names : Names) (n : List ℕ) (way more : Address) → AddsName (out-AddressSet old).names names n way → more ≡ Name n ∷ way
    → HidesLess old (roll-AddressSet (record { alloc = (out-AddressSet old).alloc; whole = (out-AddressSet old).whole; names = names; elements = (out-AddressSet old).elements })) more
name_entered old names n way more adds is =
    less_by_name old (roll-AddressSet (record { alloc = (out-AddressSet old).alloc; whole = (out-AddressSet old).whole; names = names; elements = (out-AddressSet old).elements })) n way more (search (rules, the_lemmas)) (search (rules, the_lemmas)) (search (rules, the_lemmas)) is

-- all of it
pub whole_less : (old new : AddressSet) (way : Address) → is_whole new ≡ true → way ≡ [] → HidesLess old new way
whole_less old new way whole is = subst (HidesLess old new) (sym is) by
  where
    by : HidesLess old new []
    by [] = refl
    by (s ∷ at) = rw whole (sym (and_false (is_hidden old (s ∷ at))))

-- a set that is whole hides no less with any address
pub whole_still : (set : AddressSet) (way : Address) → is_whole set ≡ true → HidesLess set set way
whole_still set way whole [] = refl
whole_still set way whole (s ∷ at) = rw whole refl

pub no_last : (o : Option (Bor (List ℕ))) → o ≡ None → last_step o ≡ []
no_last o is = ap last_step is

pub some_last : (o : Option (Bor (List ℕ))) (n : Bor (List ℕ)) → o ≡ Some n → last_step o ≡ Name n.now ∷ []
some_last o n is = ap last_step is
