-- What a set of addresses reaches once an address is put in.
use Rattle.toml_names.proofs.Common.{◌≡◌, ℕ, Bool, true, false, cond, ◌&&◌, ◌||◌, ◌==◌, List, [], ◌∷◌, Option, Some, None, String, BTreeMap, Global, refl, sym, ap, subst, ◌∙◌, bytes_eq, bytes_eq-Decides, nat_cmp, get, get_by_text, Name, Index, Address, eqb-true, eq-eqb, rules}
use Rattle.toml_names.specs.declared.model.address_set.AddressSet.{AddressSet, the_lemmas}
use Rattle.toml_names.specs.declared.model.address_set.AddressSet.TheViews.{out-AddressSet, roll-AddressSet}
use Rattle.toml_names.specs.model.AddressSets.{IsRootAlone, ReachesElement, ReachesMore, ReachesName, below, is_whole, reaches, reaches_in, reaches_one}

abbrev Names : Type 0
Names = BTreeMap (String Global) AddressSet

abbrev Elements : Type 0
Elements = BTreeMap ℕ AddressSet

or_false : (x : Bool) → x ≡ (x || false)
or_false true = refl
or_false false = refl

or_true : (x : Bool) → true ≡ (x || true)
or_true true = refl
or_true false = refl

whole_or : (new old x y b : Bool) → new ≡ old → x ≡ (y || b) → cond new true x ≡ (cond old true y || b)
whole_or true true x y b is more = refl
whole_or true false x y b is more = cc
whole_or false true x y b is more = cc
whole_or false false x y b is more = more

root_reached : (whole : Bool) (way : Address) → reaches_one whole way [] ≡ true
root_reached whole [] = refl
root_reached whole (t ∷ way) = refl

-- where all is reached nothing is added
pub whole_reaches : (t : AddressSet) (whole : Bool) (way : Address) → is_whole t ≡ true → ReachesMore t t whole way
whole_reaches t whole way all [] = refl
whole_reaches t whole way all (s ∷ at) = rw all refl

-- at the address, with all below it and without
pub here_whole : (old new : AddressSet) (whole : Bool) (way : Address) → way ≡ [] → whole ≡ true → is_whole new ≡ true → ReachesMore old new whole way
here_whole old new whole way end all is = subst (λ w. ReachesMore old new w way) (sym all) (subst (ReachesMore old new true) (sym end) by)
  where
    by : ReachesMore old new true []
    by [] = refl
    by (s ∷ at) = rw is (or_true (reaches old (s ∷ at)))

pub here_alone : (old : AddressSet) (whole : Bool) (way : Address) → way ≡ [] → whole ≡ false → ReachesMore old old whole way
here_alone old whole way end alone = subst (λ w. ReachesMore old old w way) (sym alone) (subst (ReachesMore old old false) (sym end) by)
  where
    by : ReachesMore old old false []
    by [] = refl
    by (s ∷ at) = or_false (reaches old (s ∷ at))

-- behind a name, an index
pub reaches_by_name : (old new : AddressSet) (n : List ℕ) (whole : Bool) (way more : Address) → more ≡ Name n ∷ way → is_whole new ≡ is_whole old → (out-AddressSet new).elements ≡ (out-AddressSet old).elements
    → ReachesName (out-AddressSet old).names (out-AddressSet new).names n whole way → ReachesMore old new whole more
reaches_by_name old new n whole way more end is same adds = subst (ReachesMore old new whole) (sym end) by
  where
    by : ReachesMore old new whole (Name n ∷ way)
    by [] = refl
    by (Name m ∷ at) = whole_or _ _ _ _ _ is (adds m at)
    by (Index i ∷ at) = whole_or _ _ _ _ _ is (ap (λ (es : Elements). reaches_in (get nat_cmp es i) at) same ∙ or_false (reaches_in (below old (Index i)) at))

pub reaches_by_element : (old new : AddressSet) (i : ℕ) (whole : Bool) (way more : Address) → more ≡ Index i ∷ way → is_whole new ≡ is_whole old → (out-AddressSet new).names ≡ (out-AddressSet old).names
    → ReachesElement (out-AddressSet old).elements (out-AddressSet new).elements i whole way → ReachesMore old new whole more
reaches_by_element old new i whole way more end is same adds = subst (ReachesMore old new whole) (sym end) by
  where
    by : ReachesMore old new whole (Index i ∷ way)
    by [] = refl
    by (Name m ∷ at) = whole_or _ _ _ _ _ is (ap (λ (ns : Names). reaches_in (get_by_text ns m) at) same ∙ or_false (reaches_in (below old (Name m)) at))
    by (Index j ∷ at) = whole_or _ _ _ _ _ is (adds j at)

pub name_reached : (old : AddressSet) (names : Names) (n : List ℕ) (whole : Bool) (way more : Address) → ReachesName (out-AddressSet old).names names n whole way → more ≡ Name n ∷ way
    → ReachesMore old (roll-AddressSet (record { alloc = (out-AddressSet old).alloc; whole = (out-AddressSet old).whole; names = names; elements = (out-AddressSet old).elements })) whole more
name_reached old names n whole way more adds is =
    reaches_by_name old (roll-AddressSet (record { alloc = (out-AddressSet old).alloc; whole = (out-AddressSet old).whole; names = names; elements = (out-AddressSet old).elements })) n whole way more is (search (rules, the_lemmas)) (search (rules, the_lemmas)) (search (rules, the_lemmas))

-- a new set, in the place of none
pub fresh_reaches : (none t : AddressSet) (whole : Bool) (way : Address) → IsRootAlone none → ReachesMore none t whole way → (at : Address) → reaches t at ≡ (reaches_in None at || reaches_one whole way at)
fresh_reaches none t whole way alone more [] = more [] ∙ sym (root_reached whole way)
fresh_reaches none t whole way alone more (s ∷ at) = more (s ∷ at) ∙ ap (λ b. b || reaches_one whole way (s ∷ at)) (alone s at)

-- one set more in a map, or another
pub name_put : (old new : Names) (n : List ℕ) (o : Option AddressSet) (t : AddressSet) (whole : Bool) (way : Address) → get_by_text old n ≡ o
    → ((m : List ℕ) → get_by_text new m ≡ cond (bytes_eq n m) (Some t) (get_by_text old m)) → ((at : Address) → reaches t at ≡ (reaches_in o at || reaches_one whole way at)) → ReachesName old new n whole way
name_put old new n o t whole way was put more m at = by (bytes_eq n m) refl
  where
    by : (b : Bool) → bytes_eq n m ≡ b → reaches_in (get_by_text new m) at ≡ (reaches_in (get_by_text old m) at || (bytes_eq n m && reaches_one whole way at))
    by true is = subst (λ k. reaches_in (get_by_text new k) at ≡ (reaches_in (get_by_text old k) at || (bytes_eq n k && reaches_one whole way at))) ((bytes_eq-Decides n m).0 is)
        (rw (put n, was, (bytes_eq-Decides n n).1 refl) (more at))
    by false is = rw (put m, is) (or_false (reaches_in (get_by_text old m) at))

pub element_put_in : (old new : Elements) (i : ℕ) (o : Option AddressSet) (t : AddressSet) (whole : Bool) (way : Address) → get nat_cmp old i ≡ o
    → ((j : ℕ) → get nat_cmp new j ≡ cond (i == j) (Some t) (get nat_cmp old j)) → ((at : Address) → reaches t at ≡ (reaches_in o at || reaches_one whole way at)) → ReachesElement old new i whole way
element_put_in old new i o t whole way was put more j at = by (i == j) refl
  where
    by : (b : Bool) → i == j ≡ b → reaches_in (get nat_cmp new j) at ≡ (reaches_in (get nat_cmp old j) at || (i == j && reaches_one whole way at))
    by true is = subst (λ k. reaches_in (get nat_cmp new k) at ≡ (reaches_in (get nat_cmp old k) at || (i == k && reaches_one whole way at))) (eqb-true i j is)
        (rw (put i, was, eq-eqb i i refl) (more at))
    by false is = rw (put j, is) (or_false (reaches_in (get nat_cmp old j) at))
