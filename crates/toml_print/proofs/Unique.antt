-- Data have at most one tree, one tagged JSON, and one text in each form.
use Rattle.std.proofs.Common.{◌≡◌, ◌⊎◌, ◌<◌, ◌+◌, ℕ, zero, suc, List, [], ◌∷◌, length, get_or, Some, IsSome, is_some, Contains, Less, Equal, Greater, Ordering, refl, sym, ap, ◌∙◌, subst, true≢false, arith, inl, inr, nat_cmp}
use Rattle.std.proofs.lemmas.Cmp.{nat_list_cmp_total, tied_itself}
use Rattle.std.proofs.lemmas.List.Elements.{All-contains, All-from_recursion}
use Rattle.std.proofs.lemmas.Map.Lookups.{exact_bytes}
use Rattle.std.specs.Cmp.Lexicographic.{slice_cmp}
use Rattle.std.specs.List.{AllByRecursion}
use Rattle.std.specs.List.Sorted.{IsStrictlySortedBy}
use Rattle.std.specs.Ordering.{ordering_reverse}
use Rattle.toml_names.specs.declared.model.address.Step.TheVariants.{Name, Index}
use Rattle.toml_names.specs.mentions.Mentions.{Kind, a_table, an_array, a_scalar}
use Rattle.toml_names.specs.model.Data.{Kinds}
use Rattle.toml_print.specs.JsonTexts.{tagged}
use Rattle.toml_print.specs.Laws.{OneTree, OnePrinted}
use Rattle.toml_print.specs.Printed.{IsTextOf, type_name}
use Rattle.toml_print.specs.Tagged.{OneTagged, part}
use Rattle.toml_print.specs.Trees.{Tree, scalar, array, table, Items, no_items, item, Members, no_members, member, names, AreNames, IsTreeOf, AreItems, AreMembers}
use Rattle.toml_print.specs.declared.form.Form.TheVariants.{Plain, Json, Tagged, TypeName}
use Rattle.toml_print.proofs.TreesTagged.{tree_of}

abbrev cmp : List ℕ → List ℕ → Ordering
cmp = slice_cmp nat_cmp

-- where a tree is that of data, something stands
there : (t : Tree) (f : Kinds) → IsTreeOf f t → IsSome (f [])
there (scalar v) f is = ap is_some is
there (array ts) f is = ap is_some is.0
there (table ms) f is = ap is_some is.0

name_there : (ms : Members) (i : ℕ) (f : Kinds) (n : List ℕ) → AreMembers f ms → i < length (names ms) → get_or (names ms) i n ≡ n → IsSome (f (Name n ∷ []))
name_there no_members i f n is h at = absurd (omega arith)
name_there (member m t ms) zero f n is h at = subst (λ (n : List ℕ). IsSome (f (Name n ∷ []))) at (there t (part f (Name m)) is.0)
name_there (member m t ms) (suc i) f n is h at = name_there ms i f n is.1 (omega arith) at

-- the first, or one behind it
first_or : (l n : List ℕ) (ls : List (List ℕ)) → Contains (l ∷ ls) n → (l ≡ n) ⊎ Contains ls n
first_or l n ls h = by h.0 h.1 h.2
  where
    by : (i : ℕ) → i < length (l ∷ ls) → get_or (l ∷ ls) i n ≡ n → (l ≡ n) ⊎ Contains ls n
    by zero lt is = inl is
    by (suc i) lt is = inr (i, omega arith, is)

-- it comes before all of these
abbrev IsBefore : List ℕ → List (List ℕ) → Type 0
IsBefore k = AllByRecursion (λ l. cmp k l ≡ Less)

before_each : (k n : List ℕ) (ls : List (List ℕ)) → IsBefore k ls → Contains ls n → cmp k n ≡ Less
before_each k n ls h c = All-contains (λ l. cmp k l ≡ Less) ls n (All-from_recursion (λ l. cmp k l ≡ Less) ls h) c

not_before_itself : {P : Type 0} (k l : List ℕ) → l ≡ k → cmp k l ≡ Less → P
not_before_itself k l is h = let e : Less ≡ Equal = sym h ∙ (ap (cmp k) is ∙ tied_itself nat_list_cmp_total k) in cc

not_both_before : {P : Type 0} (k l : List ℕ) → cmp k l ≡ Less → cmp l k ≡ Less → P
not_both_before k l h g = let e : Less ≡ Greater = sym h ∙ (nat_list_cmp_total.antisymm k l ∙ ap ordering_reverse g) in cc

-- each of the first is one of the second
abbrev AreAmong : List (List ℕ) → List (List ℕ) → Type 0
AreAmong ks ls = (n : List ℕ) → Contains ks n → Contains ls n

here : (k : List ℕ) (ks : List (List ℕ)) → Contains (k ∷ ks) k
here k ks = (0, omega arith, refl)

later : (k n : List ℕ) (ks : List (List ℕ)) → Contains ks n → Contains (k ∷ ks) n
later k n ks h = (suc h.0, omega (arith, h.1), h.2)

none_in : {P : Type 0} (n : List ℕ) → Contains [] n → P
none_in n h = absurd (omega (arith, h.1))

-- a key that is not the first key of the other list comes behind it
not_less : {P : Type 0} (k l : List ℕ) (ks ls : List (List ℕ)) → IsBefore l ls → AreAmong (k ∷ ks) (l ∷ ls) → cmp k l ≡ Less → P
not_less k l ks ls before among less = elim (first_or l k ls (among k (here k ks))) [
  | inl is ↦ not_before_itself k l is less
  | inr c ↦ not_both_before k l less (before_each l k ls before c)
]

first_keys : (o : Ordering) (k l : List ℕ) (ks ls : List (List ℕ)) → cmp k l ≡ o → IsBefore k ks → IsBefore l ls → AreAmong (k ∷ ks) (l ∷ ls) → AreAmong (l ∷ ls) (k ∷ ks) → k ≡ l
first_keys Less k l ks ls is hk hl among back = not_less k l ks ls hl among is
first_keys Equal k l ks ls is hk hl among back = exact_bytes k l is
first_keys Greater k l ks ls is hk hl among back = not_less l k ls ks hk back (nat_list_cmp_total.antisymm l k ∙ ap ordering_reverse is)

rest_among : (k l : List ℕ) (ks ls : List (List ℕ)) → k ≡ l → IsBefore k ks → AreAmong (k ∷ ks) (l ∷ ls) → AreAmong ks ls
rest_among k l ks ls same before among n c = elim (first_or l n ls (among n (later k n ks c))) [
  | inl is ↦ not_before_itself k n (sym is ∙ sym same) (before_each k n ks before c)
  | inr found ↦ found
]

-- two ascending lists of the same keys are one
same_keys : (ks ls : List (List ℕ)) → IsStrictlySortedBy cmp ks → IsStrictlySortedBy cmp ls → AreAmong ks ls → AreAmong ls ks → ks ≡ ls
unfolding IsStrictlySortedBy
same_keys [] [] hk hl among back = refl
same_keys [] (l ∷ ls) hk hl among back = none_in l (back l (here l ls))
same_keys (k ∷ ks) [] hk hl among back = none_in k (among k (here k ks))
same_keys (k ∷ ks) (l ∷ ls) hk hl among back =
    let first : k ≡ l = first_keys _ k l ks ls refl hk.0 hl.0 among back in
    let rest : ks ≡ ls = same_keys ks ls hk.1 hl.1 (rest_among k l ks ls first hk.0 among) (rest_among l k ls ks (sym first) hl.0 back) in
    ap (λ k. k ∷ ks) first ∙ ap (λ ks. l ∷ ks) rest

-- the names in one table are those in another
names_among : (ms ns : Members) (f : Kinds) → AreMembers f ms → AreNames f (names ns) → AreAmong (names ms) (names ns)
names_among ms ns f is are n c = are.each n (name_there ms c.0 f n is c.1 c.2)

names_alike : (ms ns : Members) (f : Kinds) → AreMembers f ms → AreNames f (names ms) → AreMembers f ns → AreNames f (names ns) → names ms ≡ names ns
names_alike ms ns f is are was were = same_keys (names ms) (names ns) are.ascending were.ascending (names_among ms ns f is were) (names_among ns ms f was are)

-- data at an address are of one kind
apart : {P : Type 0} (f : Kinds) (k l : Kind) → f [] ≡ Some k → f [] ≡ Some l → (k ≡ l → ⊥) → P
apart f k l is was differ = let e : Some k ≡ Some l = sym is ∙ was in absurd (differ cc)

mutual
  one : (t u : Tree) (f : Kinds) → IsTreeOf f t → IsTreeOf f u → t ≡ u
  one (scalar v) (scalar w) f is was = let e : Some (a_scalar v) ≡ Some (a_scalar w) = sym is ∙ was in let same : v ≡ w = cc in ap scalar same
  one (scalar v) (array us) f is was = apart f (a_scalar v) an_array is was.0 (λ e. cc)
  one (scalar v) (table ns) f is was = apart f (a_scalar v) a_table is was.0 (λ e. cc)
  one (array ts) (scalar w) f is was = apart f an_array (a_scalar w) is.0 was (λ e. cc)
  one (array ts) (array us) f is was = ap array (one_items ts us f 0 is.1 was.1)
  one (array ts) (table ns) f is was = apart f an_array a_table is.0 was.0 (λ e. cc)
  one (table ms) (scalar w) f is was = apart f a_table (a_scalar w) is.0 was (λ e. cc)
  one (table ms) (array us) f is was = apart f a_table an_array is.0 was.0 (λ e. cc)
  one (table ms) (table ns) f is was = ap table (one_members ms ns f (names_alike ms ns f is.1 is.2 was.1 was.2) is.1 was.1)

  one_items : (ts us : Items) (f : Kinds) (i : ℕ) → AreItems f i ts → AreItems f i us → ts ≡ us
  one_items no_items no_items f i is was = refl
  one_items no_items (item u us) f i is was = absurd (true≢false (sym (there u (part f (Index i)) was.0) ∙ ap is_some is))
  one_items (item t ts) no_items f i is was = absurd (true≢false (sym (there t (part f (Index i)) is.0) ∙ ap is_some was))
  one_items (item t ts) (item u us) f i is was = ap (λ t. item t ts) (one t u (part f (Index i)) is.0 was.0) ∙ ap (item u) (one_items ts us f (i + 1) is.1 was.1)

  one_members : (ms ns : Members) (f : Kinds) → names ms ≡ names ns → AreMembers f ms → AreMembers f ns → ms ≡ ns
  one_members no_members no_members f same is was = refl
  one_members no_members (member n u ns) f same is was = cc
  one_members (member m t ms) no_members f same is was = cc
  one_members (member m t ms) (member n u ns) f same is was =
      let first : m ≡ n = cc in
      let rest : names ms ≡ names ns = cc in
      let tree : t ≡ u = one t u (part f (Name m)) is.0 (subst (λ (k : List ℕ). IsTreeOf (part f (Name k)) u) (sym first) was.0) in
      ap (λ k. member k t ms) first ∙ (ap (λ x. member n x ms) tree ∙ ap (member n u) (one_members ms ns f rest is.1 was.1))

pub one_tree : OneTree
one_tree f t u is was = one t u f is was

pub one_tagged : OneTagged
one_tagged f j k is was =
    let a = tree_of j f is in
    let b = tree_of k f was in
    a.2 ∙ ap tagged (one a.0 b.0 f a.1 b.1) ∙ sym b.2

one_text : (write : Tree → List ℕ) (f : Kinds) (a b : List ℕ) → IsTextOf write f a → IsTextOf write f b → a ≡ b
one_text write f a b is was = is.is ∙ ap write (one is.tree was.tree f is.of_data was.of_data) ∙ sym was.is

pub one_printed : OnePrinted
one_printed Plain f a b is was = one_text _ f a b is was
one_printed Json f a b is was = one_text _ f a b is was
one_printed Tagged f a b is was = one_text _ f a b is was
one_printed TypeName f a b is was =
    let e : Some is.0 ≡ Some was.0 = sym is.1 ∙ was.1 in
    let same : is.0 ≡ was.0 = cc in
    is.2 ∙ ap type_name same ∙ sym was.2
