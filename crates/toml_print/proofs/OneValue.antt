-- One value at most stands at an address.
use Rattle.std.proofs.Common.{◌≡◌, ◌⊎◌, ◌+◌, ◌<◌, ℕ, zero, suc, true, List, [], ◌∷◌, ◌++◌, length, length-append, map, get_or, AllPairs, Some, None, refl, sym, ap, ◌∙◌, subst, arith, append_assoc, inl, inr}
use Rattle.std.proofs.lemmas.List.{append-nil, get_or-append-add}
use Rattle.toml_tree.specs.Tree.{Value, Scalar, Array, Inline, Items, Close, Last, More, Pairs, ClosePairs, LastPair, MorePairs, Expr, BlankLine, KeyValLine, TableLine, ArrayTableLine, Line}
use Rattle.toml_names.specs.declared.mentions.mention.Role.{Role}
use Rattle.toml_names.specs.declared.mentions.mention.Role.TheVariants.{Valued, Bare}
use Rattle.toml_names.specs.declared.model.address.Step.TheVariants.{Name, Index}
use Rattle.toml_names.specs.mentions.Keys.{key_names}
use Rattle.toml_names.specs.mentions.Mentions.{Named, named, named_by, section, fronts, value_named, inside, elements, members}
use Rattle.toml_names.specs.mentions.OwnAddresses.{is_itself}
use Rattle.toml_names.specs.model.Addresses.{Address, below, element}
use Rattle.toml_names.specs.reader.Names.{own_address}
use Rattle.toml_names.proofs.Proved.{line_is_named, themselves_differ}
use Rattle.toml_print.specs.ValueTexts.{StandsIn, StandsInItems, StandsInPairs, HasValueAt, OneValueAt, value_of}

-- no two things that are named by themselves are at one address
abbrev Apart : List Named → Type 0
Apart ms = AllPairs (λ e l. is_itself e.role ≡ true → is_itself l.role ≡ true → ¬ (e.address ≡ l.address)) ms

-- a thing is named by itself at the address
abbrev HasItself : Address → List Named → Type 0
HasItself at ms = (i : ℕ) × (i < length ms) × ((d : Named) → ((get_or ms i d).address ≡ at) × (is_itself (get_or ms i d).role ≡ true))

get_or-front : (xs ys : List Named) (i : ℕ) (d : Named) → i < length xs → get_or (xs ++ ys) i d ≡ get_or xs i d
get_or-front [] ys i d low = absurd (omega arith)
get_or-front (x ∷ xs) ys zero d low = refl
get_or-front (x ∷ xs) ys (suc i) d low = get_or-front xs ys i d (omega arith)

module _ (xs ys : List Named) where
  apart_front : Apart (xs ++ ys) → Apart xs
  apart_front apart i j d less low =
      let within : j < length (xs ++ ys) = omega (arith, low, length-append xs ys) in
      let first : i < length xs = omega (arith, less, low) in
      let R : Named → Named → Type 0 = λ e l. is_itself e.role ≡ true → is_itself l.role ≡ true → ¬ (e.address ≡ l.address) in
      subst (λ e. R e (get_or xs j d)) (get_or-front xs ys i d first) (subst (λ l. R (get_or (xs ++ ys) i d) l) (get_or-front xs ys j d low) (apart i j d less within))

  apart_back : Apart (xs ++ ys) → Apart ys
  apart_back apart i j d less low =
      let within : length xs + j < length (xs ++ ys) = omega (arith, low, length-append xs ys) in
      let first : length xs + i < length xs + j = omega (arith, less) in
      let R : Named → Named → Type 0 = λ e l. is_itself e.role ≡ true → is_itself l.role ≡ true → ¬ (e.address ≡ l.address) in
      subst (λ e. R e (get_or ys j d)) (get_or-append-add xs ys i d) (subst (λ l. R (get_or (xs ++ ys) (length xs + i) d) l) (get_or-append-add xs ys j d) (apart (length xs + i) (length xs + j) d first within))

  in_front : (at : Address) → HasItself at xs → HasItself at (xs ++ ys)
  in_front at (i, low, is) = (
    i,
    omega (arith, low, length-append xs ys),
    λ d. subst (λ (m : Named). (m.address ≡ at) × (is_itself m.role ≡ true)) (sym (get_or-front xs ys i d low)) (is d),
  )

  in_back : (at : Address) → HasItself at ys → HasItself at (xs ++ ys)
  in_back at (i, low, is) = (
    length xs + i,
    omega (arith, low, length-append xs ys),
    λ d. subst (λ (m : Named). (m.address ≡ at) × (is_itself m.role ≡ true)) (sym (get_or-append-add xs ys i d)) (is d),
  )

  not_in_both : (at : Address) (d : Named) → Apart (xs ++ ys) → HasItself at xs → HasItself at ys → ⊥
  unfolding in_front in_back
  not_in_both at d apart one two =
      let i = one.0 in
      let j = length xs + two.0 in
      let first : i < j = omega (arith, one.1) in
      let within : j < length (xs ++ ys) = omega (arith, two.1, length-append xs ys) in
      let a = (in_front at one).2 d in
      let b = (in_back at two).2 d in
      apart i j d first within a.1 b.1 (a.0 ∙ sym b.0)

here : (m : Named) (ms : List Named) (at : Address) → m.address ≡ at → is_itself m.role ≡ true → HasItself at (m ∷ ms)
here m ms at is itself = (0, omega arith, λ d. (is, itself))

again : (at other : Address) (ms : List Named) → at ≡ other → HasItself at ms → HasItself other ms
again at other ms is has = subst (λ a. HasItself a ms) is has

own : (v : Value) (line : ℕ) (role : Role) (base at : Address) → is_itself role ≡ true → at ≡ [] → HasItself (base ++ at) (value_named line role base v ∷ inside line base v)
own v line role base at itself none = here (value_named line role base v) (inside line base v) (base ++ at) (sym (ap (λ a. base ++ a) none ∙ append-nil base)) itself

-- what an element and what is in it name
abbrev of_item : ℕ → Address → ℕ → Value → List Named
of_item line base i v = value_named line Bare (element base i) v ∷ inside line (element base i) v

-- what a pair names
abbrev of_pair : ℕ → Address → List (List ℕ) → Value → List Named
of_pair line base key v = fronts line base key ++ (value_named line Valued (below base key) v ∷ inside line (below base key) v)

item_here : (line i : ℕ) (base rest at : Address) (v : Value) → at ≡ Index i ∷ rest → HasItself (element base i ++ rest) (of_item line base i v) → HasItself (base ++ at) (of_item line base i v)
item_here line i base rest at v is has = again (element base i ++ rest) (base ++ at) (of_item line base i v) (append_assoc base (Index i ∷ []) rest ∙ ap (λ a. base ++ a) (sym is)) has

pair_here : (line : ℕ) (base : Address) (key : List (List ℕ)) (rest at : Address) (v : Value) → at ≡ below [] key ++ rest → HasItself (below base key ++ rest) (value_named line Valued (below base key) v ∷ inside line (below base key) v)
    → HasItself (base ++ at) (of_pair line base key v)
pair_here line base key rest at v is has =
    in_back (fronts line base key) (value_named line Valued (below base key) v ∷ inside line (below base key) v) (base ++ at)
    (again (below base key ++ rest) (base ++ at) (value_named line Valued (below base key) v ∷ inside line (below base key) v) (append_assoc base (map Name key) rest ∙ ap (λ a. base ++ a) (sym is)) has)

-- what stands in a value is named by itself, at its steps behind the value's address
mutual
  is_named : (v : Value) (line : ℕ) (role : Role) (base at : Address) (w : Value) → is_itself role ≡ true → StandsIn v at w → HasItself (base ++ at) (value_named line role base v ∷ inside line base v)
  is_named (Scalar kind p) line role base at w itself h = own (Scalar kind p) line role base at itself h.0
  is_named (Array whole items) line role base at w itself (inl h) = own (Array whole items) line role base at itself h.0
  is_named (Array whole items) line role base at w itself (inr h) = in_back (value_named line role base (Array whole items) ∷ []) (elements line base 0 items) (base ++ at) (item_named items 0 line base at w h)
  is_named (Inline whole pairs) line role base at w itself (inl h) = own (Inline whole pairs) line role base at itself h.0
  is_named (Inline whole pairs) line role base at w itself (inr h) = in_back (value_named line role base (Inline whole pairs) ∷ []) (members line base pairs) (base ++ at) (pair_named_in pairs line base at w h)

  item_named : (items : Items) (i line : ℕ) (base at : Address) (w : Value) → StandsInItems i items at w → HasItself (base ++ at) (elements line base i items)
  item_named (Close g) i line base at w h = absurd h
  item_named (Last g v k) i line base at w h = item_here line i base h.0 at v h.1 (is_named v line Bare (element base i) h.0 w refl h.2)
  item_named (More g v k is) i line base at w (inl h) = in_front (of_item line base i v) (elements line base (i + 1) is) (base ++ at) (item_here line i base h.0 at v h.1 (is_named v line Bare (element base i) h.0 w refl h.2))
  item_named (More g v k is) i line base at w (inr h) = in_back (of_item line base i v) (elements line base (i + 1) is) (base ++ at) (item_named is (i + 1) line base at w h)

  pair_named_in : (pairs : Pairs) (line : ℕ) (base at : Address) (w : Value) → StandsInPairs pairs at w → HasItself (base ++ at) (members line base pairs)
  pair_named_in (ClosePairs g) line base at w h = absurd h
  pair_named_in (LastPair g a v k) line base at w h = pair_here line base (key_names a.key) h.0 at v h.1 (is_named v line Valued (below base (key_names a.key)) h.0 w refl h.2)
  pair_named_in (MorePairs g a v k ps) line base at w (inl h) =
      in_front (of_pair line base (key_names a.key) v) (members line base ps) (base ++ at) (pair_here line base (key_names a.key) h.0 at v h.1 (is_named v line Valued (below base (key_names a.key)) h.0 w refl h.2))
  pair_named_in (MorePairs g a v k ps) line base at w (inr h) = in_back (of_pair line base (key_names a.key) v) (members line base ps) (base ++ at) (pair_named_in ps line base at w h)

first_item : (v : Value) (i line : ℕ) (base rest at : Address) (w : Value) → at ≡ Index i ∷ rest → StandsIn v rest w → HasItself (base ++ at) (of_item line base i v)
first_item v i line base rest at w is stands = item_here line i base rest at v is (is_named v line Bare (element base i) rest w refl stands)

first_pair : (key : List (List ℕ)) (v : Value) (line : ℕ) (base rest at : Address) (w : Value) → at ≡ below [] key ++ rest → StandsIn v rest w → HasItself (base ++ at) (of_pair line base key v)
first_pair key v line base rest at w is stands = pair_here line base key rest at v is (is_named v line Valued (below base key) rest w refl stands)

cancel : (front a b : Address) → front ++ a ≡ front ++ b → a ≡ b
cancel [] a b is = is
cancel (s ∷ front) a b is = let rest : front ++ a ≡ front ++ b = cc in cancel front a b rest

no_item : (items : Items) (i : ℕ) (at : Address) (w : Value) → at ≡ [] → StandsInItems i items at w → ⊥
no_item (Close g) i at w none h = h
no_item (Last g v k) i at w none h = let no : ◌≡◌ {A = Address} [] (Index i ∷ h.0) = sym none ∙ h.1 in cc
no_item (More g v k is) i at w none (inl h) = let no : ◌≡◌ {A = Address} [] (Index i ∷ h.0) = sym none ∙ h.1 in cc
no_item (More g v k is) i at w none (inr h) = no_item is (i + 1) at w none h

no_pair : (pairs : Pairs) (at : Address) (w : Value) → at ≡ [] → StandsInPairs pairs at w → ⊥
no_pair (ClosePairs g) at w none h = h
no_pair (LastPair g a v k) at w none h = let no : ◌≡◌ {A = Address} [] (below [] (key_names a.key) ++ h.0) = sym none ∙ h.1 in cc
no_pair (MorePairs g a v k ps) at w none (inl h) = let no : ◌≡◌ {A = Address} [] (below [] (key_names a.key) ++ h.0) = sym none ∙ h.1 in cc
no_pair (MorePairs g a v k ps) at w none (inr h) = no_pair ps at w none h

-- a pair's value and what is in it
behind_fronts : (line : ℕ) (base : Address) (key : List (List ℕ)) (u : Value) → Apart (of_pair line base key u) → Apart (value_named line Valued (below base key) u ∷ inside line (below base key) u)
behind_fronts line base key u apart = apart_back (fronts line base key) (value_named line Valued (below base key) u ∷ inside line (below base key) u) apart

mutual
  one_in : (u : Value) (line : ℕ) (role : Role) (base at : Address) (v w : Value) → Apart (value_named line role base u ∷ inside line base u) → StandsIn u at v → StandsIn u at w → v ≡ w
  one_in (Scalar kind p) line role base at v w apart h k = h.1 ∙ sym k.1
  one_in (Array whole items) line role base at v w apart (inl h) (inl k) = h.1 ∙ sym k.1
  one_in (Array whole items) line role base at v w apart (inl h) (inr k) = absurd (no_item items 0 at w h.0 k)
  one_in (Array whole items) line role base at v w apart (inr h) (inl k) = absurd (no_item items 0 at v k.0 h)
  one_in (Array whole items) line role base at v w apart (inr h) (inr k) = one_item items 0 line base at v w (apart_back (value_named line role base (Array whole items) ∷ []) (elements line base 0 items) apart) h k
  one_in (Inline whole pairs) line role base at v w apart (inl h) (inl k) = h.1 ∙ sym k.1
  one_in (Inline whole pairs) line role base at v w apart (inl h) (inr k) = absurd (no_pair pairs at w h.0 k)
  one_in (Inline whole pairs) line role base at v w apart (inr h) (inl k) = absurd (no_pair pairs at v k.0 h)
  one_in (Inline whole pairs) line role base at v w apart (inr h) (inr k) = one_pair pairs line base at v w (apart_back (value_named line role base (Inline whole pairs) ∷ []) (members line base pairs) apart) h k

  one_item : (items : Items) (i line : ℕ) (base at : Address) (v w : Value) → Apart (elements line base i items) → StandsInItems i items at v → StandsInItems i items at w → v ≡ w
  one_item (Close g) i line base at v w apart h k = absurd h
  one_item (Last g u e) i line base at v w apart h k =
      one_in u line Bare (element base i) k.0 v w apart (subst (λ a. StandsIn u a v) (cancel (Index i ∷ []) h.0 k.0 (sym h.1 ∙ k.1)) h.2) k.2
  one_item (More g u e is) i line base at v w apart (inl h) (inl k) =
      one_in u line Bare (element base i) k.0 v w (apart_front (of_item line base i u) (elements line base (i + 1) is) apart) (subst (λ a. StandsIn u a v) (cancel (Index i ∷ []) h.0 k.0 (sym h.1 ∙ k.1)) h.2) k.2
  one_item (More g u e is) i line base at v w apart (inl h) (inr k) =
      absurd (not_in_both (of_item line base i u) (elements line base (i + 1) is) (base ++ at) (value_named line Bare base u) apart (first_item u i line base h.0 at v h.1 h.2) (item_named is (i + 1) line base at w k))
  one_item (More g u e is) i line base at v w apart (inr h) (inl k) =
      absurd (not_in_both (of_item line base i u) (elements line base (i + 1) is) (base ++ at) (value_named line Bare base u) apart (first_item u i line base k.0 at w k.1 k.2) (item_named is (i + 1) line base at v h))
  one_item (More g u e is) i line base at v w apart (inr h) (inr k) = one_item is (i + 1) line base at v w (apart_back (of_item line base i u) (elements line base (i + 1) is) apart) h k

  one_pair : (pairs : Pairs) (line : ℕ) (base at : Address) (v w : Value) → Apart (members line base pairs) → StandsInPairs pairs at v → StandsInPairs pairs at w → v ≡ w
  one_pair (ClosePairs g) line base at v w apart h k = absurd h
  one_pair (LastPair g a u e) line base at v w apart h k =
      one_in u line Valued (below base (key_names a.key)) k.0 v w (behind_fronts line base (key_names a.key) u apart) (subst (λ b. StandsIn u b v) (cancel (below [] (key_names a.key)) h.0 k.0 (sym h.1 ∙ k.1)) h.2) k.2
  one_pair (MorePairs g a u e ps) line base at v w apart (inl h) (inl k) =
      one_in u line Valued (below base (key_names a.key)) k.0 v w (behind_fronts line base (key_names a.key) u (apart_front (of_pair line base (key_names a.key) u) (members line base ps) apart))
      (subst (λ b. StandsIn u b v) (cancel (below [] (key_names a.key)) h.0 k.0 (sym h.1 ∙ k.1)) h.2) k.2
  one_pair (MorePairs g a u e ps) line base at v w apart (inl h) (inr k) =
      absurd (not_in_both (of_pair line base (key_names a.key) u) (members line base ps) (base ++ at) (value_named line Bare base u) apart (first_pair (key_names a.key) u line base h.0 at v h.1 h.2) (pair_named_in ps line base at w k))
  one_pair (MorePairs g a u e ps) line base at v w apart (inr h) (inl k) =
      absurd (not_in_both (of_pair line base (key_names a.key) u) (members line base ps) (base ++ at) (value_named line Bare base u) apart (first_pair (key_names a.key) u line base k.0 at w k.1 k.2) (pair_named_in ps line base at v h))
  one_pair (MorePairs g a u e ps) line base at v w apart (inr h) (inr k) = one_pair ps line base at v w (apart_back (of_pair line base (key_names a.key) u) (members line base ps) apart) h k

-- The same of a line: what it has at the address it names by itself there,
line_named : (before : List Line) (l : Line) (at : Address) (w : Value) → HasValueAt before l at w → HasItself at (named_by (named before) (length before) l.expr)
line_named before l at w h = by l.expr h.address h.there
  where
    by : (e : Expr) → own_address (named before) e ≡ Some h.own → value_of e ≡ Some h.value → HasItself at (named_by (named before) (length before) e)
    by (BlankLine b) address there = let no : None ≡ Some h.value = there in absurd cc
    by (TableLine ws header tail) address there = let no : None ≡ Some h.value = there in absurd cc
    by (ArrayTableLine ws header tail) address there = let no : None ≡ Some h.value = there in absurd cc
    by (KeyValLine ws pair tail) address there =
        let base = section (named before) in
        let key = key_names pair.assign.key in
        let own_is : h.own ≡ below base key = cc in
        let value_is : h.value ≡ pair.value = cc in
        let stands : StandsIn pair.value h.rest w = subst (λ v. StandsIn v h.rest w) value_is h.inside in
        let is : base ++ (below [] key ++ h.rest) ≡ at = sym (append_assoc base (map Name key) h.rest) ∙ sym (h.is ∙ ap (λ a. a ++ h.rest) own_is) in
        again (base ++ (below [] key ++ h.rest)) at (of_pair (length before) base key pair.value) is (first_pair key pair.value (length before) base h.rest (below [] key ++ h.rest) w refl stands)

-- and it has one value there
one_in_line : (before : List Line) (l : Line) (at : Address) (v w : Value) → Apart (named_by (named before) (length before) l.expr) → HasValueAt before l at v → HasValueAt before l at w → v ≡ w
one_in_line before l at v w apart h k = by l.expr h.address h.there k.address k.there apart
  where
    by : (e : Expr) → own_address (named before) e ≡ Some h.own → value_of e ≡ Some h.value → own_address (named before) e ≡ Some k.own → value_of e ≡ Some k.value → Apart (named_by (named before) (length before) e) → v ≡ w
    by (BlankLine b) address there other also apart = let no : None ≡ Some h.value = there in absurd cc
    by (TableLine ws header tail) address there other also apart = let no : None ≡ Some h.value = there in absurd cc
    by (ArrayTableLine ws header tail) address there other also apart = let no : None ≡ Some h.value = there in absurd cc
    by (KeyValLine ws pair tail) address there other also apart =
        let base = section (named before) in
        let key = key_names pair.assign.key in
        let first : h.own ≡ k.own = cc in
        let value_is : h.value ≡ pair.value = cc in
        let value_was : k.value ≡ pair.value = cc in
        let same : h.rest ≡ k.rest = cancel k.own h.rest k.rest (ap (λ a. a ++ h.rest) (sym first) ∙ sym h.is ∙ k.is) in
        one_in pair.value (length before) Valued (below base key) k.rest v w
        (behind_fronts (length before) base key pair.value apart)
        (subst (λ a. StandsIn pair.value a v) same (subst (λ u. StandsIn u h.rest v) value_is h.inside))
        (subst (λ u. StandsIn u k.rest w) value_was k.inside)

-- how two lines of a list lie: the same, or one before the other
abbrev Lie : List Line → Line → List Line → Line → Type 0
Lie before l other k = ((before ≡ other) × (l ≡ k)) ⊎ (((more : List Line) × (other ≡ before ++ l ∷ more)) ⊎ ((more : List Line) × (before ≡ other ++ k ∷ more)))

lie : (before other behind after : List Line) (l k : Line) → before ++ l ∷ behind ≡ other ++ k ∷ after → Lie before l other k
lie [] [] behind after l k is = let same : l ≡ k = cc in inl (refl, same)
lie [] (o ∷ other) behind after l k is = let same : o ≡ l = cc in inr (inl (other, ap (λ x. x ∷ other) same))
lie (b ∷ before) [] behind after l k is = let same : b ≡ k = cc in inr (inr (before, ap (λ x. x ∷ before) same))
lie (b ∷ before) (o ∷ other) behind after l k is =
    let first : b ≡ o = cc in
    let rest : before ++ l ∷ behind ≡ other ++ k ∷ after = cc in
    elim (lie before other behind after l k rest) [
      | inl h ↦ inl ((λ i. first i ∷ h.0 i), h.1)
      | inr h ↦ elim h [
        | inl g ↦ inr (inl (g.0, (λ i. sym first i ∷ g.1 i)))
        | inr g ↦ inr (inr (g.0, (λ i. first i ∷ g.1 i)))
      ]
    ]

-- lines one of which stands before the other don't have values at one address
not_two : (before more behind : List Line) (l k : Line) (at : Address) (v w : Value) → Apart (named ((before ++ l ∷ more) ++ k ∷ behind)) → HasValueAt before l at v → HasValueAt (before ++ l ∷ more) k at w → ⊥
not_two before more behind l k at v w apart h g =
    let front = before ++ l ∷ more in
    let last = line_is_named front behind k in
    let first = line_is_named before more l in
    let whole : Apart ((named front ++ named_by (named front) (length front) k.expr) ++ last.0) = subst Apart last.1 apart in
    let both = apart_front (named front ++ named_by (named front) (length front) k.expr) last.0 whole in
    let of_front : HasItself at (named front) =
    subst (λ ms. HasItself at ms) (sym first.1) (in_front (named before ++ named_by (named before) (length before) l.expr) first.0 at (in_back (named before) (named_by (named before) (length before) l.expr) at (line_named before l at v h))) in
    not_in_both (named front) (named_by (named front) (length front) k.expr) at (value_named 0 Bare [] v) both of_front (line_named front k at w g)

pub one_value_at : OneValueAt
one_value_at lines at v w good h k = by (lie h.before k.before h.behind k.behind h.line k.line (sym h.is ∙ k.is))
  where
    apart : Apart (named lines)
    apart = themselves_differ lines good.0

    in_one : (before behind : List Line) (l : Line) → lines ≡ before ++ l ∷ behind → HasValueAt before l at v → HasValueAt before l at w → v ≡ w
    in_one before behind l is one two =
        let here = line_is_named before behind l in
        let whole : Apart ((named before ++ named_by (named before) (length before) l.expr) ++ here.0) = subst Apart (ap named is ∙ here.1) apart in
        one_in_line before l at v w (apart_back (named before) (named_by (named before) (length before) l.expr) (apart_front (named before ++ named_by (named before) (length before) l.expr) here.0 whole)) one two

    by : Lie h.before h.line k.before k.line → v ≡ w
    by (inl e) = in_one k.before k.behind k.line k.is (subst (λ (l : Line). HasValueAt k.before l at v) e.1 (subst (λ (ls : List Line). HasValueAt ls h.line at v) e.0 h.has)) k.has
    by (inr (inl e)) =
        absurd (not_two h.before e.0 k.behind h.line k.line at v w (subst (λ ls. Apart (named ls)) (k.is ∙ ap (λ (ls : List Line). ls ++ k.line ∷ k.behind) e.1) apart) h.has (subst (λ (ls : List Line). HasValueAt ls k.line at w) e.1 k.has))
    by (inr (inr e)) =
        absurd (not_two k.before e.0 h.behind k.line h.line at w v (subst (λ ls. Apart (named ls)) (h.is ∙ ap (λ (ls : List Line). ls ++ h.line ∷ h.behind) e.1) apart) k.has (subst (λ (ls : List Line). HasValueAt ls h.line at v) e.1 h.has))
