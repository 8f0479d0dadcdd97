-- Mentions that keep the rules, and others that keep them with these or in place of these.
use Rattle.toml_names.proofs.Common.{◌≡◌, ◌↔◌, true, List, [], ◌∷◌, ◌++◌, map, sym, ap, ap₂, ◌∙◌, subst, append-nil, EachIs, Address, IsAbove, Named, value_named, inside, value_facts, may_follow, shifted}
use Rattle.toml_names.specs.mentions.Inside.{ValueKeepsRules}
use Rattle.toml_names.specs.mentions.Rules.{SomeKeepRules, MoreKeepRules, MovedKeepRules}
use Rattle.toml_names.proofs.Each.{PairsAre, pairs_of_all, all_of_pairs, each_append, each_left, each_right, each_weaker}
use Rattle.toml_names.proofs.lemmas.mentions.InsideMoves.{inside_moves}
use Rattle.toml_names.proofs.lemmas.mentions.PlacesNone.{inside_is_below}

-- two mentions that keep the rules
abbrev pub Goes : Named → Named → Type 0
Goes e l = e.address ≡ l.address → may_follow e.role l.role ≡ true

-- ---- some of them

pairs_right : {A : Type 0} (R : A → A → Type 0) (xs ys : List A) → PairsAre R (xs ++ ys) → PairsAre R ys
pairs_right R [] ys h = h
pairs_right R (x ∷ xs) ys h = pairs_right R xs ys h.1

pairs_part : {A : Type 0} (R : A → A → Type 0) (xs ys zs : List A) → PairsAre R (xs ++ (ys ++ zs)) → PairsAre R (xs ++ zs)
pairs_part R [] ys zs h = pairs_right R ys zs h
pairs_part R (x ∷ xs) ys zs h = (each_append (R x) xs zs (each_left (R x) xs (ys ++ zs) h.0) (each_right (R x) ys zs (each_right (R x) xs (ys ++ zs) h.0)), pairs_part R xs ys zs h.1)

pub some_keep_rules : SomeKeepRules
some_keep_rules front block back keeps = all_of_pairs Goes (front ++ back) (pairs_part Goes front block back (pairs_of_all Goes (front ++ (block ++ back)) keeps))

-- ---- more of them

pairs_append : {A : Type 0} (R : A → A → Type 0) (xs ys : List A) → PairsAre R xs → PairsAre R ys → EachIs (λ x. EachIs (R x) ys) xs → PairsAre R (xs ++ ys)
pairs_append R [] ys h k c = k
pairs_append R (x ∷ xs) ys h k c = (each_append (R x) xs ys h.0 c.0, pairs_append R xs ys h.1 k c.1)

-- each of one list with each of the other, the other way round
turned : {A : Type 0} (R : A → A → Type 0) (xs ys : List A) → EachIs (λ x. EachIs (λ y. R y x) ys) xs → EachIs (λ y. EachIs (R y) xs) ys
turned R xs [] h = tt
turned R xs (y ∷ ys) h = (
  each_weaker (λ x. EachIs (λ y. R y x) (y ∷ ys)) (R y) (λ x k. k.0) xs h,
  turned R xs ys (each_weaker (λ x. EachIs (λ y. R y x) (y ∷ ys)) (λ x. EachIs (λ y. R y x) ys) (λ x k. k.1) xs h),
)

-- at other addresses than each of the block
abbrev IsBeside : List Named → Named → Type 0
IsBeside block m = EachIs (λ b. ¬ (m.address ≡ b.address)) block

pairs_more : (front block back : List Named) → PairsAre Goes (front ++ back) → PairsAre Goes block → EachIs (IsBeside block) (front ++ back) → PairsAre Goes (front ++ (block ++ back))
pairs_more [] block back h k apart =
    pairs_append Goes block back k h
    (turned Goes back block (each_weaker (IsBeside block) (λ m. EachIs (λ b. Goes b m) block) (λ m is. each_weaker (λ b. ¬ (m.address ≡ b.address)) (λ b. Goes b m) (λ b differs same. absurd (differs (sym same))) block is) back apart))
pairs_more (m ∷ front) block back h k apart = (
  each_append (Goes m) front (block ++ back) (each_left (Goes m) front back h.0)
      (each_append (Goes m) block back (each_weaker (λ b. ¬ (m.address ≡ b.address)) (Goes m) (λ b differs same. absurd (differs same)) block apart.0) (each_right (Goes m) front back h.0)),
  pairs_more front block back h.1 k apart.1,
)

pub more_keep_rules : MoreKeepRules
more_keep_rules front block back keeps among apart =
    all_of_pairs Goes (front ++ (block ++ back)) (pairs_more front block back (pairs_of_all Goes (front ++ back) keeps) (pairs_of_all Goes block among) apart)

-- ---- at other addresses

module _ (f : Named → Named) (same : (m : Named) → (f m).role ≡ m.role) where
  -- two have one address exactly if they had one
  abbrev Meet : Named → Named → Type 0
  Meet e l = ((f e).address ≡ (f l).address) ↔ (e.address ≡ l.address)

  goes : (e l : Named) → Meet e l → Goes e l ↔ Goes (f e) (f l)
  goes e l meet =
      let roles = ap₂ may_follow (same e) (same l) in
      (λ h is. roles ∙ h (meet.0 is), λ h is. sym roles ∙ h (meet.1 is))

  each_there : (e : Named) (ls : List Named) → EachIs (Meet e) ls → EachIs (Goes e) ls → EachIs (Goes (f e)) (map f ls)
  each_there e [] meet h = tt
  each_there e (l ∷ ls) meet h = ((goes e l meet.0).0 h.0, each_there e ls meet.1 h.1)

  each_here : (e : Named) (ls : List Named) → EachIs (Meet e) ls → EachIs (Goes (f e)) (map f ls) → EachIs (Goes e) ls
  each_here e [] meet h = tt
  each_here e (l ∷ ls) meet h = ((goes e l meet.0).1 h.0, each_here e ls meet.1 h.1)

  pairs_there : (ms : List Named) → PairsAre Meet ms → PairsAre Goes ms → PairsAre Goes (map f ms)
  pairs_there [] meet h = tt
  pairs_there (m ∷ ms) meet h = (each_there m ms meet.0 h.0, pairs_there ms meet.1 h.1)

  pairs_here : (ms : List Named) → PairsAre Meet ms → PairsAre Goes (map f ms) → PairsAre Goes ms
  pairs_here [] meet h = tt
  pairs_here (m ∷ ms) meet h = (each_here m ms meet.0 h.0, pairs_here ms meet.1 h.1)

pub moved_keep_rules : MovedKeepRules
moved_keep_rules f ms same meet =
    let pairs = pairs_of_all (Meet f same) ms meet in (
      λ keeps. all_of_pairs Goes (map f ms) (pairs_there f same ms pairs (pairs_of_all Goes ms keeps)),
      λ keeps. all_of_pairs Goes ms (pairs_here f same ms pairs (pairs_of_all Goes (map f ms) keeps)),
    )

-- ---- a value elsewhere

cancel : (p a b : Address) → p ++ a ≡ p ++ b → a ≡ b
cancel [] a b is = is
cancel (s ∷ p) a b is = let rest : p ++ a ≡ p ++ b = cc in cancel p a b rest

-- what is above is not there itself
above_apart : (p a : Address) → IsAbove p a → ¬ (a ≡ p)
above_apart [] a (t, r, is) e = cc
above_apart (s ∷ p) [] (t, r, is) e = cc
above_apart (s ∷ p) (u ∷ a) (t, r, is) e = let tail : a ≡ p ++ t ∷ r = cc in let same : a ≡ p = cc in above_apart p a (t, r, tail) same

pub value_keeps_rules : ValueKeepsRules
value_keeps_rules line role p v keeps =
    let within = inside 0 [] v in
    let there : inside line p v ≡ map (shifted line p) within = ap (λ a. inside line a v) (sym (append-nil p)) ∙ inside_moves line 0 v p [] in
    let pairs = pairs_of_all Goes (value_facts v) keeps in
    all_of_pairs Goes (value_named line role p v ∷ inside line p v) (
      each_weaker (λ x. IsAbove p x.address) (Goes (value_named line role p v)) (λ x above same. absurd (above_apart p x.address above (sym same))) (inside line p v) (inside_is_below line v p),
      subst (PairsAre Goes) (sym there) (shifted_pairs within pairs.1),
    )
  where
    each_shifted : (x : Named) (ys : List Named) → EachIs (Goes x) ys → EachIs (Goes (shifted line p x)) (map (shifted line p) ys)
    each_shifted x [] h = tt
    each_shifted x (y ∷ ys) h = ((λ same. h.0 (cancel p x.address y.address same)), each_shifted x ys h.1)

    shifted_pairs : (xs : List Named) → PairsAre Goes xs → PairsAre Goes (map (shifted line p) xs)
    shifted_pairs [] h = tt
    shifted_pairs (x ∷ xs) h = (each_shifted x xs h.0, shifted_pairs xs h.1)
