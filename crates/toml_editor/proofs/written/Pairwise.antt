-- What holds of every two, and of some, by recursion.
use Rattle.std.proofs.Common.{◌≡◌, zero, suc, true, false, ◌⊎◌, inl, inr, List, [], ◌∷◌, ◌++◌, All, Any, AllPairs, map, refl, sym, subst, arith}
use Rattle.std.specs.Prelude.{flat_map}
use Rattle.std.proofs.lemmas.List.Elements.{All-head, All-tail, All-nil, All-cons}
use Rattle.toml_tree.specs.Spells.{EachIs}
use Rattle.toml_names.specs.mentions.Joining.{is_lone}
use Rattle.toml_names.specs.mentions.Mentions.{Named}
use Rattle.toml_names.specs.mentions.Rules.{may_follow}
use Rattle.toml_editor.proofs.Each.{each_append, each_front, each_back, each_weaker}

abbrev pub PairsAre : {A : Type 0} → (A → A → Type 0) → List A → Type 0
PairsAre R [] = Unit {0}
PairsAre R (x ∷ xs) = EachIs (R x) xs × PairsAre R xs

-- two mentions that keep the table rules; and two of which neither is a value, if they are at one address
abbrev pub Goes : Named → Named → Type 0
Goes e l = e.address ≡ l.address → may_follow e.role l.role ≡ true

abbrev pub Alone : Named → Named → Type 0
Alone e l = e.address ≡ l.address → (is_lone e.role ≡ false) × (is_lone l.role ≡ false)

pub each_of_all : {A : Type 0} (P : A → Type 0) (xs : List A) → All P xs → EachIs P xs
each_of_all P [] h = tt
each_of_all P (x ∷ xs) h = (All-head P x xs h, each_of_all P xs (All-tail P x xs h))

pub all_of_each : {A : Type 0} (P : A → Type 0) (xs : List A) → EachIs P xs → All P xs
all_of_each P [] h = All-nil P
all_of_each P (x ∷ xs) h = All-cons P x xs h.0 (all_of_each P xs h.1)

pub pairs_of_all : {A : Type 0} (R : A → A → Type 0) (xs : List A) → AllPairs R xs → PairsAre R xs
pairs_of_all R [] h = tt
pairs_of_all R (x ∷ xs) h = (
  each_of_all (R x) xs (λ k d low. h zero (suc k) d (omega arith) (omega (arith, low))),
  pairs_of_all R xs (λ i j d low high. h (suc i) (suc j) d (omega (arith, low)) (omega (arith, high))),
)

pub all_of_pairs : {A : Type 0} (R : A → A → Type 0) (xs : List A) → PairsAre R xs → AllPairs R xs
all_of_pairs R [] h i j d low high = absurd (omega (arith, high))
all_of_pairs R (x ∷ xs) h zero zero d low high = absurd (omega (arith, low))
all_of_pairs R (x ∷ xs) h (suc i) zero d low high = absurd (omega (arith, low))
all_of_pairs R (x ∷ xs) h zero (suc j) d low high = all_of_each (R x) xs h.0 j d (omega (arith, high))
all_of_pairs R (x ∷ xs) h (suc i) (suc j) d low high = all_of_pairs R xs h.1 i j d (omega (arith, low)) (omega (arith, high))

pub pairs_append : {A : Type 0} (R : A → A → Type 0) (xs ys : List A) → PairsAre R xs → PairsAre R ys → EachIs (λ x. EachIs (R x) ys) xs → PairsAre R (xs ++ ys)
pairs_append R [] ys h k c = k
pairs_append R (x ∷ xs) ys h k c = (each_append (R x) xs ys h.0 c.0, pairs_append R xs ys h.1 k c.1)

pub pairs_front : {A : Type 0} (R : A → A → Type 0) (xs ys : List A) → PairsAre R (xs ++ ys) → PairsAre R xs
pairs_front R [] ys h = tt
pairs_front R (x ∷ xs) ys h = (each_front (R x) xs ys h.0, pairs_front R xs ys h.1)

pub pairs_back : {A : Type 0} (R : A → A → Type 0) (xs ys : List A) → PairsAre R (xs ++ ys) → PairsAre R ys
pairs_back R [] ys h = h
pairs_back R (x ∷ xs) ys h = pairs_back R xs ys h.1

pub pairs_between : {A : Type 0} (R : A → A → Type 0) (xs ys : List A) → PairsAre R (xs ++ ys) → EachIs (λ x. EachIs (R x) ys) xs
pairs_between R [] ys h = tt
pairs_between R (x ∷ xs) ys h = (each_back (R x) xs ys h.0, pairs_between R xs ys h.1)

pub each_flat : {A B : Type 0} (P : B → Type 0) (f : A → List B) (xs : List A) → EachIs (λ x. EachIs P (f x)) xs → EachIs P (flat_map f xs)
each_flat P f [] h = tt
each_flat P f (x ∷ xs) h = each_append P (f x) (flat_map f xs) h.0 (each_flat P f xs h.1)

flat_each : {A B : Type 0} (R : B → B → Type 0) (f : A → List B) (ls : List A) (xs : List B) → EachIs (λ l. EachIs (λ x. EachIs (R x) (f l)) xs) ls → EachIs (λ x. EachIs (R x) (flat_map f ls)) xs
flat_each R f ls [] h = tt
flat_each R f ls (x ∷ xs) h = (each_flat (R x) f ls (firsts ls h), flat_each R f ls xs (others ls h))
  where
    firsts : (ls : List _) → EachIs (λ l. EachIs (λ x. EachIs (R x) (f l)) (x ∷ xs)) ls → EachIs (λ l. EachIs (R x) (f l)) ls
    firsts [] h = tt
    firsts (l ∷ ls) h = (h.0.0, firsts ls h.1)

    others : (ls : List _) → EachIs (λ l. EachIs (λ x. EachIs (R x) (f l)) (x ∷ xs)) ls → EachIs (λ l. EachIs (λ x. EachIs (R x) (f l)) xs) ls
    others [] h = tt
    others (l ∷ ls) h = (h.0.1, others ls h.1)

-- every two that several give, where every two of which they are given go with each other
pub pairs_flat : {A B : Type 0} (R : B → B → Type 0) (f : A → List B) (ms : List A) → EachIs (λ m. PairsAre R (f m)) ms → PairsAre (λ e l. EachIs (λ x. EachIs (R x) (f l)) (f e)) ms → PairsAre R (flat_map f ms)
pairs_flat R f [] h k = tt
pairs_flat R f (m ∷ ms) h k = pairs_append R (f m) (flat_map f ms) h.0 (pairs_flat R f ms h.1 k.1) (flat_each R f ms (f m) k.0)

pub pairs_map : {A B : Type 0} (R : A → A → Type 0) (S : B → B → Type 0) (f : A → B) → ((x y : A) → R x y → S (f x) (f y)) → (xs : List A) → PairsAre R xs → PairsAre S (map f xs)
pairs_map R S f w [] h = tt
pairs_map R S f w (x ∷ xs) h = (each xs h.0, pairs_map R S f w xs h.1)
  where
    each : (ys : List _) → EachIs (R x) ys → EachIs (S (f x)) (map f ys)
    each [] k = tt
    each (y ∷ ys) k = (w x y k.0, each ys k.1)

-- two relations at once, and something of each
pub pairs_with : {A : Type 0} (P : A → Type 0) (R S T : A → A → Type 0) → ((e l : A) → P e → P l → R e l → S e l → T e l) → (ms : List A) → EachIs P ms → PairsAre R ms → PairsAre S ms → PairsAre T ms
pairs_with P R S T w [] p r s = tt
pairs_with P R S T w (m ∷ ms) p r s = (each_with ms p.1 r.0 s.0, pairs_with P R S T w ms p.1 r.1 s.1)
  where
    each_with : (ls : List _) → EachIs P ls → EachIs (R m) ls → EachIs (S m) ls → EachIs (T m) ls
    each_with [] p' r' s' = tt
    each_with (l ∷ ls) p' r' s' = (w m l p.0 p'.0 r'.0 s'.0, each_with ls p'.1 r'.1 s'.1)

-- ---- some

abbrev pub Has : {A : Type 0} → (A → Type 0) → List A → Type 0
Has P [] = ⊥
Has P (x ∷ xs) = P x ⊎ Has P xs

pub has_of_any : {A : Type 0} (P : A → Type 0) (xs : List A) → Any P xs → Has P xs
has_of_any P [] (k, x, low, is, p) = absurd (omega (arith, low))
has_of_any P (y ∷ ys) (zero, x, low, is, p) = inl (subst P (sym is) p)
has_of_any P (y ∷ ys) (suc k, x, low, is, p) = inr (has_of_any P ys (k, x, omega (arith, low), is, p))

pub any_of_has : {A : Type 0} (P : A → Type 0) (xs : List A) → Has P xs → Any P xs
any_of_has P [] h = absurd h
any_of_has P (y ∷ ys) (inl p) = (zero, y, omega arith, refl, p)
any_of_has P (y ∷ ys) (inr h) = later (any_of_has P ys h)
  where
    later : Any P ys → Any P (y ∷ ys)
    later (k, x, low, is, p) = (suc k, x, omega (arith, low), is, p)

pub has_append_left : {A : Type 0} (P : A → Type 0) (xs ys : List A) → Has P xs → Has P (xs ++ ys)
has_append_left P [] ys h = absurd h
has_append_left P (x ∷ xs) ys (inl p) = inl p
has_append_left P (x ∷ xs) ys (inr h) = inr (has_append_left P xs ys h)

pub has_append_right : {A : Type 0} (P : A → Type 0) (xs ys : List A) → Has P ys → Has P (xs ++ ys)
has_append_right P [] ys h = h
has_append_right P (x ∷ xs) ys h = inr (has_append_right P xs ys h)

pub has_parts : {A : Type 0} (P : A → Type 0) (xs ys : List A) → Has P (xs ++ ys) → Has P xs ⊎ Has P ys
has_parts P [] ys h = inr h
has_parts P (x ∷ xs) ys (inl p) = inl (inl p)
has_parts P (x ∷ xs) ys (inr h) = elim (has_parts P xs ys h) [ inl k ↦ inl (inr k) | inr k ↦ inr k ]

pub has_flat : {A B : Type 0} (P : B → Type 0) (f : A → List B) (xs : List A) → Has (λ x. Has P (f x)) xs → Has P (flat_map f xs)
has_flat P f [] h = h
has_flat P f (x ∷ xs) (inl h) = has_append_left P (f x) (flat_map f xs) h
has_flat P f (x ∷ xs) (inr h) = has_append_right P (f x) (flat_map f xs) (has_flat P f xs h)

pub flat_has : {A B : Type 0} (P : B → Type 0) (f : A → List B) (xs : List A) → Has P (flat_map f xs) → Has (λ x. Has P (f x)) xs
flat_has P f [] h = h
flat_has P f (x ∷ xs) h = elim (has_parts P (f x) (flat_map f xs) h) [ inl k ↦ inl k | inr k ↦ inr (flat_has P f xs k) ]

-- one of them, of which all holds
pub has_each : {A : Type 0} (P Q R : A → Type 0) → ((x : A) → P x → Q x → R x) → (xs : List A) → EachIs P xs → Has Q xs → Has R xs
has_each P Q R w [] p h = h
has_each P Q R w (x ∷ xs) p (inl q) = inl (w x p.0 q)
has_each P Q R w (x ∷ xs) p (inr h) = inr (has_each P Q R w xs p.1 h)

pub from_has : {A : Type 0} (P Q : A → Type 0) (C : Type 0) → ((x : A) → P x → Q x → C) → (xs : List A) → EachIs P xs → Has Q xs → C
from_has P Q C w [] p h = absurd h
from_has P Q C w (x ∷ xs) p (inl q) = w x p.0 q
from_has P Q C w (x ∷ xs) p (inr h) = from_has P Q C w xs p.1 h

-- where every two are alone, and one is so, all are so that meet it
pub all_as_one : {A : Type 0} (Q S : A → Type 0) (R : A → A → Type 0) → ((e l : A) → Q e → Q l → S e ⊎ S l → R e l → ⊥) → (xs : List A) → PairsAre R xs → Has (λ x. Q x × S x) xs → EachIs (λ x. Q x → S x) xs
all_as_one Q S R w [] r h = tt
all_as_one Q S R w (x ∷ xs) r (inl q) = ((λ here. q.1), rest xs r.0)
  where
    rest : (ls : List _) → EachIs (R x) ls → EachIs (λ l. Q l → S l) ls
    rest [] k = tt
    rest (l ∷ ls) k = ((λ there. absurd (w x l q.0 there (inl q.1) k.0)), rest ls k.1)
all_as_one Q S R w (x ∷ xs) r (inr h) =
    ((λ here. absurd (from_has (R x) (λ y. Q y × S y) ⊥ (λ y k q. w x y here q.0 (inr q.1) k) xs r.0 h)), all_as_one Q S R w xs r.1 h)

pub members_self : {A : Type 0} (xs : List A) → EachIs (λ x. Has (λ y. y ≡ x) xs) xs
members_self [] = tt
members_self (x ∷ xs) = (inl refl, each_weaker (λ z. Has (λ y. y ≡ z) xs) (λ z. Has (λ y. y ≡ z) (x ∷ xs)) (λ z h. inr h) xs (members_self xs))

pub has_map : {A B : Type 0} (P : B → Type 0) (f : A → B) (xs : List A) → Has (λ x. P (f x)) xs → Has P (map f xs)
has_map P f [] h = absurd h
has_map P f (x ∷ xs) (inl p) = inl p
has_map P f (x ∷ xs) (inr h) = inr (has_map P f xs h)

pub map_has : {A B : Type 0} (P : B → Type 0) (f : A → B) (xs : List A) → Has P (map f xs) → Has (λ x. P (f x)) xs
map_has P f [] h = absurd h
map_has P f (x ∷ xs) (inl p) = inl p
map_has P f (x ∷ xs) (inr h) = inr (map_has P f xs h)

pub has_weaker : {A : Type 0} (P Q : A → Type 0) → ((x : A) → P x → Q x) → (xs : List A) → Has P xs → Has Q xs
has_weaker P Q w [] h = absurd h
has_weaker P Q w (x ∷ xs) (inl p) = inl (w x p)
has_weaker P Q w (x ∷ xs) (inr h) = inr (has_weaker P Q w xs h)

-- one of them, taken out
pub taken : {A : Type 0} (Q : A → Type 0) (C : Type 0) (xs : List A) → ((x : A) → Has (λ y. y ≡ x) xs → Q x → C) → Has Q xs → C
taken Q C xs w h = from_has (λ x. Has (λ y. y ≡ x) xs) Q C w xs (members_self xs) h
