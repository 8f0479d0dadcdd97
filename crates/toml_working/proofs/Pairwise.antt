-- What holds of every two, by recursion.
use Rattle.std.proofs.Common.{zero, suc, List, [], ◌∷◌, All, AllPairs, arith}
use Rattle.std.proofs.lemmas.List.Elements.{All-head, All-tail}
use Rattle.toml_tree.specs.Spells.{EachIs}

abbrev pub PairsAre : {A : Type 0} → (A → A → Type 0) → List A → Type 0
PairsAre R [] = Unit {0}
PairsAre R (x ∷ xs) = EachIs (R x) xs × PairsAre R xs

pub each_of_all : {A : Type 0} (P : A → Type 0) (xs : List A) → All P xs → EachIs P xs
each_of_all P [] h = tt
each_of_all P (x ∷ xs) h = (All-head P x xs h, each_of_all P xs (All-tail P x xs h))

pub pairs_of_all : {A : Type 0} (R : A → A → Type 0) (xs : List A) → AllPairs R xs → PairsAre R xs
pairs_of_all R [] h = tt
pairs_of_all R (x ∷ xs) h = (
  each_of_all (R x) xs (λ k d low. h zero (suc k) d (omega arith) (omega (arith, low))),
  pairs_of_all R xs (λ i j d low high. h (suc i) (suc j) d (omega (arith, low)) (omega (arith, high))),
)
