-- What was entered, one after the other.
use Rattle.toml_names.proofs.Common.{◌≡◌, ℕ, ◌≤◌, List, [], ◌∷◌, ◌++◌, length, Some, None, refl, sym, ap, ◌∙◌, arith, rules, append_assoc, append-nil, Address, Named, IsTree, KeepsAddresses, KeepsElements, KeepsOthers, Enters, Clashes, Spot, misfit}
use Rattle.toml_names.proofs.lemmas.mentions.Offences.{misfit-here, misfit-later, fits-from_misfit}

-- the first misfit, where the first part has none
pub misfit-append : (xs earlier ys : List Named) → misfit earlier xs ≡ None → misfit earlier (xs ++ ys) ≡ misfit (earlier ++ xs) ys
misfit-append [] earlier ys none = ap (λ l. misfit l ys) (sym (append-nil earlier))
misfit-append (x ∷ xs) earlier ys none =
    let good = fits-from_misfit earlier xs x none in
    misfit-later earlier (xs ++ ys) x good
    ∙ misfit-append xs (earlier ++ x ∷ []) ys (sym (misfit-later earlier xs x good) ∙ none)
    ∙ ap (λ l. misfit l ys) (append_assoc earlier (x ∷ []) xs)

-- the first misfit, where the first part has one
pub misfit-front : (xs earlier ys : List Named) (at : Address) → misfit earlier xs ≡ Some at → misfit earlier (xs ++ ys) ≡ Some at
misfit-front [] earlier ys at some = let h : None ≡ Some at = some in cc
misfit-front (x ∷ xs) earlier ys at some = search (rules, misfit-later, misfit-here, misfit-front xs (earlier ++ x ∷ []) ys at)

-- the nodes that were there
pub KeepsAddresses-same : (a : List Spot) → KeepsAddresses a a
KeepsAddresses-same a = record { longer = omega arith; same = λ k low. refl }

pub KeepsAddresses-then : {a b c : List Spot} → KeepsAddresses a b → KeepsAddresses b c → KeepsAddresses a c
KeepsAddresses-then first then = search rules

-- their elements
pub KeepsElements-same : (a : List Spot) → KeepsElements a a
KeepsElements-same a k d low = refl

pub KeepsElements-then : (a b c : List Spot) → length a ≤ length b → KeepsElements a b → KeepsElements b c → KeepsElements a c
KeepsElements-then a b c longer first then k d low = then k d (omega (arith, low, longer)) ∙ first k d low

pub KeepsOthers-same : (id : ℕ) (a : List Spot) → KeepsOthers id a a
KeepsOthers-same id a k d low apart = refl

-- nothing was entered
pub Enters-none : (a : List Spot) → IsTree a → Enters a a []
Enters-none a tree = search rules

-- one part and then another
pub Enters-append : {a b c : List Spot} (xs ys : List Named) → Enters a b xs → Enters b c ys → Enters a c (xs ++ ys)
Enters-append xs ys h1 h2 = search (rules, KeepsAddresses-then, append_assoc, misfit-append)

-- what clashes, behind what was entered and before what was not
pub Clashes-later : {a b : List Spot} (xs ys : List Named) (at : Address) → Enters a b xs → Clashes b ys at → Clashes a (xs ++ ys) at
Clashes-later xs ys at first clash ms stands = misfit-append xs ms ys (first.goes ms stands) ∙ clash (ms ++ xs) (first.stands ms stands)

pub Clashes-front : {a : List Spot} (xs ys : List Named) (at : Address) → Clashes a xs at → Clashes a (xs ++ ys) at
Clashes-front xs ys at clash ms stands = misfit-front xs ms ys at (clash ms stands)
