-- The addresses of members of tables.
use Rattle.std.proofs.Common.{◌≡◌, ℕ, List, [], ◌∷◌, ◌++◌, ap₂, refl}
use Rattle.toml_names.specs.model.Addresses.{Address, IsAbove, child}
use Rattle.toml_checker.specs.CarriedTo.{IsAtOrAbove}

-- it is of one table and one name
pub same_member : (q r : Address) (m n : List ℕ) → child q m ≡ child r n → (q ≡ r) × (m ≡ n)
same_member [] [] m n e = (refl, cc)
same_member [] (t ∷ []) m n e = cc
same_member [] (t ∷ u ∷ r) m n e = cc
same_member (s ∷ []) [] m n e = cc
same_member (s ∷ u ∷ q) [] m n e = cc
same_member (s ∷ q) (t ∷ r) m n e =
    let rest : child q m ≡ child r n = cc in
    let head : s ≡ t = cc in
    let (tables, names) = same_member q r m n rest in
    (ap₂ (λ x y. x ∷ y) head tables, names)

-- what is above a member of a table is the table or above it
pub above_member : (q : Address) (n : List ℕ) (a : Address) → IsAbove a (child q n) → IsAtOrAbove a q
above_member q n [] above = (q, refl)
above_member [] n (t ∷ []) (s, rest, is) = cc
above_member [] n (t ∷ u ∷ a) (s, rest, is) = cc
above_member (r ∷ q) n (t ∷ a) (s, rest, is) =
    let head : r ≡ t = cc in
    let tail : child q n ≡ a ++ s ∷ rest = cc in
    let more = above_member q n a (s, rest, tail) in
    (more.0, ap₂ (λ x y. x ∷ y) head more.1)
