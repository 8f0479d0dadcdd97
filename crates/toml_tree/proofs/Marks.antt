-- The mark at the front of a text.
use Rattle.std.proofs.Common.{◌≡◌, ℕ, List, [], ◌∷◌, length, take, refl}
use Rattle.std.specs.Prelude.{true, false, ◌==◌, ◌&&◌, if◌then◌else◌}
use Rattle.toml_tree.specs.Spells.{mark_of}

pub mark_front : (text : List ℕ) → take (length (mark_of text)) text ≡ mark_of text
mark_front [] = refl
mark_front (a ∷ []) = refl
mark_front (a ∷ b ∷ []) = refl
mark_front (a ∷ b ∷ c ∷ bs) = elim (a == 0xEF && b == 0xBB && c == 0xBF) as (λ t. take (length (if t then a ∷ b ∷ c ∷ [] else [])) (a ∷ b ∷ c ∷ bs) ≡ (if t then a ∷ b ∷ c ∷ [] else [])) [ true ↦ refl | false ↦ refl ]
