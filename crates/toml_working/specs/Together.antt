-- Lists whose members go together.
use Rattle.std.specs.Prelude.{List, [], ◌∷◌}

-- the lists are as long as each other, and each goes with the one at its place
abbrev pub GoTogether : {A B : Type 0} → (A → B → Type 0) → List A → List B → Type 0
GoTogether R [] [] = Unit {0}
GoTogether R (x ∷ xs) (y ∷ ys) = R x y × GoTogether R xs ys
GoTogether R _ _ = ⊥
