-- Lists whose members go together.
use Rattle.std.proofs.Common.{List, [], ◌∷◌, ◌++◌}
use Rattle.toml_working.specs.Together.{GoTogether}

pub together_append : {A B : Type 0} (R : A → B → Type 0) (xs ys : List A) (us vs : List B) → GoTogether R xs us → GoTogether R ys vs → GoTogether R (xs ++ ys) (us ++ vs)
together_append R [] ys [] vs h k = k
together_append R [] ys (u ∷ us) vs h k = absurd h
together_append R (x ∷ xs) ys [] vs h k = absurd h
together_append R (x ∷ xs) ys (u ∷ us) vs h k = (h.0, together_append R xs ys us vs h.1 k)
