-- Lists that are made of others.
use Rattle.std.proofs.Common.{List, [], ◌∷◌, ◌++◌, sym, ap, ◌∙◌, subst, append_assoc}
use Rattle.toml_editor.specs.ChangedUnits.{AreMadeOf}

pub made_append : {A B : Type 0} (R : A → List B → Type 0) (us vs : List A) (ws xs : List B) → AreMadeOf R us ws → AreMadeOf R vs xs → AreMadeOf R (us ++ vs) (ws ++ xs)
made_append R [] vs ws xs is more = subst (λ l. AreMadeOf R vs (l ++ xs)) (sym is) more
made_append R (u ∷ us) vs ws xs (here, rest, r, is, others) more =
    (here, rest ++ xs, r, ap (λ l. l ++ xs) is ∙ append_assoc here rest xs, made_append R us vs rest xs others more)
