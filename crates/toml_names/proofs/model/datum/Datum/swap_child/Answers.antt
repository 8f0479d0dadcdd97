use Rattle.toml_names.proofs.Common.{arith, ◌≡◌, ◌∷◌, None, [], IsSome, subst, Step, Datum, kind_at, rules}
use Rattle.toml_names.proofs.lemmas.model.Changes.{array-set, table-set, array-within, table-has, array-past, table-lacks, array-alike, table-alike}
use Rattle.toml_names.proofs.lemmas.model.Levels.{array-item, table-member}
use Rattle.toml_names.proofs.model.datum.Datum.swap_child.Goals as goal

-- what stands one step below, or does not, said of what the match found
there : {d e : Datum} {s t : Step} → d ≡ e → s ≡ t → IsSome (kind_at d (s ∷ [])) → IsSome (kind_at e (t ∷ []))
there {e = e} {s = s} of step some = subst (λ t. IsSome (kind_at e (t ∷ []))) step (subst (λ d. IsSome (kind_at d (s ∷ []))) of some)

none_there : {d e : Datum} {s t : Step} → d ≡ e → s ≡ t → kind_at d (s ∷ []) ≡ None → kind_at e (t ∷ []) ≡ None
none_there {e = e} {s = s} of step none = subst (λ t. kind_at e (t ∷ []) ≡ None) step (subst (λ d. kind_at d (s ∷ []) ≡ None) of none)

pub returns-in-Index-Array-clause-before : goal.returns-in-Index-Array-clause-before
returns-in-Index-Array-clause-before c = search (rules, array-within, there, array-item)

pub returns-in-Index-Array-clause-after : goal.returns-in-Index-Array-clause-after
returns-in-Index-Array-clause-after c = λ some at.
    let low = array-within c.in-Index-Array.items c.in-Index-Array.index (there c.in-Index-Array.is-1 c.in-Index-Array.is-0 some) in
    rw (c.in-Index-Array.is-1, c.in-Index-Array.is-0) (array-set c.in-Index-Array.items _ _ _ (c.swap_item-before.ensures.after (omega (arith, low, c.in-Index-Array.items.ok))) low at)

pub returns-in-Index-Array-clause-none : goal.returns-in-Index-Array-clause-none
returns-in-Index-Array-clause-none c = search (rules, array-past, none_there, array-alike)

pub returns-in-Name-Table-clause-before : goal.returns-in-Name-Table-clause-before
returns-in-Name-Table-clause-before c = search (rules, table-has, there, table-member)

pub returns-in-Name-Table-clause-after : goal.returns-in-Name-Table-clause-after
returns-in-Name-Table-clause-after c = search (rules, table-has, there, table-set)

pub returns-in-Name-Table-clause-none : goal.returns-in-Name-Table-clause-none
returns-in-Name-Table-clause-none c = search (rules, table-lacks, none_there, table-alike)
