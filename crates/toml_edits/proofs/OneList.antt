-- Bytes are at most one list of edits.
use Rattle.std.proofs.Common.{◌≡◌, ℕ, zero, suc, List, [], ◌∷◌, Option, Some, sym, subst, ◌∙◌}
use Rattle.std.proofs.lemmas.Option.{same_Some, none-some}
use Rattle.serde_json.specs.Data.{Data, array, Items, no_items, item}
use Rattle.toml_edits.specs.EditList.{AreEdits, BadListIsNone, IsFirstBad, IsList, OneEditList}
use Rattle.toml_edits.specs.Edits.{Change}

same_array : (ds es : Items) → ◌≡◌ {A = Option Data} (Some (array ds)) (Some (array es)) → ds ≡ es
same_array ds es e = cc

same_items : (bytes : List ℕ) (ds es : Items) → IsList bytes ds → IsList bytes es → ds ≡ es
same_items bytes ds es first second = same_array ds es (sym first.1 ∙ second.1)

one_of : (ds : Items) (cs es : List Change) → AreEdits ds cs → AreEdits ds es → cs ≡ es
one_of no_items [] [] h k = λ i. []
one_of no_items [] (e ∷ es) h k = absurd k
one_of no_items (c ∷ cs) es h k = absurd h
one_of (item d ds) [] es h k = absurd h
one_of (item d ds) (c ∷ cs) [] h k = absurd k
one_of (item d ds) (c ∷ cs) (e ∷ es) h k =
    let same : c ≡ e = same_Some c e (sym h.0 ∙ k.0) in
    let rest : cs ≡ es = one_of ds cs es h.1 k.1 in
    λ i. same i ∷ rest i

pub one_edit_list : OneEditList
one_edit_list bytes cs es (ds, list, are) (fs, other, them) = one_of fs cs es (subst (λ (x : Items). AreEdits x cs) (same_items bytes ds fs list other) are) them

bad_of : (ds : Items) (i : ℕ) (cs : List Change) → IsFirstBad ds i → AreEdits ds cs → ⊥
bad_of no_items i cs bad are = bad
bad_of (item d ds) i [] bad are = are
bad_of (item d ds) zero (c ∷ cs) bad are = none-some c (sym bad ∙ are.0)
bad_of (item d ds) (suc i) (c ∷ cs) (e, is, bad) are = bad_of ds i cs bad are.1

pub bad_list_is_none : BadListIsNone
bad_list_is_none bytes ds i cs list bad (es, other, are) = bad_of ds i cs bad (subst (λ (x : Items). AreEdits x cs) (sym (same_items bytes ds es list other)) are)
