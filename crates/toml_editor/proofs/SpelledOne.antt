-- The spelling of one edit among those of all.
use Rattle.std.proofs.Common.{◌≡◌, refl, ℕ, zero, suc, ◌<◌, List, [], ◌∷◌, get_or, length, map, Some, ap, subst₂, sym, ◌∙◌}
use Rattle.std.proofs.lemmas.Option.{none-some, same_Some, slice_get-get_or}
use Rattle.std.specs.Prelude.{slice_get}
use Rattle.toml_edits.specs.Edits.{change}
use Rattle.toml_edits.specs.declared.edit.Edit.{Edit}
use Rattle.toml_editor.specs.declared.spelled.Spelled.{Spelled}
use Rattle.toml_editor.specs.SpelledEdits.{AreSpelled, IsSpelled}

at_index : (es : List Edit) (ss : List Spelled) (i : ℕ) (e : Edit) (s : Spelled) → AreSpelled (map change es) ss → slice_get es i ≡ Some e → slice_get ss i ≡ Some s → IsSpelled (change e) s
at_index [] ss i e s all here there = absurd (none-some e here)
at_index (x ∷ es) [] i e s all here there = absurd (none-some s there)
at_index (x ∷ es) (y ∷ ss) zero e s all here there = subst₂ (λ d t. IsSpelled (change d) t) (same_Some x e here) (same_Some y s there) all.0
at_index (x ∷ es) (y ∷ ss) (suc i) e s all here there = at_index es ss i e s all.1 here there

pub one_spelled : (es : List Edit) (ss : List Spelled) (i : ℕ) (e : Edit) (s : Spelled) → AreSpelled (map change es) ss → i < length es → e ≡ get_or es i e
    → i < length ss → s ≡ get_or ss i s → IsSpelled (change e) s
one_spelled es ss i e s all low is low' is' =
    at_index es ss i e s all (slice_get-get_or es i e low ∙ ap Some (sym is)) (slice_get-get_or ss i s low' ∙ ap Some (sym is'))

pub as_many : (es : List Edit) (ss : List Spelled) → AreSpelled (map change es) ss → length ss ≡ length es
as_many [] [] all = refl
as_many [] (s ∷ ss) all = absurd all
as_many (e ∷ es) [] all = absurd all
as_many (e ∷ es) (s ∷ ss) all = ap suc (as_many es ss all.1)
