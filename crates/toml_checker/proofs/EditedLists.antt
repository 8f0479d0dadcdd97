-- Lists of edits that are not empty.
use Rattle.std.proofs.Common.{◌≡◌, ◌==◌, ◌↔◌, Bool, true, false, not, List, [], ◌∷◌, length, map, refl, ap, ◌∙◌, arith}
use Rattle.std.proofs.lemmas.Bool.Decides.{nat_tests}
use Rattle.toml_edits.specs.declared.edit.Edit.{Edit}
use Rattle.toml_edits.specs.Edits.{change}

pub some_edits : (es : List Edit) (b : Bool) → (b ≡ not (length es == 0)) → (b ≡ true) ↔ ¬ (map change es ≡ [])
some_edits [] b h = ((λ e. cc), (λ no_edits. absurd (no_edits refl)))
some_edits (e ∷ es) b h = ((λ t same. cc), (λ some. h ∙ ap not more))
  where
    more : (length (e ∷ es) == 0) ≡ false
    more = grind (arith, nat_tests)

pub no_edits : (es : List Edit) → (length es == 0) ≡ true → map change es ≡ []
no_edits [] h = refl
no_edits (e ∷ es) h = let more : (length (e ∷ es) == 0) ≡ false = grind (arith, nat_tests) in cc
