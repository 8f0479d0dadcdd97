use Rattle.std.proofs.Common.{◌∙◌, ◌++◌, ◌∷◌, [], ap, append_assoc, refl, subst}
use Rattle.std.proofs.lemmas.Bool.{false≢true}
use Rattle.toml_layout.specs.OpenOutlines.{leaf_text}
use Rattle.toml_layout.specs.Parts.{AreParts}
use Rattle.toml_layout.proofs.TextParts.{cut_all, cut_on}
use Rattle.toml_layout.proofs.tree.Gap.add_lines.Goals as goal

pub loop-rest-preserved : goal.loop-rest-preserved
loop-rest-preserved c =
    let (own, own_is, so_far) = c.loop-rest.invariant in (
      own ++ c.first_part.result.0 ∷ [],
      c.in_ok-push.ensures.items ∙ ap (λ t. t ++ c.first_part.result.0 ∷ []) own_is ∙ append_assoc _ own (c.first_part.result.0 ∷ []),
      λ qs rest. cut_on (leaf_text c.args.lines) (leaf_text c.loop-rest.rest) own c.first_part.result.0
          (λ none. false≢true (c.loop-rest-test.ensures.1 none)) c.first_part.ensures.front so_far qs (subst (λ t. AreParts t qs) c.first_part.ensures.behind rest),
    )

pub returns : goal.returns
returns c =
    let (own, own_is, so_far) = c.loop-rest.invariant in
    (own, cut_all (leaf_text c.args.lines) (leaf_text c.loop-rest.rest) own (c.loop-rest-test.ensures.0 refl) so_far, own_is)
