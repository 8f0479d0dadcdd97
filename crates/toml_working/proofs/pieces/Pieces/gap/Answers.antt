use Rattle.std.proofs.Common.{◌∙◌, ◌++◌, ap, append-nil, arith, sym}
use Rattle.std.proofs.lemmas.List.{drop_all}
use Rattle.toml_layout.proofs.Proved.{gaps_are_spelled}
use Rattle.toml_layout.specs.OpenOutlines.{gap_parts_text}
use Rattle.toml_working.proofs.pieces.Pieces.gap.Goals as goal

pub returns : goal.returns
returns c =
    let items = c.deref-part-items.result.now in
    let out = c.loop-part.self.out in
    let old = c.args.self.now.out in
    let none = drop_all c.loop-part.part-index items (omega (arith, c.loop-part-test.false)) in (
      c.loop-part.invariant.0,
      sym (append-nil out) ∙ ap (λ ps. out ++ gap_parts_text ps) (sym none) ∙ c.loop-part.invariant.1
          ∙ ap (λ ps. old ++ gap_parts_text ps) c.deref-part-items.ensures.value ∙ ap (λ t. old ++ t) (sym (gaps_are_spelled c.args.gap.now.parts.items)),
    )
