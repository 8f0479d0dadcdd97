use Rattle.std.proofs.Common.{◌≡◌, ◌+◌, ◌∙◌, ◌∷◌, ap, sym, map, length, refl}
use Rattle.toml_tree.specs.View.{gap, gap_line}
use Rattle.toml_layout.proofs.GapSpelled.{lines_taken_apart}
use Rattle.toml_layout.proofs.OpenedGap.{first_is, gap_slice}
use Rattle.toml_layout.specs.Parts.{lines_apart}
use Rattle.toml_layout.proofs.opening.Opener.kept_lines.Goals as goal

pub returns : goal.returns
returns c (form, lies) =
    let g = gap c.args.gap.now in
    let first = c.in_ok-first.first.now in
    let (rest, is) = first_is first c.lines.result.now c.in_ok-first.ensures.value in
    let lines : g.lines ≡ gap_line first ∷ map gap_line rest = sym c.lines.ensures ∙ ap (map gap_line) is in
    let end : c.span.result.end ≡ g.ws.start + length g.ws.text = c.span.ensures.end ∙ ap (λ p. p.start + length p.text) c.ws.ensures in
    let text = c.slice.ensures ∙ gap_slice _ g (gap_line first) (map gap_line rest) _ _ lines refl end lies in
    ap lines_apart text ∙ lines_taken_apart g (gap_line first) (map gap_line rest) lines form
