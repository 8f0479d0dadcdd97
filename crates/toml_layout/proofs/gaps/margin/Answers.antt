use Rattle.std.proofs.Common.{◌∙◌, ◌++◌, ap, sym}
use Rattle.std.proofs.lemmas.List.{map-append}
use Rattle.toml_layout.specs.Margins.{last_of}
use Rattle.toml_layout.specs.PartOutlines.{outlined, part}
use Rattle.toml_layout.proofs.gaps.margin.Goals as goal

pub returns : goal.returns
returns c =
    let indent = c.args.indent.now in
    c.in_ok-add_anew.ensures ∙ ap (λ t. t ++ outlined indent) c.in_ok-margin.ensures ∙ sym (map-append part (last_of c.args.line.now) indent)
