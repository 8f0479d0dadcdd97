use Rattle.toml_layout.proofs.MarginParts.{last_outlined}
use Rattle.toml_layout.proofs.gaps.last_anew.Goals as goal

pub returns : goal.returns
returns c =
    last_outlined c.args.parts.now c.in-Some.field-0-1.now c.in-Some.last.now c.in_ok-gap.gap.parts.items c.anew.result c.in-Some.ensures.cases.0
    c.in_ok-gap.ensures c.anew.ensures
