use Rattle.std.proofs.Common.{◌∙◌, sym}
use Rattle.toml_layout.specs.Gaps.{around}
use Rattle.toml_layout.proofs.LeftParts.{own_line}
use Rattle.toml_layout.proofs.leaving.Around.own_left.Goals as goal

pub returns : goal.returns
returns c =
    c.in_ok-own-3.ensures
    ∙ own_line (around c.args.self) c.in-Some.lines.now c.in-Some.field-0-1.now (sym c.ends_container.ensures ∙ c.if-not-ends_container.false) c.in-Some.ensures
