use Rattle.std.proofs.Common.{Some}
use Rattle.toml_layout.proofs.gaps.margin_alone.Goals as goal

pub returns-in-Some : goal.returns-in-Some
returns-in-Some c = record { comment = Some c.in-Some.indent.now; found = c.in-Some.ensures; is = c.in_ok-margin.ensures }
