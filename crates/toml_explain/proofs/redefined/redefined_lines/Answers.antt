use Rattle.std.proofs.Common.{ap, ◌∙◌}
use Rattle.std.specs.Prelude.{string_bytes}
use Rattle.toml_mentions.specs.Redefined.{found_clash}
use Rattle.toml_mentions.specs.Sought.{seen_clash}
use Rattle.toml_explain.proofs.ShownLines.{both_found, nothing_found}
use Rattle.toml_explain.proofs.redefined.redefined_lines.Goals as goal

pub returns-in_default : goal.returns-in_default
returns-in_default c = nothing_found string_bytes c.args.bytes.now c.args.redefined.now c.line_alone.result (ap found_clash c.in_default.is)

pub returns-in_default-clash : goal.returns-in_default-clash
returns-in_default-clash c =
    nothing_found string_bytes c.args.bytes.now c.args.redefined.now c.line_alone-in_default-clash.result (ap found_clash c.in-Some.is ∙ ap seen_clash c.in_default-clash.is)

pub returns : goal.returns
returns c =
    both_found string_bytes c.args.bytes.now c.args.redefined.now c.in-Some.twice c.in-Some-clash.clash (string_bytes c.in_ok-sentence.sentence) (string_bytes c.in_ok-clash_lines.field-0.text)
    c.with_lines.result c.in-Some.is c.in-Some-clash.is c.in_ok-clash_lines.ensures c.with_lines.ensures
