use Rattle.std.proofs.Common.{length, ap, ◌∙◌}
use Rattle.std.specs.Prelude.{decimal, string_bytes}
use Rattle.toml_explain.proofs.ShownLines.{line_below}
use Rattle.toml_explain.proofs.words.with_line.Goals as goal

pub returns : goal.returns
returns c =
    line_below string_bytes c.args.bytes.now c.args.meant.start c.new-excerpt.result c.push_line.new.self c.new-excerpt.ensures.text
    (c.new-excerpt.ensures.width ∙ ap (λ n. length (decimal n)) c.line_number.ensures) c.in_ok-push_line.ensures (string_bytes c.args.sentence) c.with_lines.result c.with_lines.ensures
