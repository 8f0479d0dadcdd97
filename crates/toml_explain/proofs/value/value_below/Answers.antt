use Rattle.std.proofs.Common.{length, ap, ◌∙◌}
use Rattle.std.specs.Prelude.{decimal, string_bytes}
use Rattle.toml_explain.proofs.ShownLines.{line_among}
use Rattle.toml_explain.proofs.value.value_below.Goals as goal

pub returns-clause-line : goal.returns-clause-line
returns-clause-line c =
    let more = c.in_ok-push_value.ensures in
    line_among string_bytes c.args.file.bytes.now c.args.span.start c.new-excerpt.result c.push_line.new.self c.push_value.new.excerpt c.new-excerpt.ensures.text
    (c.new-excerpt.ensures.width ∙ ap (λ n. length (decimal n)) c.line_number.ensures) c.in_ok-push_line.ensures more.0 more.1.text (string_bytes c.args.sentence)
    (string_bytes c.in_ok-lines.lines) c.as_str.result.now c.in_ok-lines.ensures c.as_str.ensures.value c.opened.result c.opened.ensures.behind
