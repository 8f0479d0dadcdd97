use Rattle.std.specs.Prelude.{string_bytes}
use Rattle.toml_explain.proofs.ShownLines.{line_behind, same_line}
use Rattle.toml_explain.proofs.document.explain_byte.Goals as goal

pub returns-clause-below : goal.returns-clause-below
returns-clause-below c =
    let bytes = c.args.file.bytes.now in
    line_behind string_bytes bytes c.args.place (string_bytes c.in_ok-lines.lines) c.as_str.result.now c.as_str.ensures.value
    (same_line bytes c.args.place c.min-at.result c.min-at.ensures (string_bytes c.in_ok-lines.lines) c.in_ok-lines.ensures) c.opened.result c.opened.ensures.behind
