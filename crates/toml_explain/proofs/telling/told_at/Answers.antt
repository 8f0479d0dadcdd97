use Rattle.std.specs.Prelude.{string_bytes}
use Rattle.toml_explain.proofs.Opened.{shows_at}
use Rattle.toml_explain.proofs.ShownLines.{line_behind}
use Rattle.toml_explain.proofs.telling.told_at.Goals as goal

pub returns-in_ok-lines-in-Some : goal.returns-in_ok-lines-in-Some
returns-in_ok-lines-in-Some c =
    let bytes = c.args.file.bytes.now in
    let at = c.in-Some.span.start in
    shows_at string_bytes c.args.file.word.now bytes at c.opened.result c.opened.ensures.position
    (line_behind string_bytes bytes at (string_bytes c.in_ok-lines-in-Some.lines) c.as_str.result.now c.as_str.ensures.value c.in_ok-lines-in-Some.ensures c.opened.result
    c.opened.ensures.behind)
