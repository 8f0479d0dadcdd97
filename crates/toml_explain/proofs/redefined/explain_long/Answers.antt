use Rattle.std.proofs.Common.{◌≡◌, ◌-◌, ℕ, subst, arith}
use Rattle.std.specs.Prelude.{string_bytes}
use Rattle.toml_explain.specs.Documents.{AreSpansAt}
use Rattle.toml_explain.proofs.Opened.{opens_at_key, shows_key}
use Rattle.toml_explain.proofs.ShownLines.{line_behind}
use Rattle.toml_explain.proofs.redefined.explain_long.Goals as goal

pub returns-clause-key : goal.returns-clause-key
returns-clause-key c =
    let file = c.args.file in
    let number : c.saturating_sub.result ≡ c.args.line - 1 = omega arith in
    let are = subst (λ (n : ℕ). AreSpansAt c.args.profile file.bytes.now n c.in_ok-spans.spans) number c.in_ok-spans.ensures in
    opens_at_key string_bytes c.args.profile file.word.now file.bytes.now (c.args.line - 1) c.in_ok-spans.spans are c.opened.result c.opened.ensures.position

pub returns-clause-below : goal.returns-clause-below
returns-clause-below c =
    let bytes = c.args.file.bytes.now in
    let number : c.saturating_sub.result ≡ c.args.line - 1 = omega arith in
    let are = subst (λ (n : ℕ). AreSpansAt c.args.profile bytes n c.in_ok-spans.spans) number c.in_ok-spans.ensures in
    shows_key string_bytes c.args.profile bytes (c.args.line - 1) c.in_ok-spans.spans are c.opened.result
    (line_behind string_bytes bytes c.in_ok-spans.spans.key.start (string_bytes c.in_ok-lines.lines) c.as_str.result.now c.as_str.ensures.value c.in_ok-lines.ensures c.opened.result c.opened.ensures.behind)
