use Rattle.std.proofs.Common.{◌≡◌, ◌-◌, ℕ, ap, subst, arith, ◌∙◌}
use Rattle.std.specs.Prelude.{string_bytes, unwrap_or}
use Rattle.toml_explain.specs.Documents.{AreSpansAt}
use Rattle.toml_explain.proofs.Opened.{opens_at_offence, opens_in_line}
use Rattle.toml_explain.proofs.ShownLines.{shows_clash}
use Rattle.toml_explain.proofs.redefined.explain_redefined.Goals as goal

pub returns-clause-line : goal.returns-clause-line
returns-clause-line c =
    let file = c.args.file in
    let number : c.saturating_sub.result ≡ c.args.line - 1 = omega arith in
    let are = subst (λ (n : ℕ). AreSpansAt c.args.profile file.bytes.now n c.in_ok-spans.spans) number c.in_ok-spans.ensures in
    opens_in_line string_bytes c.args.profile file.word.now file.bytes.now (c.args.line - 1) c.in_ok-spans.spans are c.unwrap_or-again.result c.held-at.result c.opened.result c.held-at.ensures c.opened.ensures.position

pub returns-clause-offence : goal.returns-clause-offence
returns-clause-offence c =
    let file = c.args.file in
    let number : c.saturating_sub.result ≡ c.args.line - 1 = omega arith in
    let are = subst (λ (n : ℕ). AreSpansAt c.args.profile file.bytes.now n c.in_ok-spans.spans) number c.in_ok-spans.ensures in
    opens_at_offence string_bytes c.args.profile file.word.now file.bytes.now (c.args.line - 1) c.in_ok-spans.spans are c.again_start.result c.unwrap_or-again.result c.held-at.result
    (λ p h. c.again_start.ensures ∙ c.in_ok-redefined.ensures.offence (c.args.line - 1) p h) (λ n h. c.unwrap_or-again.ensures ∙ ap (λ o. unwrap_or o c.in_ok-spans.spans.key.start) h) c.opened.result c.held-at.ensures c.opened.ensures.position

pub returns-clause-clash : goal.returns-clause-clash
returns-clause-clash c =
    shows_clash string_bytes c.args.profile c.args.file.bytes.now (c.args.line - 1) c.in_ok-redefined.redefined c.in_ok-redefined.ensures.both
    (string_bytes c.in_ok-lines.lines) c.as_str.result.now c.as_str.ensures.value c.in_ok-lines.ensures c.opened.result c.opened.ensures.behind
