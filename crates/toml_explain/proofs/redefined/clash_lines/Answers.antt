use Rattle.std.proofs.Common.{length, sym, ap, ◌∙◌}
use Rattle.std.specs.Prelude.{decimal}
use Rattle.toml_explain.proofs.ShownLines.{both_in_one, both_in_two, other_number, same_number}
use Rattle.toml_explain.proofs.redefined.clash_lines.Goals as goal

pub returns-then-line_number-number : goal.returns-then-line_number-number
returns-then-line_number-number c =
    let number = c.line_number-number.ensures in
    both_in_one c.args.bytes.now c.args.clash.first.span.start c.args.clash.again.span.start c.new-excerpt.result c.push_line.new.self c.push_more.new.self c.new-excerpt.ensures.text
    (c.new-excerpt.ensures.width ∙ ap (λ n. length (decimal n)) number) c.in_ok-push_line.ensures c.in_ok-push_more.ensures
    (same_number _ _ (sym c.line_number.ensures ∙ (c.if-line_number-number.true ∙ number)))

pub returns : goal.returns
returns c =
    let number = c.line_number-number.ensures in
    both_in_two c.args.bytes.now c.args.clash.first.span.start c.args.clash.again.span.start c.new-excerpt.result c.push_line.new.self c.push_line-2.new.self c.new-excerpt.ensures.text
    (c.new-excerpt.ensures.width ∙ ap (λ n. length (decimal n)) number) c.in_ok-push_line.ensures c.in_ok-push_line-2.ensures
    (other_number _ _ (λ e. c.if-line_number-number.false (c.line_number.ensures ∙ (e ∙ sym number))))
