use Rattle.std.proofs.Common.{◌≡◌, ◌==◌, ℕ, List, ap, arith, length, sym, true≢false, ◌∙◌}
use Rattle.toml_units.proofs.Newlines.{cr_lf_is, lf_is}
use Rattle.toml_units.proofs.taken.Newline.of.Goals as goal

pub returns-then-text-eq1 : goal.returns-then-text-eq1
returns-then-text-eq1 c =
    let l = c.args.line.now in
    let same : length c.newline.result.text.now ≡ length l.newline.text.now = ap (λ p. length p.text) c.newline.ensures in
    lf_is l.expr l.newline l.form (omega (arith, c.if-text-eq1.true, same))

pub returns-else-text-eq1 : goal.returns-else-text-eq1
returns-else-text-eq1 c =
    let l = c.args.line.now in
    let text : c.newline.result.text.now ≡ l.newline.text.now = ap (λ p. p.text) c.newline.ensures in
    let same : length c.newline.result.text.now ≡ length l.newline.text.now = ap length text in
    cr_lf_is l.expr l.newline l.form (λ none. true≢false (sym (ap (λ (t : List ℕ). length t == 0) (text ∙ none)) ∙ sym c.is_empty.ensures ∙ c.if-is_empty.false)) (λ one. omega (arith, c.if-text-eq1.false, same, one))
