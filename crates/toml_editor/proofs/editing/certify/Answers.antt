use Rattle.std.proofs.Common.{arith, map, string_bytes, subst}
use Rattle.toml_edits.specs.Edits.{change}
use Rattle.toml_checker.specs.Answers.{IsAnswer}
use Rattle.toml_checker.specs.Findings.{IsCertificate, IsFirstUnmet}
use Rattle.toml_editor.proofs.PlainJudged.{within_limit, no_is_not_plain}
use Rattle.toml_editor.proofs.editing.certify.Goals as goal

pub returns-in-Found-clause-edited : goal.returns-in-Found-clause-edited
returns-in-Found-clause-edited c =
    let cs = map change c.args.edits.now in
    let pairs = c.in-Found.certificate.pairs.items in
    let answer = subst (IsAnswer c.args.profile c.args.before.now cs c.as_bytes-after.result.now) c.in-Found.is c.in_ok-certificate.ensures.answer in
    let found = subst (λ t. IsCertificate c.args.profile c.args.before.now cs t pairs) c.as_bytes-after.ensures.value answer in
    record {
      edited = record {
        certified = found.certified;
        outer = found.outermost;
        plain = c.requires.made.plain;
        passed = c.requires.made.passed;
        last = c.requires.made.last;
      };
      pieces = c.requires.made.pieces;
    }

pub returns-then-len-gt-MAX_LEN-clause-told : goal.returns-then-len-gt-MAX_LEN-clause-told
returns-then-len-gt-MAX_LEN-clause-told c = (
  c.requires.made.are_defined,
  (string_bytes c.args.made.text, record { plain = c.requires.made.plain; last = c.requires.made.last }, omega (arith, c.len.ensures, c.if-len-gt-MAX_LEN.true)),
  c.requires.made.passed,
)

pub returns-in-No-clause-told : goal.returns-in-No-clause-told
returns-in-No-clause-told c =
    let cs = map change c.args.edits.now in
    let before = c.args.before.now in
    let after = string_bytes c.args.made.text in
    let within = within_limit c.args.made.text (omega (arith, c.len.ensures, c.if-len-gt-MAX_LEN.false)) in
    let answer = subst (IsAnswer c.args.profile before cs c.as_bytes-after.result.now) c.in-No.is c.in_ok-certificate.ensures.answer in
    let unmet : IsFirstUnmet c.args.profile before cs after c.in-No.reason =
    subst (λ t. IsFirstUnmet c.args.profile before cs t c.in-No.reason) c.as_bytes-after.ensures.value answer in (
      c.requires.made.are_defined,
      no_is_not_plain c.args.layout c.args.profile before after cs c.requires.made.are_defined.0 within c.requires.made.plain c.in-No.reason unmet,
      c.requires.made.passed,
      (after, within, record { plain = c.requires.made.plain; last = c.requires.made.last }, unmet),
    )

pub returns-in-No-clause-judged : goal.returns-in-No-clause-judged
returns-in-No-clause-judged c =
    let cs = map change c.args.edits.now in
    let answer = subst (IsAnswer c.args.profile c.args.before.now cs c.as_bytes-after.result.now) c.in-No.is c.in_ok-certificate.ensures.answer in
    subst (λ t. IsFirstUnmet c.args.profile c.args.before.now cs t c.in-No.reason) c.as_bytes-after.ensures.value answer

-- where there is no certificate nothing is handed out, so a body that hands out a text is refused at once
pub returns-in-No-clause-edited : goal.returns-in-No-clause-edited
returns-in-No-clause-edited c = tt
