use Rattle.std.proofs.Common.{List, ℕ, Option, drop, subst}
use Rattle.memchr.specs.Find.{IsFirstByte, is_byte}
use Rattle.toml_text.proofs.LineEnds.{ends_at_lf, ends_with_text, rest}
use Rattle.toml_text.proofs.lines.line_end.Goals as goal

pub returns-in-Some : goal.returns-in-Some
returns-in-Some c =
    let bytes = c.args.bytes.now in
    let found = subst (λ (l : List ℕ). IsFirstByte (is_byte 0x0A) l c.memchr.result) (rest bytes c.args.at c.requires) c.memchr.ensures in
    ends_at_lf bytes c.args.at c.requires c.in-Some.len _ (subst (λ (r : Option ℕ). IsFirstByte (is_byte 0x0A) (drop c.args.at bytes) r) c.in-Some.is found) c.newline_begin.ensures

pub returns-in-None : goal.returns-in-None
returns-in-None c =
    let bytes = c.args.bytes.now in
    let found = subst (λ (l : List ℕ). IsFirstByte (is_byte 0x0A) l c.memchr.result) (rest bytes c.args.at c.requires) c.memchr.ensures in
    ends_with_text bytes c.args.at c.requires (subst (λ (r : Option ℕ). IsFirstByte (is_byte 0x0A) (drop c.args.at bytes) r) c.in-None.is found)
