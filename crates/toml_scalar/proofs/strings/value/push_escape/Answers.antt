use Rattle.std.proofs.Common.{arith, string_bytes, ◌≡◌}
use Rattle.toml_scalar.specs.StringRuns.{dropped_len}
use Rattle.toml_scalar.proofs.StringValues.{dropped_unescaped, escape_unescaped, no_escape_unescaped, dropped_ascii, escape_ends_ascii}
use Rattle.toml_scalar.proofs.strings.value.push_escape.Goals as goal

pub returns-then-dropped-gt0-clause-value : goal.returns-then-dropped-gt0-clause-value
returns-then-dropped-gt0-clause-value c = dropped_unescaped c.args.bytes.now (string_bytes c.args.value.now) c.dropped_len-dropped.result c.dropped_len-dropped.ensures.value c.if-dropped-gt0.true

pub returns-then-dropped-gt0-clause-ascii : goal.returns-then-dropped-gt0-clause-ascii
returns-then-dropped-gt0-clause-ascii c = dropped_ascii c.args.bytes.now c.dropped_len-dropped.result c.dropped_len-dropped.ensures.value c.if-dropped-gt0.true

pub returns-in_default-clause-value : goal.returns-in_default-clause-value
returns-in_default-clause-value c =
    let none : dropped_len c.args.bytes.now ≡ 0 = omega (arith, c.dropped_len-dropped.ensures.value, c.if-dropped-gt0.false) in
    no_escape_unescaped c.args.bytes.now (string_bytes c.args.value.now) 0 none c.in_default.ensures.value

pub returns-clause-value : goal.returns-clause-value
returns-clause-value c =
    let none : dropped_len c.args.bytes.now ≡ 0 = omega (arith, c.dropped_len-dropped.ensures.value, c.if-dropped-gt0.false) in
    escape_unescaped c.args.bytes.now (string_bytes c.args.value.now) (string_bytes c.push.new.self) c.in-Some.escaped none c.in-Some.ensures.value c.in_ok-push.ensures.bytes

pub returns-clause-ascii : goal.returns-clause-ascii
returns-clause-ascii c = escape_ends_ascii c.args.bytes.now c.in-Some.escaped c.in-Some.ensures.value
