use Rattle.std.proofs.Common.{◌≤◌, ◌<◌, ◌+◌, length, ap, arith, string_bytes}
use Rattle.std.proofs.lemmas.Str.{IsCharBoundary-start}
use Rattle.toml_scalar.proofs.StringValues.{rest_start, rest_end, cut_before, pushed, escape_pushed, cut_behind}
use Rattle.toml_scalar.proofs.strings.value.unescape.Goals as goal

pub loop-value-init : goal.loop-value-init
loop-value-init c = record {
  bound = IsCharBoundary-start c.args.content.now c.utf8.content;
  rest = rest_start c.args.content.now (string_bytes c.in_ok-value.value) c.in_ok-value.ensures.bytes;
}

pub range-requires-clause-end_boundary : goal.range-requires-clause-end_boundary
range-requires-clause-end_boundary c = cut_before c.args.content.now c.as_bytes-bytes.result.now c.as_bytes-bytes.ensures.value c.loop-value.from c.verbatim_len.result c.verbatim_len.ensures.run c.loop-value.invariant.bound.0

pub returns-then-at-bytes : goal.returns-then-at-bytes
returns-then-at-bytes c =
    let end : length c.args.content.now ≤ c.loop-value.from + c.verbatim_len.result = omega (arith, ap length c.as_bytes-bytes.ensures.value, c.if-at-bytes.true) in
    rest_end c.args.content.now (string_bytes c.push_str.new.self) (c.loop-value.from + c.verbatim_len.result) end
    (pushed c.args.content.now c.as_bytes-bytes.result.now c.as_bytes-bytes.ensures.value (string_bytes c.loop-value.value) (string_bytes c.push_str.new.self) c.range.result.now c.loop-value.from c.verbatim_len.result c.verbatim_len.ensures.run c.range.ensures.value c.in_ok-push_str.ensures.bytes c.loop-value.invariant.rest)

pub loop-value-preserved : goal.loop-value-preserved
loop-value-preserved c =
    let within : c.loop-value.from + c.verbatim_len.result < length c.args.content.now = omega (arith, ap length c.as_bytes-bytes.ensures.value, c.if-at-bytes.false, c.verbatim_len.ensures.within) in
    record {
      bound = cut_behind c.args.content.now c.as_bytes-bytes.result.now c.as_bytes-bytes.ensures.value c.loop-value.from c.verbatim_len.result c.in_ok-from.field-0 c.utf8.content c.verbatim_len.ensures.run within c.in_ok-from.ensures.within c.in_ok-from.ensures.ascii;
      rest = escape_pushed c.args.content.now c.as_bytes-bytes.result.now c.as_bytes-bytes.ensures.value (string_bytes c.push_str.new.self) (string_bytes c.push_escape.new.value) c.loop-value.from c.verbatim_len.result c.in_ok-from.field-0 c.verbatim_len.ensures.run within c.in_ok-from.ensures.value
          (pushed c.args.content.now c.as_bytes-bytes.result.now c.as_bytes-bytes.ensures.value (string_bytes c.loop-value.value) (string_bytes c.push_str.new.self) c.range.result.now c.loop-value.from c.verbatim_len.result c.verbatim_len.ensures.run c.range.ensures.value c.in_ok-push_str.ensures.bytes c.loop-value.invariant.rest);
    }
