use Rattle.std.proofs.Common.{arith, sym, ◌∙◌, length, ◌≤◌, Some, None}
use Rattle.toml_scalar.specs.StringRuns.{marks_len}
use Rattle.toml_scalar.proofs.StringScan.{string_len_none, kind_within, code_len}
use Rattle.toml_scalar.proofs.strings.scan.string_len.Goals as goal

pub returns-in_err-kind-clause-value : goal.returns-in_err-kind-clause-value
returns-in_err-kind-clause-value c = c.from_residual.ensures ∙ sym (string_len_none c.args.bytes.now (sym c.in_err-kind.ensures))

pub slice_bounds-rest-count : goal.slice_bounds-rest-count
slice_bounds-rest-count c = let h : marks_len c.in_ok-kind.kind ≤ length c.args.bytes.now = kind_within c.in_ok-kind.kind c.args.bytes.now (sym c.in_ok-kind.ensures) in omega (arith, h, c.marks_len-marks.ensures)

pub slice_bounds-rest-start : goal.slice_bounds-rest-start
slice_bounds-rest-start c = let h : marks_len c.in_ok-kind.kind ≤ length c.args.bytes.now = kind_within c.in_ok-kind.kind c.args.bytes.now (sym c.in_ok-kind.ensures) in omega (arith, h, c.marks_len-marks.ensures)

pub returns-in_err-body-clause-value : goal.returns-in_err-body-clause-value
returns-in_err-body-clause-value c =
    c.from_residual-in_err-body.ensures
    ∙ sym (code_len c.in_ok-kind.kind c.args.bytes.now c.marks_len-marks.result c.first_len-first.result None (sym c.in_ok-kind.ensures) c.marks_len-marks.ensures c.first_len-first.ensures.value c.in_err-body.ensures.value)

pub returns-clause-value : goal.returns-clause-value
returns-clause-value c =
    sym (code_len c.in_ok-kind.kind c.args.bytes.now c.marks_len-marks.result c.first_len-first.result (Some c.in_ok-body.body) (sym c.in_ok-kind.ensures) c.marks_len-marks.ensures c.first_len-first.ensures.value c.in_ok-body.ensures.value)
