use Rattle.std.proofs.Common.{ap, drop, ◌∙◌}
use Rattle.std.proofs.lemmas.List.{take_rest}
use Rattle.toml_scalar.specs.StringRuns.{first_len}
use Rattle.toml_scalar.proofs.StringWholes.{start_bound, end_bound, content_is}
use Rattle.toml_scalar.proofs.strings.value.content.Goals as goal

pub range-requires-clause-start_boundary : goal.range-requires-clause-start_boundary
range-requires-clause-start_boundary c some =
    start_bound c.args.kind c.args.text.now c.requires.1.0 c.requires.1.1 c.requires.1.2 c.requires.1.3 c.marks_len-marks.result c.first_len.result c.marks_len-marks.ensures
    (c.first_len.ensures.value ∙ ap (first_len c.args.kind) (take_rest c.as_bytes.result.now c.marks_len-marks.result ∙ ap (drop c.marks_len-marks.result) c.as_bytes.ensures.value))
    c.utf8.text

pub range-requires-clause-end_boundary : goal.range-requires-clause-end_boundary
range-requires-clause-end_boundary c = end_bound c.args.kind c.args.text.now c.requires.1.0 c.requires.1.1 c.requires.1.2 c.requires.1.3 c.marks_len-marks.result c.marks_len-marks.ensures

pub returns : goal.returns
returns c first ps h is =
    c.range.ensures.value
    ∙ content_is c.args.kind c.args.text.now first ps h is c.marks_len-marks.result c.first_len.result c.marks_len-marks.ensures
    (c.first_len.ensures.value ∙ ap (first_len c.args.kind) (take_rest c.as_bytes.result.now c.marks_len-marks.result ∙ ap (drop c.marks_len-marks.result) c.as_bytes.ensures.value))
