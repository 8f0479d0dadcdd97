use Rattle.std.proofs.Common.{ap, ◌∙◌, codes}
use Rattle.std.specs.Prelude.{option_and_then}
use Rattle.clap.specs.Words.{found_of, rows_of}
use Rattle.toml_words.specs.Request.{set, asked_value, is_given, one_of}
use Rattle.toml_words.proofs.asking.set_request.Goals as goal

pub returns : goal.returns
returns c =
    let rows = rows_of (found_of c.args.found.now) in
    c.one_request.ensures
    ∙ ap (λ parents. one_of (set (asked_value c.in_ok-value.value) parents) rows) c.is_given-parents.ensures
    ∙ ap (option_and_then (λ value. one_of (set value (is_given (codes "parents") rows)) rows)) c.in_ok-value.ensures
