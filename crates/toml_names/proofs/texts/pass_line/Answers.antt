use Rattle.toml_names.proofs.Common.{err_from_is_err_and, line as tree_line}
use Rattle.toml_tree.specs.HandedOut.{left}
use Rattle.toml_names.proofs.lemmas.reader.Passed.{less_is_left}
use Rattle.toml_names.proofs.texts.pass_line.Goals as goal

pub returns-in_err-_line : goal.returns-in_err-_line
returns-in_err-_line c = λ profile text front h.
    let p = err_from_is_err_and c.from_residual.result c.from_residual.ensures.1 in
    rw (p.1, p.2) (c.in_err-_line.ensures.hands profile text front h)

pub returns : goal.returns
returns c = λ profile text front h.
    let passed = less_is_left profile text front (left c.args.reader) c.in_ok-_line._line c.in_ok-_line.more (c.in_ok-_line.ensures.hands profile text front h) in
    ((tree_line c.in_ok-_line._line, passed.0), passed.1)
