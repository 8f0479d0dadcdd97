use Rattle.toml_names.proofs.Common.{err_from_is_err_and}
use Rattle.toml_names.proofs.line_names.LineNames.take.Goals as goal

pub returns : goal.returns
returns c = λ lines h. (c.in_ok-enter.ensures lines h).stands

pub returns-in_err-enter : goal.returns-in_err-enter
returns-in_err-enter c = λ lines h.
    let p = err_from_is_err_and c.from_residual.result c.from_residual.ensures.1 in
    rw (p.1, p.2) (c.in_err-enter.ensures lines h)
