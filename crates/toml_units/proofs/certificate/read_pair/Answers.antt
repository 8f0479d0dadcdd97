use Rattle.toml_units.proofs.Certificates.{no_space, no_second, no_end}
use Rattle.toml_units.proofs.certificate.read_pair.Goals as goal

pub returns-in_err-numbered-clause-read : goal.returns-in_err-numbered-clause-read
returns-in_err-numbered-clause-read c = rw c.from_residual-in_err-numbered.ensures (no_space c.args.bytes.now c.in_ok-first.first c.in_ok-first.spaced.now c.in_ok-first.ensures.0 c.in_ok-first.ensures.1 c.in_err-numbered.ensures)

pub returns-in_err-second-clause-read : goal.returns-in_err-second-clause-read
returns-in_err-second-clause-read c =
    rw c.from_residual-in_err-second.ensures
    (no_second c.args.bytes.now c.in_ok-first.first c.in_ok-first.spaced.now c.in_ok-first.ensures.0 c.in_ok-first.ensures.1 c.in_ok-numbered.numbered.now c.in_ok-numbered.ensures c.in_err-second.ensures)

pub returns-in_err-behind-clause-read : goal.returns-in_err-behind-clause-read
returns-in_err-behind-clause-read c =
    rw c.from_residual-in_err-behind.ensures
    (no_end c.args.bytes.now c.in_ok-first.first c.in_ok-first.spaced.now c.in_ok-first.ensures.0 c.in_ok-first.ensures.1 c.in_ok-numbered.numbered.now c.in_ok-numbered.ensures
    c.in_ok-second.second c.in_ok-second.ended.now c.in_ok-second.ensures.0 c.in_ok-second.ensures.1 c.in_err-behind.ensures)
