use Rattle.toml_units.proofs.Decimals.{run_is, none_plain, too_large, found_number}
use Rattle.toml_units.proofs.decimal.read_number.Goals as goal

pub returns-then-not-is_plain : goal.returns-then-not-is_plain
returns-then-not-is_plain c =
    let run = run_is c.args.bytes.now c.split_at.result.0.now c.split_at.result.1.now c.digits_len.result c.digits_len.ensures.run c.split_at.ensures.front c.split_at.ensures.back in
    none_plain c.args.bytes.now c.split_at.result.0.now c.split_at.result.1.now run (λ plain. let t = c.is_plain.ensures.1 plain in cc)

pub returns-in_err-number : goal.returns-in_err-number
returns-in_err-number c =
    let run = run_is c.args.bytes.now c.split_at.result.0.now c.split_at.result.1.now c.digits_len.result c.digits_len.ensures.run c.split_at.ensures.front c.split_at.ensures.back in
    rw c.from_residual.ensures (too_large c.args.bytes.now c.split_at.result.0.now c.split_at.result.1.now run c.in_err-number.ensures)

pub returns : goal.returns
returns c =
    let run = run_is c.args.bytes.now c.split_at.result.0.now c.split_at.result.1.now c.digits_len.result c.digits_len.ensures.run c.split_at.ensures.front c.split_at.ensures.back in
    found_number c.args.bytes.now c.split_at.result.0.now c.split_at.result.1.now run (c.is_plain.ensures.0 c.if-not-is_plain.false) c.in_ok-number.number c.in_ok-number.ensures.0 c.in_ok-number.ensures.1

pub number_of-requires : goal.number_of-requires
number_of-requires c = (run_is c.args.bytes.now c.split_at.result.0.now c.split_at.result.1.now c.digits_len.result c.digits_len.ensures.run c.split_at.ensures.front c.split_at.ensures.back).are
