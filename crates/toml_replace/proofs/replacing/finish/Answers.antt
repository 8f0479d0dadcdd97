use Rattle.std.proofs.Common.{string_bytes}
use Rattle.std.proofs.lemmas.Result.{err_from_is_err_and}
use Rattle.toml_replace.specs.Replacement.{pair_of}
use Rattle.toml_replace.proofs.Workings.{unfilled, uncertified, unrenamed, finished}
use Rattle.toml_replace.proofs.replacing.finish.Goals as goal

pub returns-in_err-fill : goal.returns-in_err-fill
returns-in_err-fill g c =
    let place = c.args.place.now in
    let p = err_from_is_err_and c.from_residual.result c.from_residual.ensures.1 in
    rw (p.1, p.2) (unfilled (string_bytes place.file) (string_bytes place.new) c.args.text.now place.mode
    (pair_of c.args.certificate) _ _ _ c.in_err-fill.ensures)

pub returns-in-Err : goal.returns-in-Err
returns-in-Err g c =
    let place = c.args.place.now in
    uncertified (string_bytes place.file) (string_bytes place.new) c.args.text.now place.mode
    (pair_of c.args.certificate) _ _ _ _ c.in_ok-fill.ensures c.in-Err.ensures

pub returns-in_err-rename : goal.returns-in_err-rename
returns-in_err-rename g c =
    let place = c.args.place.now in
    let p = err_from_is_err_and c.from_residual-in_err-rename.result c.from_residual-in_err-rename.ensures.1 in
    let renamed = rw (c.as_str.ensures.value, c.as_str-2.ensures.value) at c.in_err-rename.ensures in
    rw (p.1, p.2) (unrenamed (string_bytes place.file) (string_bytes place.new) c.args.text.now place.mode (pair_of c.args.certificate) _ _ _ _
    c.in_ok-fill.ensures c.in_default.ensures _ renamed)

pub returns : goal.returns
returns g c =
    let place = c.args.place.now in
    let renamed = rw (c.as_str.ensures.value, c.as_str-2.ensures.value) at c.in_ok-rename.ensures in
    finished (string_bytes place.file) (string_bytes place.new) c.args.text.now place.mode (pair_of c.args.certificate) _ _ _ _
    c.in_ok-fill.ensures c.in_default.ensures renamed
