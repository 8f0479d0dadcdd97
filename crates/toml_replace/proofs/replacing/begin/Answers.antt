use Rattle.std.proofs.lemmas.Result.{err_from_is_err_and}
use Rattle.std.proofs.Common.{string_bytes}
use Rattle.toml_replace.proofs.Makings.{no_file, no_mode, nothing_made, all_begun}
use Rattle.toml_replace.proofs.replacing.begin.Goals as goal

pub returns-in_err-file : goal.returns-in_err-file
returns-in_err-file g c =
    let p = err_from_is_err_and c.from_residual.result c.from_residual.ensures.1 in
    rw (p.1, p.2) (no_file c.args.path.now _ _ _ c.in_err-file.ensures)

pub returns-in_err-mode : goal.returns-in_err-mode
returns-in_err-mode g c =
    let p = err_from_is_err_and c.from_residual-in_err-mode.result c.from_residual-in_err-mode.ensures.1 in
    let file = string_bytes c.in_ok-file.file in
    let read = rw c.as_str.ensures.value at c.in_err-mode.ensures in
    rw (p.1, p.2) (no_mode c.args.path.now file _ _ _ _ c.in_ok-file.ensures read)

pub returns-in_err-new : goal.returns-in_err-new
returns-in_err-new g c =
    let p = err_from_is_err_and c.from_residual-in_err-new.result c.from_residual-in_err-new.ensures.1 in
    let file = string_bytes c.in_ok-file.file in
    let read = rw c.as_str.ensures.value at c.in_ok-mode.ensures in
    let made = rw c.as_str-2.ensures.value at c.in_err-new.ensures in
    rw (p.1, p.2) (nothing_made c.args.path.now file c.in_ok-mode.mode _ _ _ _ _ c.in_ok-file.ensures read made)

pub returns : goal.returns
returns g c =
    let file = string_bytes c.in_ok-file.file in
    let read = rw c.as_str.ensures.value at c.in_ok-mode.ensures in
    let made = rw c.as_str-2.ensures.value at c.in_ok-new.ensures in
    all_begun c.args.path.now (record { file = c.in_ok-file.file; mode = c.in_ok-mode.mode; new = c.in_ok-new.new }) _ _ _ _ c.in_ok-file.ensures read made
