use Rattle.std.proofs.lemmas.Result.{err_from_is_err_and}
use Rattle.toml_replace.proofs.Workings.{write_failed, sync_failed, filling}
use Rattle.toml_replace.proofs.replacing.fill.Goals as goal

pub returns-in_err-write_all : goal.returns-in_err-write_all
returns-in_err-write_all g c =
    let p = err_from_is_err_and c.from_residual.result c.from_residual.ensures.1 in
    rw (p.1, p.2) (write_failed c.args.text.now c.args.mode _ _ _ c.in_err-write_all.ensures)

pub returns-in_err-sync : goal.returns-in_err-sync
returns-in_err-sync g c =
    let p = err_from_is_err_and c.from_residual-in_err-sync.result c.from_residual-in_err-sync.ensures.1 in
    rw (p.1, p.2) (sync_failed c.args.text.now c.args.mode _ _ _ _ c.in_ok-write_all.ensures c.in_err-sync.ensures)

pub returns : goal.returns
returns g c = filling c.args.text.now c.args.mode c.set_mode.result _ _ _ _ c.in_ok-write_all.ensures c.in_ok-sync.ensures c.set_mode.ensures
