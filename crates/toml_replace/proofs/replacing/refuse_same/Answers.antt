use Rattle.std.proofs.lemmas.Result.{err_from_is_err_and}
use Rattle.toml_replace.proofs.Workings.{compare_failed, is_other}
use Rattle.toml_replace.proofs.replacing.refuse_same.Goals as goal

pub returns-in_err-is_same : goal.returns-in_err-is_same
returns-in_err-is_same g c =
    let p = err_from_is_err_and c.from_residual.result c.from_residual.ensures.1 in
    rw (p.1, p.2) (compare_failed c.args.path.now c.args.other.now _ _ _ c.in_err-is_same.ensures.call)

pub returns-then-branch : goal.returns-then-branch
returns-then-branch g c = is_other c.args.path.now c.args.other.now c.in_ok-is_same.field-0 _ _ _ c.if-branch.true c.in_ok-is_same.ensures.call
