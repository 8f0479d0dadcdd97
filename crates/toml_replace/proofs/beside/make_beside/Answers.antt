use Rattle.std.proofs.Common.{◌≡◌, arith, subst, sym}
use Rattle.std.proofs.lemmas.Result.{err_from_is_err_and}
use Rattle.toml_replace.specs.Beside.{IsBeside}
use Rattle.toml_replace.specs.declared.beside.TheConstants.{MOST_NAMES}
use Rattle.toml_replace.proofs.Makings.{making_failed, making_done, one_more_taken, making_crowded}
use Rattle.toml_replace.proofs.beside.make_beside.Goals as goal

pub returns-in_err-create_new : goal.returns-in_err-create_new
returns-in_err-create_new g c =
    let p = err_from_is_err_and c.from_residual-in_err-create_new.result c.from_residual-in_err-create_new.ensures.1 in
    rw (p.1, p.2) (making_failed c.args.file.now c.as_str.result.now c.loop-number.number _ _ _ _ c.loop-number.invariant c.in_err-create_new.ensures)

pub returns-then-branch : goal.returns-then-branch
returns-then-branch g c =
    let made = rw c.if-branch.true at c.in_ok-create_new.ensures in
    making_done c.args.file.now c.as_str.result.now c.loop-number.number c.in_ok-new.new _ _ _ c.in_ok-new.ensures c.as_str.ensures.value
    c.loop-number.invariant made

pub loop-number-preserved : goal.loop-number-preserved
loop-number-preserved g c =
    let taken = rw c.if-branch.false at c.in_ok-create_new.ensures in
    let beside = subst (λ path. IsBeside c.args.file.now path) (sym c.as_str.ensures.value) c.in_ok-new.ensures in
    one_more_taken c.args.file.now c.as_str.result.now c.loop-number.number _ _ _ beside c.loop-number.invariant taken

pub returns : goal.returns
returns g c =
    let all : c.loop-number.number ≡ MOST_NAMES = omega arith in
    let tries = rw all at c.loop-number.invariant in
    making_crowded c.args.file.now _ _ _ tries
