use Rattle.std.proofs.Common.{◌≡◌, ℕ, List, Some, rules}
use Rattle.std.proofs.lemmas.Result.{err_from_is_err_and}
use Rattle.toml_replace.specs.Replacement.{pair_of}
use Rattle.toml_replace.proofs.Workings.{first_refused, second_refused, certifying}
use Rattle.toml_replace.proofs.replacing.certify.Goals as goal

pub returns-in_err-refuse_same : goal.returns-in_err-refuse_same
returns-in_err-refuse_same g c =
    let p = err_from_is_err_and c.from_residual.result c.from_residual.ensures.1 in
    let k : List ℕ × List ℕ = (c.in-Some.path.now, c.in-Some.bytes.now) in
    let same : pair_of c.args.certificate ≡ Some k = search rules in
    let first = rw c.as_str.ensures.value at c.in_err-refuse_same.ensures in
    rw (same, p.1, p.2) (first_refused _ _ k _ _ _ first)

pub returns-in_err-refuse_same-2 : goal.returns-in_err-refuse_same-2
returns-in_err-refuse_same-2 g c =
    let p = err_from_is_err_and c.from_residual-in_err-refuse_same-2.result c.from_residual-in_err-refuse_same-2.ensures.1 in
    let k : List ℕ × List ℕ = (c.in-Some.path.now, c.in-Some.bytes.now) in
    let same : pair_of c.args.certificate ≡ Some k = search rules in
    let first = rw c.as_str.ensures.value at c.in_ok-refuse_same.ensures in
    let second = rw c.as_str-2.ensures.value at c.in_err-refuse_same-2.ensures in
    rw (same, p.1, p.2) (second_refused _ _ k _ _ _ _ first second)

pub returns : goal.returns
returns g c =
    let k : List ℕ × List ℕ = (c.in-Some.path.now, c.in-Some.bytes.now) in
    let same : pair_of c.args.certificate ≡ Some k = search rules in
    let first = rw c.as_str.ensures.value at c.in_ok-refuse_same.ensures in
    let second = rw c.as_str-2.ensures.value at c.in_ok-refuse_same-2.ensures in
    rw same (certifying _ _ k c.store.result _ _ _ _ first second c.store.ensures)
