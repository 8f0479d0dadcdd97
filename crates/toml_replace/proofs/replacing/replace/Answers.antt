use Rattle.toml_replace.specs.Replacement.{pair_of}
use Rattle.toml_replace.proofs.Wholes.{replaced, taken_away}
use Rattle.toml_replace.proofs.replacing.replace.Goals as goal

pub returns-in-Ok : goal.returns-in-Ok
returns-in-Ok g c =
    replaced c.args.path.now c.args.text.now (pair_of c.args.certificate) c.in_ok-place.place _ _ _ c.in_ok-place.ensures c.in-Ok.ensures

pub returns : goal.returns
returns g c =
    let removed = rw c.as_str.ensures.value at c.remove.ensures in
    taken_away c.args.path.now c.args.text.now (pair_of c.args.certificate) c.in_ok-place.place _ _ _ c.in_ok-place.ensures c.in-Err.fault
    _ _ c.in-Err.ensures removed
