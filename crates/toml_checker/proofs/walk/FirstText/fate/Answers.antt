use Rattle.std.proofs.Common.{refl}
use Rattle.toml_units.specs.Cursors.{lined_by}
use Rattle.toml_checker.proofs.Ahead.{seen_ahead}
use Rattle.toml_checker.proofs.walk.FirstText.fate.Goals as goal

pub fate-requires : goal.fate-requires
fate-requires c =
    let cursor = c.args.self.now.cursor in
    let x = lined_by cursor c.in-Some.unit.now in
    c.requires x (seen_ahead cursor c.unit.result c.in-Some.unit x c.unit.ensures c.in-Some.is refl)
