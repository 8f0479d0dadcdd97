use Rattle.std.proofs.Common.{ap, refl, arith}
use Rattle.std.proofs.lemmas.Bool.Decides.{nat_tests}
use Rattle.std.proofs.lemmas.Result.{IfOk-weaker}
use Rattle.toml_units.specs.Cursors.{lined_by}
use Rattle.toml_units.specs.Lined.{LinedUnit}
use Rattle.toml_units.specs.View.{unit}
use Rattle.toml_checker.specs.EditLists.{changes}
use Rattle.toml_checker.proofs.Ahead.{seen_ahead}
use Rattle.toml_checker.proofs.PairHere.{tells}
use Rattle.toml_checker.proofs.walk.is_pair.Goals as goal

pub are_alike-requires : goal.are_alike-requires
are_alike-requires c =
    let cursor = c.args.one.now.cursor in
    let x = lined_by cursor c.in-Some.unit.now in
    c.requires x (seen_ahead cursor c.unit.result c.in-Some.unit x c.unit.ensures c.in-Some.is refl)

pub returns : goal.returns
returns c =
    let one = c.args.one.now in
    let other = c.args.other.now in
    let u = c.in-Some.unit.now in
    let w = c.in-Some-unit.partner.now in
    let x : LinedUnit = record { unit = unit u; newline = c.newline.result.now } in
    let y : LinedUnit = record { unit = unit w; newline = c.newline-2.result.now } in
    IfOk-weaker c.are_alike.result _ _ (λ b h.
    tells (changes c.args.list.now) one other c.args.pair x y (grind (arith, nat_tests)) (grind (arith, nat_tests))
    (seen_ahead one.cursor c.unit.result c.in-Some.unit x c.unit.ensures c.in-Some.is (ap (λ n. record { unit = unit u; newline = n.now }) c.newline.ensures))
    (seen_ahead other.cursor c.unit-2.result c.in-Some-unit.partner y c.unit-2.ensures c.in-Some-unit.is (ap (λ n. record { unit = unit w; newline = n.now }) c.newline-2.ensures))
    b h) c.are_alike.ensures
