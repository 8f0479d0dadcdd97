use Rattle.std.proofs.Common.{◌≡◌, ◌<◌, ◌∙◌, length, map, sym, subst, arith}
use Rattle.std.proofs.lemmas.List.{length-map}
use Rattle.toml_edits.specs.Edits.{change}
use Rattle.toml_units.specs.Units.{units}
use Rattle.toml_units.specs.View.{unit, all_units}
use Rattle.toml_checker.specs.Plain.{TellProtected}
use Rattle.toml_checker.proofs.OuterUnits.{tell_outer}
use Rattle.toml_checker.proofs.outer.outermost.Goals as goal

pub returns : goal.returns
returns c = λ d text spells is.
    let cs = map change c.args.edits.now in
    let free = c.in_ok-outer.outer.items in
    let long : length free ≡ length c.args.units.now = omega (arith, c.in_ok-outer.ensures.len) in
    tell_outer cs d text spells (all_units c.args.units.now) is c.deref.result.now
    (subst (TellProtected cs (units d.lines)) (sym c.deref.ensures.value) (c.in_ok-flags.ensures (units d.lines) is))
    free (long ∙ sym (length-map c.args.units.now unit)) (λ i low. c.in_ok-outer.ensures.free i (subst (λ n. i < n) (length-map c.args.units.now unit) low))
