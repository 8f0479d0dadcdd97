use Rattle.std.proofs.Common.{Some, refl, sym, subst}
use Rattle.toml_units.specs.Reading.{IsOpened}
use Rattle.toml_units.proofs.reading.Reading.open.Goals as goal

pub returns-in-Ok-clause-opened : goal.returns-in-Ok-clause-opened
returns-in-Ok-clause-opened c = subst (λ h. IsOpened h c.args.at (Some c.of.result)) (sym c.in-Ok.is) (c.of.result, refl, c.of.ensures)
