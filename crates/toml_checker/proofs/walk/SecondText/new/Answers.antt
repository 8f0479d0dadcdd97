use Rattle.std.proofs.Common.{[], refl, subst}
use Rattle.toml_units.specs.Cursors.{Walks}
use Rattle.toml_checker.proofs.walk.SecondText.new.Goals as goal

pub returns : goal.returns
returns c = (
  refl,
  λ asked. record {
    walks = subst (λ t. Walks c.args.profile t c.in_ok-new.field-0 []) c.requires c.in_ok-new.ensures;
    added = c.none.ensures asked c.args.text.now;
    passed = λ few. refl;
  },
)
