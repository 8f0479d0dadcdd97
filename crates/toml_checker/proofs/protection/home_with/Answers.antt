use Rattle.std.proofs.Common.{sym, ◌∙◌}
use Rattle.toml_checker.specs.EditLists.{changes}
use Rattle.toml_checker.specs.Plain.{made_site}
use Rattle.toml_checker.proofs.Homes.{home_of_line}
use Rattle.toml_checker.proofs.protection.home_with.Goals as goal

pub returns-then-protected : goal.returns-then-protected
returns-then-protected c = home_of_line (changes c.args.list.now) c.args.home (made_site c.args.unit.now) c.in-Line.is (sym c.requires.told ∙ c.if-protected.true)
