use Rattle.std.proofs.Common.{sym, ap, ◌∙◌}
use Rattle.toml_checker.specs.EditLists.{changes}
use Rattle.toml_checker.specs.Plain.{stands}
use Rattle.toml_checker.proofs.Flags.{stands_nowhere}
use Rattle.toml_checker.proofs.protection.stands.Goals as goal

pub returns-in-None : goal.returns-in-None
returns-in-None c = sym (ap (λ o. stands c.args.part (changes c.args.list.now) o c.args.unit.now.base) c.in-None.is ∙ stands_nowhere c.args.part (changes c.args.list.now) c.args.unit.now.base)
