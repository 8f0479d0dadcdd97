use Rattle.toml_checker.proofs.Flags.{flags_tell}
use Rattle.toml_checker.proofs.Sighted.{seen_is_stands}
use Rattle.toml_checker.proofs.laws.plain.Goals as goal

pub returns-clause-flags : goal.returns-clause-flags
returns-clause-flags c = flags_tell

pub returns-clause-seen : goal.returns-clause-seen
returns-clause-seen c = seen_is_stands
