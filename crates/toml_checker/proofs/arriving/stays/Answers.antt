use Rattle.std.proofs.Common.{rules, Some, subst}
use Rattle.toml_checker.specs.Sights.{HasSight}
use Rattle.toml_checker.proofs.Sighted.{somewhere_stays}
use Rattle.toml_checker.proofs.arriving.stays.Goals as goal

pub returns-in-Somewhere : goal.returns-in-Somewhere
returns-in-Somewhere c = λ e list a seen. somewhere_stays c.in-Somewhere.trace (search rules) list a (subst (HasSight list (Some a)) c.in-Somewhere.is seen)
