use Rattle.std.proofs.Common.{Some, sym, subst, ◌∙◌}
use Rattle.toml_checker.specs.Sights.{HasSight}
use Rattle.toml_checker.proofs.Sighted.{nowhere_stands_not, somewhere_stands}
use Rattle.toml_checker.proofs.protection.stands_at.Goals as goal

pub returns-in-Nowhere : goal.returns-in-Nowhere
returns-in-Nowhere c = sym (nowhere_stands_not c.args.part c.args.base c.args.list.now c.args.first.now (subst (HasSight c.args.list.now (Some c.args.first.now)) c.in-Nowhere.is c.requires))

pub returns-in-Somewhere : goal.returns-in-Somewhere
returns-in-Somewhere c =
    c.stands_by.ensures ∙ sym (somewhere_stands c.args.part c.args.base c.args.list.now c.args.first.now c.in-Somewhere.trace (subst (HasSight c.args.list.now (Some c.args.first.now)) c.in-Somewhere.is c.requires))
