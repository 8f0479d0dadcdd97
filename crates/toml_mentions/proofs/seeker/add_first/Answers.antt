use Rattle.std.proofs.Common.{map, refl, subst}
use Rattle.toml_mentions.specs.Sought.{HasRole, role_of, seen_of}
use Rattle.toml_mentions.proofs.Sights.{keeps_there}
use Rattle.toml_mentions.proofs.seeker.add_first.Goals as goal

pub returns-then-has_role : goal.returns-then-has_role
returns-then-has_role c =
    keeps_there (map seen_of c.args.firsts.now.items) (seen_of c.args.again)
    (subst (λ l. HasRole (role_of c.args.again.role) (map seen_of l)) c.deref.ensures.value (c.if-has_role.ensures refl))
