use Rattle.std.proofs.Common.{sym, ap, ◌∙◌, rules}
use denote.Enum.Bare.{same_true}
use Rattle.toml_mentions.specs.contracts.role.Role.{the_type}
use Rattle.toml_mentions.specs.Sought.{role_of}
use Rattle.toml_mentions.proofs.Sights.{has_role_at}
use Rattle.toml_mentions.proofs.seeker.has_role.Goals as goal

pub returns-then-eq : goal.returns-then-eq
returns-then-eq c = λ given.
    has_role_at (role_of c.args.role) c.args.firsts.now c.loop-first.first-index _ c.loop-first-test.true
    (ap role_of (same_true the_type (search rules) _ _ (sym c.eq.ensures ∙ c.if-eq.true)))
