use Rattle.std.proofs.Common.{◌≡◌, ◌<◌, ℕ, true, get_or}
use Rattle.toml_names.specs.mentions.Rules.{may_follow}
use Rattle.toml_mentions.specs.Sought.{role_of, seen_of}
use Rattle.toml_mentions.specs.declared.seeker.Mention.{Mention}
use Rattle.toml_mentions.proofs.seeker.clash_with.Given as goal

abbrev pub invariant-loop-first : goal.invariant-loop-first
invariant-loop-first l = (k : ℕ) (d : Mention) → k < l.first-index → may_follow (seen_of (get_or l.firsts k d)).role (role_of l.again.role) ≡ true
