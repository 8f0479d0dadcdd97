use Rattle.std.proofs.Common.{length}
use Rattle.toml_edits.proofs.walking.+follow_on.Given as goal

abbrev pub decreases-follow_on : goal.decreases-follow_on
decreases-follow_on l = length l.way.now
