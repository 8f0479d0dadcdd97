use Rattle.std.proofs.Common.{length}
use Rattle.toml_edits.proofs.walking.+trace_on.Given as goal

abbrev pub decreases-trace_on : goal.decreases-trace_on
decreases-trace_on l = length l.way.now
