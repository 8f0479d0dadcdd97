use Rattle.std.proofs.Common.{subst}
use Rattle.toml_names.specs.model.Data.{kind_at}
use Rattle.toml_edits.specs.Readings.{IsReading}
use Rattle.toml_edits.proofs.Fitting.{fits}
use Rattle.toml_edits.proofs.Reaching.{refuted}
use Rattle.toml_edits.proofs.applying.fitting.Goals as goal

pub returns-else-reaches : goal.returns-else-reaches
returns-else-reaches c = λ profile text reads.
    let good = subst (IsReading profile text) c.in-Good.is reads in
    (good, fits profile c.args.at.now text (kind_at c.in-Good.value) c.saturating_sub.result good c.saturating_sub.ensures (refuted c.reaches.ensures c.if-reaches.false))
