use Rattle.std.proofs.Common.{length, ap, ◌∙◌}
use Rattle.memchr.proofs.lemmas.CallerLemmas.{length-places}
use Rattle.toml_text.specs.Positions.{is_lf}
use Rattle.toml_text.proofs.lines.newlines.Goals as goal

pub returns-clause-count : goal.returns-clause-count
returns-clause-count c = c.count.ensures ∙ ap length c.memchr_iter.ensures.value ∙ length-places is_lf c.args.bytes.now
