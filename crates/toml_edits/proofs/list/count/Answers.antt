use Rattle.std.proofs.Common.{◌∙◌}
use Rattle.serde_json.specs.View.{view}
use Rattle.toml_edits.proofs.Lists.{count_is}
use Rattle.toml_edits.proofs.list.count.Goals as goal

pub returns-in-Some : goal.returns-in-Some
returns-in-Some c = c.len.ensures.len ∙ count_is (view c.args.entry.now) c.in-Some.members.now.entries c.in-Some.ensures
