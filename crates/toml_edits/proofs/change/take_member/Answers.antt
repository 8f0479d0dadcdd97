use Rattle.std.proofs.Common.{None}
use Rattle.std.proofs.lemmas.Map.Text.{btree_map_updates_text}
use Rattle.toml_edits.proofs.change.take_member.Goals as goal

pub returns-clause-left : goal.returns-clause-left
returns-clause-left c = λ n. btree_map_updates_text c.args.name.now c.args.members.now c.remove.new.self None c.remove.ensures.updates n
