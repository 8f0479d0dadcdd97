use Rattle.std.proofs.Common.{rules, Some}
use Rattle.std.proofs.lemmas.Map.Text.{btree_map_updates_text}
use Rattle.toml_edits.proofs.change.put_member.Goals as goal

pub returns-in-Some : goal.returns-in-Some
returns-in-Some c = λ n. btree_map_updates_text c.args.name.now c.args.members.now (c.get_mut.follows.lender c.args.part) (Some c.args.part) ((c.get_mut.follows.holds c.args.part).3 (search rules)) n
