use Rattle.toml_edits.proofs.NewParts.{member_told}
use Rattle.toml_edits.proofs.applying.has_name.Goals as goal

pub returns-in-Table : goal.returns-in-Table
returns-in-Table c = rw c.in-Table.is (member_told c.in-Table.members c.args.name.now c.contains_key.result c.contains_key.ensures)
