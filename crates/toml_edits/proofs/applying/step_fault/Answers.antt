use Rattle.std.proofs.Common.{arith}
use Rattle.toml_edits.proofs.NewParts.{name_there, name_free, room, no_room}
use Rattle.toml_edits.proofs.applying.step_fault.Goals as goal

pub returns-in-Table : goal.returns-in-Table
returns-in-Table c = rw (c.in-Name.is, c.in-Table.is) (name_there c.in-Table.members c.in-Name.name c.as_str.result.now c.contains_key.result c.contains_key.ensures c.as_str.ensures c.if-contains_key.true)

pub returns-in-Table-2 : goal.returns-in-Table-2
returns-in-Table-2 c = rw (c.in-Name.is, c.in-Table.is) (name_free c.in-Table.members c.in-Name.name c.as_str.result.now c.contains_key.result c.contains_key.ensures c.as_str.ensures c.if-contains_key.false)

pub returns-in-Array : goal.returns-in-Array
returns-in-Array c = rw (c.in-Index.is, c.in-Array.is) (room c.in-Array.items c.in-Index.index (omega (arith, c.if-index-len.true, c.len.ensures, c.in-Array.items.ok)))

pub returns-in_default-parent : goal.returns-in_default-parent
returns-in_default-parent c = rw (c.in-Index.is, c.in-Array.is) (no_room c.in-Array.items c.in-Index.index (omega (arith, c.if-index-len.false, c.len.ensures, c.in-Array.items.ok)))
