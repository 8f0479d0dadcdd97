use Rattle.std.proofs.Common.{arith}
use Rattle.toml_edits.proofs.NewParts.{next_in_array}
use Rattle.toml_edits.proofs.making.has_length.Goals as goal

pub returns-in-Array : goal.returns-in-Array
returns-in-Array c = rw c.in-Array.is (next_in_array c.in-Array.items c.args.length c.len.result (let ok = c.in-Array.items.ok.0 in omega (arith, ok, c.len.ensures)))
