use Rattle.std.proofs.Common.{arith}
use Rattle.toml_working.proofs.WentUp.{past_before}
use Rattle.toml_working.proofs.working.Tree.text_end.Goals as goal

pub returns : goal.returns
returns c read = past_before read c.args.self.now.slots.items c.len.result 0 (let e = c.len.ensures in omega (arith, e))
