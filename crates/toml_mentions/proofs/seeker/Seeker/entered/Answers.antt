use Rattle.std.proofs.Common.{arith, sym, ◌∙◌}
use Rattle.toml_mentions.proofs.Stood.{entered_none, entered_some}
use Rattle.toml_mentions.proofs.seeker.Seeker.entered.Goals as goal

pub returns-in-Some : goal.returns-in-Some
returns-in-Some c = λ at earlier h counts.
    entered_some c.args.self.now.target.now c.args.self.now.tables.items earlier at c.args.way h counts c.in-Some.last (omega (arith, c.tables_at.ensures, c.in-Some.ensures)) c.indexed.result (c.indexed.ensures at h)

pub returns-in-None : goal.returns-in-None
returns-in-None c = λ at earlier h counts.
    entered_none c.args.self.now.target.now c.args.self.now.tables.items earlier at c.args.way h counts (omega (arith, c.tables_at.ensures, c.in-None.ensures))
