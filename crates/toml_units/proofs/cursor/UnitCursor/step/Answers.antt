use Rattle.std.proofs.Common.{sym, subst}
use Rattle.std.specs.Prelude.{IsSome}
use Rattle.toml_units.proofs.LetGo.{same_current, still_goes, still_steps}
use Rattle.toml_units.proofs.cursor.UnitCursor.step.Goals as goal

pub go_past-requires-clause-goes : goal.go_past-requires-clause-goes
go_past-requires-clause-goes c = still_goes c.args.self.now c.let_go.new.self c.in_ok-let_go.ensures c.requires.goes

pub go_past-requires-clause-some : goal.go_past-requires-clause-some
go_past-requires-clause-some c = subst IsSome (sym (same_current c.args.self.now c.let_go.new.self c.in_ok-let_go.ensures)) c.requires.some

pub returns : goal.returns
returns c = still_steps c.args.self.now c.let_go.new.self c.in_ok-let_go.ensures c.go_past.new.self c.go_past.result c.go_past.ensures
