use Rattle.std.proofs.Common.{◌^◌, Some, subst}
use Rattle.toml_names.specs.model.Indices.{IsLow}
use Rattle.toml_edits.specs.Moves.{moves}
use Rattle.toml_edits.specs.Trees.{walk}
use Rattle.toml_edits.specs.Walks.{IsShown}
use Rattle.toml_edits.proofs.WalkShown.{sight_is}
use Rattle.toml_edits.proofs.moves.Moves.look.Goals as goal

pub returns : goal.returns
returns c = λ cs tells few.
    sight_is cs c.args.self.now c.args.at.now c.trace_on.result (subst (IsLow (2 ^ 63)) c.steps.ensures (c.have_room.ensures c.if-not-have_room.false))
    (subst (λ a. IsShown (walk moves (Some c.args.self.now) a) a c.trace_on.result) c.steps-2.ensures c.trace_on.ensures.shown) tells few
