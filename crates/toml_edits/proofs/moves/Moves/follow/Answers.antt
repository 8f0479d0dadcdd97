use Rattle.std.proofs.Common.{◌^◌, [], Some, sym, ap, subst, ◌∙◌}
use Rattle.toml_names.specs.model.Indices.{IsLow}
use Rattle.toml_edits.specs.Moves.{moves}
use Rattle.toml_edits.specs.Trees.{walk}
use Rattle.toml_edits.specs.Walks.{Leads}
use Rattle.toml_edits.proofs.WalkShown.{leads_is}
use Rattle.toml_edits.proofs.moves.Moves.follow.Goals as goal

pub returns : goal.returns
returns c = λ cs tells few.
    let to = c.follow_on.new.to.items in
    leads_is cs c.args.self.now c.args.at.now to (subst (IsLow (2 ^ 63)) c.steps.ensures (c.have_room.ensures c.if-not-have_room.false))
    (subst (λ a. Leads (walk moves (Some c.args.self.now) a) [] to) c.steps-3.ensures (subst (λ old. Leads (walk moves (Some c.args.self.now) c.steps-3.result.now) old to) c.in_ok-to.ensures.items (c.in_ok-follow_on.ensures c.if-not-branch.false)))
    tells few ∙ ap Some (sym c.of.ensures)
