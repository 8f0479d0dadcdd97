use Rattle.std.proofs.Common.{◌∙◌, ap, subst}
use Rattle.toml_working.specs.Following.{FindsLandmark}
use Rattle.toml_working.specs.FollowingHeaders.{has_parts}
use Rattle.toml_working.specs.RenameStanding.{names_in}
use Rattle.toml_working.specs.Starting.{read_of}
use Rattle.toml_working.proofs.WentUp.{no_ws, ws_found}
use Rattle.toml_working.proofs.working.Tree.header_ws.Goals as goal

pub returns-in_ok-look_at-in-Some : goal.returns-in_ok-look_at-in-Some
returns-in_ok-look_at-in-Some c =
    let read = read_of c.args.before in
    let slots = c.args.self.now.slots.items in
    let n = c.names_in-parts.result in
    let last = subst (FindsLandmark (has_parts n) read slots c.args.at) c.in-Some.is c.in_ok-other.ensures in
    (c.in_ok-look_at-in-Some.ensures last.line last.there).ws
    ∙ ws_found c.args.address.now n read slots c.args.at c.in-Some.other last (c.names_in-parts.ensures ∙ ap names_in c.steps.ensures)

pub returns-in-None : goal.returns-in-None
returns-in-None c =
    let read = read_of c.args.before in
    let slots = c.args.self.now.slots.items in
    let n = c.names_in-parts.result in
    no_ws c.args.address.now n read slots c.args.at (subst (FindsLandmark (has_parts n) read slots c.args.at) c.in-None.is c.in_ok-other.ensures)
    (c.names_in-parts.ensures ∙ ap names_in c.steps.ensures)
