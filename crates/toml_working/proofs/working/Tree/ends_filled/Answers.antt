use Rattle.std.proofs.Common.{true, subst}
use Rattle.std.proofs.lemmas.Result.{IfOk-weaker}
use Rattle.toml_working.specs.Following.{FindsLandmark}
use Rattle.toml_working.specs.Standing.{Standing}
use Rattle.toml_working.specs.Starting.{read_of}
use Rattle.toml_working.proofs.FollowedEnd.{filled_at, filled_none}
use Rattle.toml_working.proofs.working.Tree.ends_filled.Goals as goal

pub returns-in-Some : goal.returns-in-Some
returns-in-Some c =
    let read = read_of c.args.before in
    let slots = c.args.self.now.slots.items in
    let last = subst (FindsLandmark (λ (s : Standing). true) read slots c.args.place) c.in-Some.is c.in_ok-above.ensures in
    IfOk-weaker c.is_filled.result _ _ (λ so tells. filled_at read slots c.args.place c.in-Some.above so last tells) c.is_filled.ensures

pub returns-in-None : goal.returns-in-None
returns-in-None c =
    let read = read_of c.args.before in
    let slots = c.args.self.now.slots.items in
    filled_none read slots c.args.place (subst (FindsLandmark (λ (s : Standing). true) read slots c.args.place) c.in-None.is c.in_ok-above.ensures)
