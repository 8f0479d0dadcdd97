use Rattle.std.proofs.Common.{refl, subst}
use Rattle.toml_working.specs.Following.{FindsLandmark}
use Rattle.toml_working.specs.FollowingHeaders.{is_no_comment}
use Rattle.toml_working.specs.Starting.{read_of}
use Rattle.toml_working.proofs.PutAhead.{before_comments, behind_uncommented}
use Rattle.toml_working.proofs.working.Tree.above_comments.Goals as goal

pub returns-in-Some : goal.returns-in-Some
returns-in-Some c s there =
    let read = read_of c.args.before in
    let slots = c.args.self.now.slots.items in
    behind_uncommented read slots c.args.at s there c.in-Some.line c.next.result
    (subst (FindsLandmark is_no_comment read slots c.args.at) c.in-Some.is c.in_ok-line.ensures) c.next.ensures.slot c.next.ensures.index

pub returns-in-None : goal.returns-in-None
returns-in-None c s there =
    let read = read_of c.args.before in
    let slots = c.args.self.now.slots.items in
    before_comments read slots c.args.at s there _ refl refl
    (subst (FindsLandmark is_no_comment read slots c.args.at) c.in-None.is c.in_ok-line.ensures)
