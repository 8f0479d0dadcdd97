use Rattle.std.proofs.Common.{subst}
use Rattle.std.proofs.lemmas.Result.{IfOk-weaker}
use Rattle.toml_working.specs.Following.{FindsBeside}
use Rattle.toml_working.specs.Starting.{read_of}
use Rattle.toml_working.proofs.Answered.{if_ok_both_of}
use Rattle.toml_working.proofs.FollowedEnd.{follows_at_end, follows_beside}
use Rattle.toml_working.proofs.working.Tree.add_beside.Goals as goal

pub returns-in-Some-clause-put : goal.returns-in-Some-clause-put
returns-in-Some-clause-put c =
    let it = c.args.new in
    let q = c.args.above.now.at in
    let read = read_of c.args.before in
    let tree = c.args.self.now in
    if_ok_both_of _ _ _ c.put_beside.result (λ done keeps puts.
    follows_beside q it.at.now it.brackets it.spelled.now read tree c.put_beside.new.self c.in-Some.behind done
    (subst (FindsBeside q it.at.now read tree.slots.items) c.in-Some.is c.in_ok-behind.ensures) keeps puts)
    c.put_beside.ensures.rest c.put_beside.ensures.put

pub returns-in-None-clause-put : goal.returns-in-None-clause-put
returns-in-None-clause-put c =
    let it = c.args.new in
    let q = c.args.above.now.at in
    let read = read_of c.args.before in
    let tree = c.args.self.now in
    IfOk-weaker c.add_at_end.result _ _ (λ done puts.
    follows_at_end q it.at.now it.brackets it.spelled.now read tree c.add_at_end.new.self done
    (subst (FindsBeside q it.at.now read tree.slots.items) c.in-None.is c.in_ok-behind.ensures) puts)
    c.add_at_end.ensures.put
