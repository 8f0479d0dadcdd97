use Rattle.toml_working.specs.Starting.{read_of}
use Rattle.toml_working.proofs.Answered.{if_ok_both_of}
use Rattle.toml_working.proofs.FollowedEnd.{end_put, never_left, parted_put}
use Rattle.toml_working.proofs.working.Tree.add_at_end.Goals as goal

pub returns-then-not-branch-clause-put : goal.returns-then-not-branch-clause-put
returns-then-not-branch-clause-put c =
    let it = c.args.new in
    let read = read_of c.args.before in
    let tree = c.args.self.now in
    if_ok_both_of _ _ _ c.add_last.result (λ done keeps puts.
    end_put it.at.now it.at.now it.brackets it.spelled.now read tree c.add_last.new.self c.text_end.result c.in_ok-ws.ws c.in_ok-is_blank_due.field-0 done
    (c.text_end.ensures read) c.in_ok-ws.ensures c.in_ok-is_blank_due.ensures c.if-not-branch.true keeps puts)
    c.add_last.ensures.rest c.add_last.ensures.put

pub returns-then-not-branch-2-clause-put : goal.returns-then-not-branch-2-clause-put
returns-then-not-branch-2-clause-put c =
    let it = c.args.new in
    never_left it.at.now it.at.now it.brackets it.spelled.now (read_of c.args.before) c.args.self.now c.put_blank.new.self c.put_blank.new.self
    c.in_ok-is_blank_due.field-0 c.in_ok-put_blank.field-0 _ c.in_ok-is_blank_due.ensures c.if-not-branch.false c.in_ok-put_blank.ensures.put c.if-not-branch-2.true

pub returns-clause-put : goal.returns-clause-put
returns-clause-put c =
    let it = c.args.new in
    let read = read_of c.args.before in
    let tree = c.args.self.now in
    if_ok_both_of _ _ _ c.add_last-2.result (λ done keeps puts.
    parted_put it.at.now it.at.now it.brackets it.spelled.now read tree c.put_blank.new.self c.add_last-2.new.self c.text_end.result c.in_ok-ws.ws
    c.in_ok-is_blank_due.field-0 c.in_ok-put_blank.field-0 done (c.text_end.ensures read) c.in_ok-ws.ensures c.in_ok-is_blank_due.ensures c.if-not-branch.false
    c.in_ok-put_blank.ensures.rest c.in_ok-put_blank.ensures.wrote c.in_ok-put_blank.ensures.put keeps puts)
    c.add_last-2.ensures.rest c.add_last-2.ensures.put
