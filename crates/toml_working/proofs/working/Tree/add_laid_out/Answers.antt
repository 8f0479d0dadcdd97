use Rattle.std.proofs.lemmas.Result.{IfOk-weaker}
use Rattle.toml_working.specs.Starting.{read_of}
use Rattle.toml_working.proofs.Answered.{if_ok_both_of}
use Rattle.toml_working.proofs.HeaderAdded.{follow_adds, plain_adds}
use Rattle.toml_working.proofs.working.Tree.add_laid_out.Goals as goal

pub returns-in-Plain-clause-put : goal.returns-in-Plain-clause-put
returns-in-Plain-clause-put c =
    let it = c.args.new in
    if_ok_both_of _ _ _ c.add_plainly.result (λ done keeps adds.
    plain_adds c.args.above.now.at it.at.now c.args.above.now.element it.brackets it.spelled.now (read_of c.args.before) c.args.self.now c.add_plainly.new.self
    done c.in-Plain.is keeps adds)
    c.add_plainly.ensures.rest c.add_plainly.ensures.put

pub returns-in-Follow-clause-put : goal.returns-in-Follow-clause-put
returns-in-Follow-clause-put c =
    let it = c.args.new in
    IfOk-weaker c.add_beside.result _ _ (λ done follows.
    follow_adds c.args.above.now.at it.at.now c.args.above.now.element it.brackets it.spelled.now (read_of c.args.before) c.args.self.now c.add_beside.new.self
    done c.in-Follow.is follows)
    c.add_beside.ensures.put
