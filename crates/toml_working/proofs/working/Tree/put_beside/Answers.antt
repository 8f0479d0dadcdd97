use Rattle.std.proofs.lemmas.Result.{IfOk-weaker}
use Rattle.toml_layout.specs.OpenOutlines.{leaf_text}
use Rattle.toml_working.specs.Starting.{read_of}
use Rattle.toml_working.proofs.FollowedEnd.{beside_put}
use Rattle.toml_working.proofs.working.Tree.put_beside.Goals as goal

pub returns-clause-put : goal.returns-clause-put
returns-clause-put c =
    let it = c.args.new in
    let tree = c.args.self.now in
    IfOk-weaker c.put_header.result _ _ (λ done puts.
    beside_put it.at.now it.brackets it.spelled.now (leaf_text tree.style) (read_of c.args.before) c.args.behind c.next-at.result c.in_ok-ws.ws tree.slots.items
    c.put_header.new.self.slots.items done c.next-at.ensures.slot c.next-at.ensures.index c.in_ok-ws.ensures puts)
    c.put_header.ensures.put
