use Rattle.std.proofs.lemmas.Result.{on_ok_weaker}
use Rattle.toml_layout.specs.OpenOutlines.{leaf_text, value}
use Rattle.toml_working.specs.Putting.{manner}
use Rattle.toml_working.specs.Starting.{read_of}
use Rattle.toml_working.proofs.PutRoot.{puts_behind}
use Rattle.toml_working.proofs.working.Tree.insert_behind.Goals as goal

pub returns-clause-put : goal.returns-clause-put
returns-clause-put c =
    let it = c.args.insertion in
    let tree = c.args.self.now in
    let mid = c.newline_behind.new.self.slots.items in
    let now = c.put.new.self.slots.items in
    on_ok_weaker c.put.result
    (puts_behind it.at.now c.args.base it.spelled.now (value it.new) (manner tree) tree.texts (read_of c.args.before)
    c.args.behind c.next.result tree.slots.items mid now (leaf_text c.in_ok-newline.newline) c.in_ok-ws.ws c.in_ok-ws.equals c.in_ok-line.line
    c.beginning_as.result c.in_ok-ws.ensures
    c.in_ok-newline.ensures.ended c.in_ok-line.ensures c.beginning_as.ensures.address c.beginning_as.ensures.base c.beginning_as.ensures.body
    c.next.ensures.slot c.next.ensures.index)
    c.put.ensures.put
