use Rattle.std.proofs.Common.{ap, length}
use Rattle.std.proofs.lemmas.Result.{on_ok_weaker}
use Rattle.toml_layout.specs.OpenOutlines.{value}
use Rattle.toml_working.specs.Starting.{read_of}
use Rattle.toml_working.proofs.PutAhead.{puts_ahead}
use Rattle.toml_working.proofs.working.Tree.insert_ahead.Goals as goal

pub returns-clause-put : goal.returns-clause-put
returns-clause-put c =
    let it = c.args.insertion in
    on_ok_weaker c.put_section.result
    (puts_ahead c.args.parent.now it.at.now (length c.steps.result.now) it.spelled.now (value it.new) (read_of c.args.before) c.args.next c.in_ok-at.at
    c.in_ok-at.ws c.in_ok-own.own c.in_ok-own.equals c.in_ok-line.line c.beginning_as.result c.args.self.now c.put_section.new.self
    (ap length c.steps.ensures) c.in_ok-at.ensures c.in_ok-own.ensures c.in_ok-line.ensures c.beginning_as.ensures.address c.beginning_as.ensures.base
    c.beginning_as.ensures.body)
    c.put_section.ensures.put
