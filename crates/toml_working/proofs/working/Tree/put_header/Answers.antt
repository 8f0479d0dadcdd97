use Rattle.toml_layout.specs.OpenOutlines.{leaf_text}
use Rattle.toml_working.specs.Starting.{read_of}
use Rattle.toml_working.proofs.Answered.{if_ok_both_of}
use Rattle.toml_working.proofs.HeaderPut.{header_put}
use Rattle.toml_working.proofs.working.Tree.put_header.Goals as goal

pub returns-clause-put : goal.returns-clause-put
returns-clause-put c =
    let it = c.args.new in
    let tree = c.args.self.now in
    if_ok_both_of _ _ _ c.put.result
    (λ done puts answers.
    header_put it.at.now it.brackets (leaf_text c.args.ws) it.spelled.now (leaf_text tree.style) (read_of c.args.before) c.args.at c.in_ok-line.line
    c.beginning_as.result tree.slots.items c.put.new.self.slots.items done c.in_ok-line.ensures c.beginning_as.ensures.address c.beginning_as.ensures.base
    c.beginning_as.ensures.body puts answers)
    c.put.ensures.put c.put.ensures.done
