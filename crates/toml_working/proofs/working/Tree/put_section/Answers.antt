use Rattle.std.proofs.Common.{subst}
use Rattle.std.proofs.lemmas.Result.{IfOk-weaker}
use Rattle.toml_layout.specs.OpenOutlines.{leaf_text}
use Rattle.toml_layout.specs.declared.tree.Leaf.{Leaf}
use Rattle.toml_working.specs.PuttingHeaders.{PutsHeader}
use Rattle.toml_working.specs.Starting.{read_of}
use Rattle.toml_working.proofs.PutAhead.{section_put}
use Rattle.toml_working.proofs.working.Tree.put_section.Goals as goal

pub returns-clause-put : goal.returns-clause-put
returns-clause-put c =
    let it = c.args.header in
    let read = read_of c.args.before in
    let tree = c.args.self.now in
    let now = c.put_header.new.self.slots.items in
    IfOk-weaker c.put_header.result _ _ (λ done puts.
    section_put it.at.now it.brackets (leaf_text c.args.ws) (leaf_text tree.style) it.spelled.now c.args.line read c.args.at tree.slots.items c.put.new.self.slots.items now
    done c.in_ok-put.ensures.put c.in_ok-put.ensures.there
    (subst (λ (s : Leaf). PutsHeader it.at.now it.brackets (leaf_text c.args.ws) it.spelled.now (leaf_text s) read c.args.at c.put.new.self.slots.items now done)
    c.in_ok-put.ensures.rest.style puts))
    c.put_header.ensures.put
