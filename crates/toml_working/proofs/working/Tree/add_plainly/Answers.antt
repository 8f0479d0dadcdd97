use Rattle.std.proofs.Common.{subst}
use Rattle.std.proofs.lemmas.Result.{IfOk-weaker}
use Rattle.toml_layout.specs.OpenOutlines.{leaf_text}
use Rattle.toml_working.specs.NextHeaders.{FindsPlace}
use Rattle.toml_working.specs.Starting.{read_of}
use Rattle.toml_working.proofs.HeaderPut.{at_end, at_next}
use Rattle.toml_working.proofs.working.Tree.add_plainly.Goals as goal

pub returns-in-Some-clause-put : goal.returns-in-Some-clause-put
returns-in-Some-clause-put c =
    let it = c.args.new in
    let tree = c.args.self.now in
    let element = c.args.above.now.element in
    IfOk-weaker c.put_header.result _ _ (λ done puts.
    at_next it.at.now it.brackets it.spelled.now (leaf_text tree.style) tree.texts (read_of c.args.before) element c.in-Some.next tree.slots.items
    c.put_header.new.self.slots.items done
    (subst (FindsPlace element c.args.before.units.now tree.slots.items) c.in-Some.is c.next_header.ensures) puts)
    c.put_header.ensures.put

pub returns-in-None-clause-put : goal.returns-in-None-clause-put
returns-in-None-clause-put c =
    let it = c.args.new in
    let tree = c.args.self.now in
    let element = c.args.above.now.element in
    IfOk-weaker c.add_last.result _ _ (λ done puts.
    at_end it.at.now it.brackets it.spelled.now (leaf_text tree.style) tree.texts (read_of c.args.before) element tree.slots.items
    c.add_last.new.self.slots.items done
    (subst (FindsPlace element c.args.before.units.now tree.slots.items) c.in-None.is c.next_header.ensures) puts)
    c.add_last.ensures.put
