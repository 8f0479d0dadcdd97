use Rattle.std.proofs.Common.{subst}
use Rattle.std.proofs.lemmas.Result.{IfOk-weaker}
use Rattle.toml_layout.specs.OpenOutlines.{leaf_text}
use Rattle.toml_working.specs.PuttingHeaders.{FindsEnd}
use Rattle.toml_working.specs.Starting.{read_of}
use Rattle.toml_working.proofs.Answered.{if_ok_both_of}
use Rattle.toml_working.proofs.HeaderPut.{before_end, behind_end, no_end}
use Rattle.toml_working.proofs.working.Tree.add_last.Goals as goal

pub returns-in_default-clause-put : goal.returns-in_default-clause-put
returns-in_default-clause-put c =
    let it = c.args.new in
    let tree = c.args.self.now in
    no_end it.at.now it.brackets (leaf_text c.args.ws) it.spelled.now (leaf_text tree.style) tree.texts (read_of c.args.before) tree.slots.items tree.slots.items _
    (subst (FindsEnd tree.slots.items) c.in_default.is c.last_line.ensures (read_of c.args.before))

pub returns-then-has_no_bytes-clause-put : goal.returns-then-has_no_bytes-clause-put
returns-then-has_no_bytes-clause-put c =
    let it = c.args.new in
    let tree = c.args.self.now in
    let read = read_of c.args.before in
    let end = subst (FindsEnd tree.slots.items) c.in-Some.is c.last_line.ensures read in
    IfOk-weaker c.put_header.result _ _ (λ done puts.
    before_end it.at.now it.brackets (leaf_text c.args.ws) it.spelled.now (leaf_text tree.style) tree.texts read c.in-Some.last tree.slots.items
    c.put_header.new.self.slots.items done c.has_no_bytes.result end c.has_no_bytes.ensures c.if-has_no_bytes.true puts)
    c.put_header.ensures.put

pub returns-clause-put : goal.returns-clause-put
returns-clause-put c =
    let it = c.args.new in
    let tree = c.args.self.now in
    let read = read_of c.args.before in
    let end = subst (FindsEnd tree.slots.items) c.in-Some.is c.last_line.ensures read in
    if_ok_both_of _ _ _ c.put.result (λ done puts answers.
    behind_end it.at.now it.brackets (leaf_text c.args.ws) it.spelled.now (leaf_text tree.style) tree.texts read c.in-Some.last c.next.result tree.slots.items
    c.newline_behind.new.self.slots.items c.put.new.self.slots.items (leaf_text c.in_ok-newline.newline) c.in_ok-line.line c.beginning_as.result done
    c.has_no_bytes.result end c.has_no_bytes.ensures c.if-has_no_bytes.false c.in_ok-newline.ensures.ended c.in_ok-line.ensures
    c.beginning_as.ensures.address c.beginning_as.ensures.base c.beginning_as.ensures.body c.next.ensures.slot c.next.ensures.index puts answers)
    c.put.ensures.put c.put.ensures.done
