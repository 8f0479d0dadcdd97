use Rattle.std.proofs.Common.{◌∙◌, sym, subst}
use Rattle.std.proofs.lemmas.Result.{IfOk-weaker}
use Rattle.toml_working.specs.Seeing.{FindsHolder}
use Rattle.toml_working.specs.Starting.{read_of}
use Rattle.toml_working.proofs.HeaderAdded.{added, refused}
use Rattle.toml_working.proofs.LookedUp.{none_is, some_is}
use Rattle.toml_working.proofs.working.Tree.add_header.Goals as goal

pub returns-then-is_some-clause-put : goal.returns-then-is_some-clause-put
returns-then-is_some-clause-put c =
    let it = c.args.new in
    let tree = c.args.self.now in
    let q = c.args.above.now.at in
    let read = read_of c.args.before in
    let (place, is) = some_is c.value_line.result (sym c.is_some.ensures ∙ c.if-is_some.true) in
    refused q it.at.now c.args.above.now.element it.brackets it.spelled.now read tree place
    (subst (FindsHolder q c.args.before.units.now tree.slots.items) is c.value_line.ensures.0 read.lines)

pub returns-clause-put : goal.returns-clause-put
returns-clause-put c =
    let it = c.args.new in
    let tree = c.args.self.now in
    let q = c.args.above.now.at in
    IfOk-weaker c.add_laid_out.result _ _ (λ done adds.
    added q it.at.now c.args.above.now.element it.brackets it.spelled.now (read_of c.args.before) tree c.add_laid_out.new.self done
    (c.value_line.ensures.1 (none_is c.value_line.result (sym c.is_some.ensures ∙ c.if-is_some.false))) adds)
    c.add_laid_out.ensures.put
