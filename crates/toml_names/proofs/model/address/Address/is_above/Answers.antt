use Rattle.toml_names.proofs.Common.{length, sym, ap, ◌∙◌, arith, rules}
use Rattle.toml_names.proofs.lemmas.model.Equal.{above_short, above_end}
use Rattle.toml_names.proofs.model.address.Address.is_above.Goals as goal

pub returns-then-len : goal.returns-then-len
returns-then-len c = search (rules, above_short)

pub returns : goal.returns
returns c =
    let one = ap length c.self.view_is in
    let through = ap length c.deref-step-items.ensures.value in
    let a = c.args.self.now in
    let b = c.args.other.now in
    sym (above_end a b c.loop-index.index
    (omega (arith, c.if-len.false, c.len.ensures, c.len-2.ensures, c.self.inside.steps.ok.0, c.other.inside.steps.ok.0, one, ap length c.other.view_is))
    (omega (arith, c.loop-index-test.false, through, one))
    (omega (arith, c.loop-index.auto.index-end, through, one)))
    ∙ c.loop-index.invariant
