use Rattle.std.proofs.Common.{◌==◌, ◌∙◌, length, ap, sym, true≢false}
use Rattle.std.proofs.lemmas.Result.{IfOk-weaker}
use Rattle.toml_working.specs.Starting.{read_of}
use Rattle.toml_working.proofs.Followed.{last_below}
use Rattle.toml_working.proofs.working.Tree.last_of.Goals as goal

pub returns : goal.returns
returns c =
    let read = read_of c.args.before in
    IfOk-weaker c.landmark.result _ _ (λ found finds.
    last_below c.args.address.now read c.args.self.now.slots.items c.text_end.result found
    (λ root. true≢false (sym (ap (λ xs. length xs == 0) (c.steps.ensures ∙ root)) ∙ sym c.is_empty.ensures ∙ c.if-is_empty.false))
    (c.text_end.ensures read) finds)
    c.landmark.ensures
