use Rattle.std.proofs.Common.{◌∙◌, ap, ap₂, sym}
use Rattle.toml_names.specs.model.Data.{kind_at}
use Rattle.toml_edits.specs.Drafts.{filled, with_open}
use Rattle.toml_edits.proofs.draft.Draft.close.Goals as goal

pub returns-in-Ok-clause-same : goal.returns-in-Ok-clause-same
returns-in-Ok-clause-same c = λ at.
    let root = kind_at c.args.self.now.«data».root in
    ap (λ o. with_open o (kind_at c.fill.new.root) at) c.take.ensures.after
    ∙ c.fill.ensures at
    ∙ ap₂ (λ q ds. filled q ds root at) c.steps.ensures c.in-Ok.ensures.ok
    ∙ sym (ap (λ o. with_open o root at) (sym c.take.ensures.value ∙ c.in-Some.is))
