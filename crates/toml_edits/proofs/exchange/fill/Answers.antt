use Rattle.std.proofs.Common.{◌∙◌, sym}
use Rattle.toml_names.specs.model.Data.{kind_at}
use Rattle.toml_edits.proofs.OpenElements.{filled_by}
use Rattle.toml_edits.proofs.exchange.fill.Goals as goal

pub returns-then-has_array : goal.returns-then-has_array
returns-then-has_array c = λ at.
    c.exchange-old.ensures.whole at ∙ filled_by c.args.steps.now at c.args.elements (kind_at c.args.root.now) (sym c.has_array.ensures ∙ c.if-has_array.true)
