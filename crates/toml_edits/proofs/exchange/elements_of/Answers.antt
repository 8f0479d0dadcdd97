use Rattle.std.proofs.Common.{ap, sym, ◌∙◌}
use Rattle.toml_names.specs.model.Data.{kind_at}
use Rattle.toml_edits.proofs.OpenElements.{array_has}
use Rattle.toml_edits.proofs.exchange.elements_of.Goals as goal

pub returns-in-Array : goal.returns-in-Array
returns-in-Array c = λ at. sym (ap (λ d. kind_at d at) c.in-Array.is ∙ array_has c.in-Array.items at)
