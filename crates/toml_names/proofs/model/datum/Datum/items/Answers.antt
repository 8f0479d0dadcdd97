use Rattle.toml_names.proofs.Common.{sym, ap, ◌∙◌, slice_get, kind_in}
use Rattle.toml_names.proofs.lemmas.model.Levels.{array-item}
use Rattle.toml_names.proofs.model.datum.Datum.items.Goals as goal

pub returns : goal.returns
returns c = λ index rest. rw c.in-Array.is (ap (λ ds. kind_in (slice_get ds index) rest) c.deref.ensures.value ∙ sym (array-item _ index rest))
