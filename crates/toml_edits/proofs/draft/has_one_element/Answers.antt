use Rattle.std.proofs.Common.{sym, subst}
use Rattle.toml_names.specs.model.Data.{kind_at}
use Rattle.toml_edits.specs.Drafts.{HasOne}
use Rattle.toml_edits.proofs.OpenDrafts.{array_one, one_array}
use Rattle.toml_edits.proofs.draft.has_one_element.Goals as goal

pub returns-in-Array : goal.returns-in-Array
returns-in-Array c = (
  λ one. subst (λ d. HasOne (kind_at d)) (sym c.in-Array.is) (one_array c.in-Array.items c.len.result c.len.ensures one),
  λ has. array_one c.in-Array.items c.len.result c.len.ensures (subst (λ d. HasOne (kind_at d)) c.in-Array.is has),
)
