use Rattle.toml_names.proofs.Common.{Option, sym, ap, ◌∙◌, kind_in, Datum}
use Rattle.toml_names.proofs.lemmas.model.Levels.{table-member}
use Rattle.toml_names.proofs.model.datum.Datum.member.Goals as goal

pub returns : goal.returns
returns c = λ rest. rw c.in-Table.is (ap (λ (o : Option Datum). kind_in o rest) c.get.ensures.value ∙ sym (table-member _ c.args.name.now rest))
