use Rattle.std.proofs.lemmas.Result.{IfOk-weaker}
use Rattle.serde_json.specs.View.{view}
use Rattle.toml_names.specs.model.Data.{kind_at}
use Rattle.toml_print.proofs.Texts.{no_float}
use Rattle.toml_print.proofs.tagged_json.tagged.Goals as goal

pub returns-clause-printed : goal.returns-clause-printed
returns-clause-printed c = IfOk-weaker c.tagged_datum.result _ _ (λ j. no_float (view j) (kind_at c.args.data.now.root)) c.tagged_datum.ensures
