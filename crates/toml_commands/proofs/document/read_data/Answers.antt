use Rattle.std.proofs.lemmas.Result.{err_from_is_err_and}
use Rattle.std.proofs.Common.{List, ℕ, subst}
use Rattle.toml_text.specs.Limit.{IsText}
use Rattle.toml_names.specs.model.Data.{IsDataOf}
use Rattle.toml_names.specs.mentions.Mentions.{named}
use Rattle.toml_names.specs.reader.Parts.{StandForNames, part_kinds}
use Rattle.toml_names.specs.reader.Texts.{GoodText}
use Rattle.toml_commands.proofs.document.read_data.Goals as goal

pub returns-in_err-source-clause-refused : goal.returns-in_err-source-clause-refused
returns-in_err-source-clause-refused c =
    let p = err_from_is_err_and c.from_residual.result c.from_residual.ensures.1 in
    rw (p.1, p.2) (c.in_err-source.ensures.refused c.args.profile)

pub returns-in-Ok-clause-facts : goal.returns-in-Ok-clause-facts
returns-in-Ok-clause-facts c =
    subst (λ (bytes : List ℕ). IsText bytes × (it : GoodText c.args.profile bytes) × IsDataOf (named it.lines) (part_kinds c.in-Ok.whole 0))
    c.in_ok-source.ensures.text (c.in_ok-source.source.is_text, c.in-Ok.ensures.good.0, c.in-Ok.ensures.good.1)

pub returns-in-Ok-clause-names : goal.returns-in-Ok-clause-names
returns-in-Ok-clause-names c = subst (λ (bytes : List ℕ). StandForNames c.args.profile bytes c.in-Ok.whole) c.in_ok-source.ensures.text c.in-Ok.ensures.stand
