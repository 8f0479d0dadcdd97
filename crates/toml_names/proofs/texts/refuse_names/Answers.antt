use Rattle.toml_names.proofs.Common.{◌++◌}
use Rattle.toml_names.proofs.lemmas.reader.WholeText.{all_refused}
use Rattle.toml_names.proofs.texts.refuse_names.Goals as goal

pub returns-in-Ok : goal.returns-in-Ok
returns-in-Ok c = λ profile text front are refused memory.
    let all = c.in-Ok.ensures profile text front are in
    (front ++ all.0, all.1, all_refused c.args.fault all.0 front refused)

pub returns-in-Err : goal.returns-in-Err
returns-in-Err c = λ profile text front are refused. c.in-Err.ensures profile text front are
