use Rattle.toml_names.proofs.lemmas.reader.OneMoreLine.{reader_good}
use Rattle.toml_names.proofs.texts.judge_text.Goals as goal

pub returns-clause-good : goal.returns-clause-good
returns-clause-good c =
    let s = c.in_ok-enter_text.ensures.stand in
    record { lines = s.lines; are = s.are; good = reader_good s.reads }
