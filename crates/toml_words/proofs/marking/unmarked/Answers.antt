use Rattle.toml_words.proofs.Marks.{none_unmarked}
use Rattle.toml_words.proofs.marking.unmarked.Goals as goal

pub returns-in-None : goal.returns-in-None
returns-in-None c = none_unmarked c.args.word.now c.in-None.ensures.cases
