use Rattle.tomled.proofs.serving.told_words.Goals as goal

pub returns : goal.returns
returns g c = (c.outcome_of_words.result, c.outcome_of_words.ensures, c.printed_if_any.ensures)
