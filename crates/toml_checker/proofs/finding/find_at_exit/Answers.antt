use Rattle.toml_checker.proofs.finding.find_at_exit.Goals as goal

pub returns-clause-answer : goal.returns-clause-answer
returns-clause-answer c = c.find_texts.ensures.answer

pub returns-clause-headline : goal.returns-clause-headline
returns-clause-headline c = c.find_texts.ensures.headline
