use Rattle.toml_checker.proofs.judging.check.Goals as goal

pub returns-clause-verdict : goal.returns-clause-verdict
returns-clause-verdict c = c.check_in.ensures.verdict

pub returns-clause-headline : goal.returns-clause-headline
returns-clause-headline c = c.check_in.ensures.headline
