use Rattle.toml_checker.proofs.debts.with_owed.Goals as goal

pub returns-in-Some : goal.returns-in-Some
returns-in-Some c = rw c.in-Some.is c.with_debt.ensures
