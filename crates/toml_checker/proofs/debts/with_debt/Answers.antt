use Rattle.toml_checker.proofs.Owing.{long_more, short_more}
use Rattle.toml_checker.proofs.debts.with_debt.Goals as goal

pub returns-then-steps : goal.returns-then-steps
returns-then-steps c = λ a. long_more c.args.debts.short c.args.debts.long.items c.push.new.self.items c.args.debt a c.in_ok-push.ensures.items

pub returns : goal.returns
returns c = λ a. short_more c.args.debts.short c.in_ok-short.short c.args.debts.long.items c.args.debt c.steps-2.result.now a c.steps-2.ensures c.in_ok-short.ensures
