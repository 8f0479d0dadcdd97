use Rattle.std.proofs.Common.{rules, inl, inr}
use Rattle.toml_checker.proofs.Owing.{none_covers}
use Rattle.toml_checker.proofs.Reaching.{none_reached}
use Rattle.toml_checker.proofs.debts.no_debts.Goals as goal

pub returns : goal.returns
returns c = λ a h. elim h [ inl e ↦ none_reached a e | inr k ↦ none_covers c.new.result.items a (search rules) k ]
