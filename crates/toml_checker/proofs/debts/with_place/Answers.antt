use Rattle.toml_checker.proofs.Reaching.{kept_reaches}
use Rattle.toml_checker.proofs.debts.with_place.Goals as goal

pub returns : goal.returns
returns c = kept_reaches c.args.set c.kept-set.result c.add_place.new.self c.args.with_all_below c.args.at.now c.kept-set.ensures c.in_ok-add_place.ensures
