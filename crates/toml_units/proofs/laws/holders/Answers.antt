use Rattle.toml_units.proofs.Holders.{holders_are_no_comments}
use Rattle.toml_units.proofs.Tails.{tails_end_lines}
use Rattle.toml_units.proofs.laws.holders.Goals as goal

pub returns-clause-no_comments : goal.returns-clause-no_comments
returns-clause-no_comments c = holders_are_no_comments

pub returns-clause-tails : goal.returns-clause-tails
returns-clause-tails c = tails_end_lines
