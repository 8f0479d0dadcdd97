use Rattle.toml_tree.proofs.PlainTables.{bare_value_of_profile, bare_lines_of_profile, put_value_of_profile, put_lines_of_profile}
use Rattle.toml_tree.proofs.laws.placeless_profiles.Goals as goal

pub returns-clause-bare_value : goal.returns-clause-bare_value
returns-clause-bare_value c = bare_value_of_profile

pub returns-clause-bare_lines : goal.returns-clause-bare_lines
returns-clause-bare_lines c = bare_lines_of_profile

pub returns-clause-put_value : goal.returns-clause-put_value
returns-clause-put_value c = put_value_of_profile

pub returns-clause-put_lines : goal.returns-clause-put_lines
returns-clause-put_lines c = put_lines_of_profile
