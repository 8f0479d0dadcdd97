use Rattle.toml_tree.proofs.parsing.parse.Goals as goal

pub returns-clause-spelled : goal.returns-clause-spelled
returns-clause-spelled c = c.parse_in.ensures.spelled

pub returns-clause-of_profile : goal.returns-clause-of_profile
returns-clause-of_profile c = c.parse_in.ensures.of_profile

pub returns-clause-refused : goal.returns-clause-refused
returns-clause-refused c = c.parse_in.ensures.refused
