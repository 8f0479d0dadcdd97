use Rattle.toml_names.proofs.Common.{rules}
use Rattle.toml_names.proofs.lemmas.tree.Distinct.{children_of-front}
use Rattle.toml_names.proofs.tree.name_map.drop_last_behind.Goals as goal

pub returns-clause-front : goal.returns-clause-front
returns-clause-front c = search (rules, children_of-front)
