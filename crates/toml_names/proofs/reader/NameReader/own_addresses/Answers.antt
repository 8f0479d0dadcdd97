use Rattle.toml_names.proofs.Common.{IfOk-weaker, rules}
use Rattle.toml_names.proofs.lemmas.tree.LineRanks.{are_own_addresses}
use Rattle.toml_names.proofs.reader.NameReader.own_addresses.Goals as goal

pub returns : goal.returns
returns c = search (rules, IfOk-weaker, are_own_addresses)
