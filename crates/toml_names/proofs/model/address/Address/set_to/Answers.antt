use Rattle.toml_names.proofs.Common.{rules}
use Rattle.std.proofs.lemmas.List.{take-append-drop, take_all, length-drop}
use Rattle.toml_names.proofs.model.address.Address.set_to.Goals as goal

pub returns : goal.returns
returns c = search (rules, take-append-drop, take_all, length-drop)
