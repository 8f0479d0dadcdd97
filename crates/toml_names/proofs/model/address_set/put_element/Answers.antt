use Rattle.toml_names.proofs.Common.{refl}
use Rattle.toml_names.proofs.lemmas.model.AddressSets.{element_put}
use Rattle.toml_names.proofs.model.address_set.put_element.Goals as goal

pub returns : goal.returns
returns c = λ j. element_put c.args.elements.now c.args.elements.now c.insert.new.self c.args.index c.args.below refl c.in_ok-insert.ensures.updates.0 j
