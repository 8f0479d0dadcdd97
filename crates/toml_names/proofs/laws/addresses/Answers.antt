use Rattle.toml_names.proofs.Proved.{above_is_above, same_step-equal, same_step-self, same_address-decides}
use Rattle.toml_names.proofs.laws.addresses.Goals as goal

pub returns : goal.returns
returns c = record { equal_steps = same_step-equal; same_steps = same_step-self; same = same_address-decides; above = above_is_above }
