use Rattle.toml_names.proofs.Proved.{last_role_decides}
use Rattle.toml_names.proofs.laws.last_roles.Goals as goal

pub returns : goal.returns
returns c = last_role_decides
