use Rattle.toml_layout.proofs.Lying.{lie_front, lie_back, lie_slice}
use Rattle.toml_layout.proofs.laws.lying.Goals as goal

pub returns-clause-front : goal.returns-clause-front
returns-clause-front c = lie_front

pub returns-clause-back : goal.returns-clause-back
returns-clause-back c = lie_back

pub returns-clause-text : goal.returns-clause-text
returns-clause-text c = lie_slice
