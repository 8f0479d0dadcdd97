use Rattle.toml_names.proofs.Common.{subst, IsDataOf, kind_at, Known}
use Rattle.toml_names.proofs.names.Names.data.Goals as goal

pub returns : goal.returns
returns c = subst (λ (k : Known). IsDataOf k.named (kind_at c.self.inside.«data».root)) c.self.view_is c.self.invariant.facts
