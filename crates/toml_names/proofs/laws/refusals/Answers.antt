use Rattle.toml_names.proofs.Proved.{one_refusal, refused_are_bad, refused_text}
use Rattle.toml_names.proofs.laws.refusals.Goals as goal

pub returns : goal.returns
returns c = record { bad = refused_are_bad; one = one_refusal; text = refused_text }
