use Rattle.toml_names.proofs.Common.{subst, ReaderState, lines_of}
use Rattle.toml_names.specs.reader.LineNames.{StandFor}
use Rattle.toml_names.proofs.reader.NameReader.names.Goals as goal

pub returns : goal.returns
returns c = subst (λ (s : ReaderState). StandFor c.self.inside.names (lines_of s)) c.self.view_is (record { own = c.self.inside.own.items; keeps = c.self.invariant })
