use Rattle.toml_names.proofs.Common.{subst, AreGood, ReaderState, lines_of}
use Rattle.toml_names.proofs.lemmas.reader.OneMoreLine.{reader_good}
use Rattle.toml_names.proofs.reader.NameReader.taken.Goals as goal

pub returns-clause-good : goal.returns-clause-good
returns-clause-good c = subst (λ (r : ReaderState). AreGood (lines_of r)) c.self.view_is (reader_good c.self.invariant.reads)
