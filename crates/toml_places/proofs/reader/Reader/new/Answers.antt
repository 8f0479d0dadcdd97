use Rattle.toml_text.specs.Source.{text_of}
use Rattle.toml_places.proofs.Cuts.{front}
use Rattle.toml_places.proofs.reader.Reader.new.Goals as goal

pub invariant_of-result : goal.invariant_of-result
invariant_of-result c = record { bound = front (text_of c.args.source) c.args.source.is_text }
