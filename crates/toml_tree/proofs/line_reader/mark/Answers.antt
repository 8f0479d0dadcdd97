use Rattle.std.proofs.lemmas.Str.{IsCharBoundary-start, IsUtf8-from_is_utf8}
use Rattle.toml_text.specs.Source.{text_of}
use Rattle.toml_tree.proofs.line_reader.mark.Goals as goal

pub invariant_of-reader : goal.invariant_of-reader
invariant_of-reader c = record { bound = IsCharBoundary-start (text_of c.args.source) (IsUtf8-from_is_utf8 (text_of c.args.source) c.args.source.is_text.utf8) }
