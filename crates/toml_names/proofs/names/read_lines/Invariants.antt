use Rattle.toml_names.proofs.Common.{map, line as tree_line}
use Rattle.toml_names.proofs.lemmas.reader.WholeDocument.{IsAt}
use Rattle.toml_names.proofs.names.read_lines.Given as goal

abbrev pub invariant-loop-line : goal.invariant-loop-line
invariant-loop-line l = IsAt (map tree_line l.line-items) l.line-index l.reader
