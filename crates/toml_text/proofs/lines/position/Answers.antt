use Rattle.std.proofs.Common.{◌+◌, ap}
use Rattle.toml_text.proofs.LineEnds.{ends_within, start_first}
use Rattle.toml_text.proofs.lines.position.Goals as goal

pub returns : goal.returns
returns c = record {
  line = ap (λ n. n + 1) c.newlines.ensures.count;
  begin = c.line_begin.result;
  begins = c.line_begin.ensures;
  start = c.line_start-start.ensures;
  column = ap (λ n. n + 1) c.characters_from.ensures.count;
  ends = c.line_end.ensures;
  order = start_first c.args.bytes.now c.args.at c.requires c.line_begin.result _ _ c.line_begin.ensures c.line_end.ensures c.line_start-start.ensures;
  within = ends_within c.args.bytes.now c.args.at c.requires _ c.line_end.ensures;
}
