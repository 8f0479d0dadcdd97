use Rattle.toml_explain.proofs.ShownLines.{gains_line}
use Rattle.toml_explain.proofs.excerpt.Excerpt.push_line.Goals as goal

pub returns : goal.returns
returns c = gains_line c.args.self.now _ c.in_ok-drawing.drawing c.args.bytes.now c.args.meant.start c.args.note.now _ _ _ c.line_number.ensures c.format.ensures.text c.in_ok-drawing.ensures c.push.ensures
