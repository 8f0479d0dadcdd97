use Rattle.toml_explain.proofs.ShownLines.{gains_carets}
use Rattle.toml_explain.proofs.excerpt.Excerpt.push_more.Goals as goal

pub returns : goal.returns
returns c = gains_carets c.args.self.now _ c.in_ok-drawing.drawing c.args.bytes.now c.args.meant.start c.args.note.now _ c.in_ok-drawing.ensures c.push_below.ensures
