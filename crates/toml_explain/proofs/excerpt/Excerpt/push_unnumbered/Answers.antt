use Rattle.toml_explain.proofs.ShownLines.{gains_more}
use Rattle.toml_explain.proofs.excerpt.Excerpt.push_unnumbered.Goals as goal

pub returns : goal.returns
returns c = gains_more c.args.self.now _ _ _ c.push.ensures
