use Rattle.std.proofs.Common.{arith}
use Rattle.std.specs.Prelude.{string_bytes}
use Rattle.toml_explain.proofs.OneLine.{line_with}
use Rattle.toml_explain.proofs.drawing.Drawing.push_meant.Goals as goal

pub returns-clause-drawn : goal.returns-clause-drawn
returns-clause-drawn c = λ other drawn. record {
  line = line_with (string_bytes c.args.self.now.text) (string_bytes c.push.new.self) c.args.glyph.shown other c.in_ok-push.ensures.bytes drawn.line;
  carets = c.in_ok-push_times.ensures (λ e. omega (arith, e)) drawn.carets;
}
