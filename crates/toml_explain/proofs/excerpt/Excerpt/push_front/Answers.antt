use Rattle.std.proofs.Common.{refl, arith}
use Rattle.std.specs.Prelude.{string_bytes}
use Rattle.toml_explain.proofs.ShownLines.{margin_is}
use Rattle.toml_explain.proofs.excerpt.Excerpt.push_front.Goals as goal

pub returns : goal.returns
returns c = record {
  width = refl;
  text = margin_is (string_bytes c.args.self.now.text) _ _ _ _ _ c.args.label.now c.args.self.now.width _ _ c.in_ok-push_str.ensures.bytes c.in_ok-push_spaces.ensures (omega arith)
      c.in_ok-push_str-2.ensures.bytes c.in_ok-push_spaces-2.ensures (omega arith) c.in_ok-push_str-3.ensures.bytes;
}
