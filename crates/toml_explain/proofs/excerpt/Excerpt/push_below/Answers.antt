use Rattle.std.proofs.Common.{ap, ◌∙◌, ◌++◌}
use Rattle.std.specs.Prelude.{string_bytes}
use Rattle.toml_explain.proofs.ShownLines.{below_is}
use Rattle.toml_explain.proofs.excerpt.Excerpt.push_below.Goals as goal

pub returns : goal.returns
returns c =
    let front = c.in_ok-push_front.ensures in
    record {
      width = front.width;
      text = below_is (string_bytes c.args.self.now.text) _ _ _ _ (string_bytes c.args.drawing.now.below) c.args.note.now c.args.self.now.width front.text
          (c.in_ok-push_str.ensures.bytes ∙ ap (λ l. string_bytes c.push_front.new.self.text ++ l) c.as_str.ensures.value) c.in_ok-push_note.ensures c.in_ok-push_str-2.ensures.bytes;
    }
