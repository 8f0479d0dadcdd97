use Rattle.std.proofs.Common.{ap, ◌∙◌, ◌++◌}
use Rattle.std.specs.Prelude.{string_bytes}
use Rattle.toml_explain.proofs.ShownLines.{labelled_is}
use Rattle.toml_explain.proofs.excerpt.Excerpt.push.Goals as goal

pub returns : goal.returns
returns c =
    let front = c.in_ok-push_front.ensures in
    let below = c.in_ok-push_below.ensures in
    record {
      width = below.width ∙ front.width;
      text = labelled_is (string_bytes c.args.self.now.text) _ _ _ _ c.args.label.now (string_bytes c.args.drawing.now.text) (string_bytes c.args.drawing.now.below) c.args.note.now c.args.self.now.width _ front.text
          (c.in_ok-push_str.ensures.bytes ∙ ap (λ l. string_bytes c.push_front.new.self.text ++ l) c.as_str.ensures.value) c.in_ok-push_str-2.ensures.bytes below.text front.width;
    }
