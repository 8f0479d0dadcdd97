use Rattle.std.proofs.Common.{◌≡◌, ◌++◌, string_bytes, ap, sym, ◌∙◌}
use Rattle.std.proofs.Math.Logic.{∥∥₁_elim}
use Rattle.std.proofs.Props.{props}
use Rattle.toml_tree.specs.View.{piece, value}
use Rattle.toml_tree.specs.declared.tree.Value.TheViews.{out-Array, out-InlineTable}
use Rattle.toml_tree.proofs.Texts.{text_of_value}
use Rattle.toml_tree.specs.Pieces.{piece_of}
use Rattle.toml_tree.proofs.Views.{value_scalar, value_array, value_inline}
use Rattle.toml_tree.proofs.text.push_value.Goals as goal
use Rattle.toml_tree.proofs.text.push_value.Goals.{in-Scalar, in-Array, in-Inline}

-- what was pushed is the value's piece
pushed : (c : goal.In_ok-push_str) → piece c.match-v.piece ≡ piece_of (value c.args.v.now)
pushed c =
    elim c.match-v.branch [
      | in-Scalar w ↦ ap piece w.piece-is ∙ sym (ap piece_of (ap value w.in-Scalar.is ∙ value_scalar w.in-Scalar.field-0 w.in-Scalar.scalar))
      | in-Array w ↦
          ap piece (w.piece-is ∙ ap (λ a. (out-Array a).whole) w.deref.ensures)
          ∙ sym (ap piece_of (ap value w.in-Array.is ∙ value_array w.in-Array.array))
      | in-Inline w ↦
          ap piece (w.piece-is ∙ ap (λ t. (out-InlineTable t).whole) w.deref-in-Inline.ensures)
          ∙ sym (ap piece_of (ap value w.in-Inline.is ∙ value_inline w.in-Inline.table))
    ]

pub returns : goal.returns
returns c =
    let out = string_bytes c.args.out.now in
    let v = value c.args.v.now in
    c.in_ok-push_str.ensures.bytes ∙ ap (λ p. out ++ p.text) (pushed c) ∙ ap (λ l. out ++ l) (∥∥₁_elim c.requires (hlevel props) (text_of_value v))
