use Rattle.std.proofs.Common.{◌∙◌, [], ap, refl, sym, subst, append-nil}
use Rattle.toml_text.specs.Source.{text_of}
use Rattle.toml_tree.specs.Spells.{SpellsValue, value_parts, joined}
use Rattle.toml_tree.specs.View.{value as tree_value}
use Rattle.toml_layout.specs.declared.texts.Texts.{Texts}
use Rattle.toml_layout.specs.Opening.{Lie}
use Rattle.toml_layout.proofs.opening.open_value.Goals as goal

pub returns-in_ok-value-in-Ok-parse_value_in : goal.returns-in_ok-value-in-Ok-parse_value_in
returns-in_ok-value-in-Ok-parse_value_in c =
    let v = tree_value c.in-Ok-parse_value_in.value in
    let spelled = c.in-Ok-parse_value_in.ensures.spelled in
    let lies : Lie (text_of c.new-in-Ok-parse_value_in.result.texts.source) (value_parts v) = (
      0,
      record {
        placed = spelled.placed;
        front = [];
        back = [];
        split = ap (λ (t : Texts). text_of t.source) c.new-in-Ok-parse_value_in.ensures ∙ sym spelled.text_is ∙ sym (append-nil (joined (value_parts v)));
        begins = refl;
      },
    ) in
    (v, (subst (SpellsValue v 0) (c.in-Ok.ensures.0 ∙ c.as_bytes.ensures.value) spelled, c.in-Ok-parse_value_in.ensures.of_profile), c.in_ok-value-in-Ok-parse_value_in.ensures (spelled.form, lies))
