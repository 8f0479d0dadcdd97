use Rattle.std.proofs.Common.{◌≡◌, ◌∙◌, subst}
use Rattle.toml_text.specs.Source.{text_of}
use Rattle.toml_text.specs.Limit.{IsText}
use Rattle.toml_tree.specs.Spells.{SpellsValue}
use Rattle.toml_tree.specs.View.{value as tree_value}
use Rattle.toml_edits.proofs.OneReading.{tree_read}
use Rattle.toml_edits.proofs.value.read_text.Goals as goal

pub returns-in_ok-read_tree-in-Ok-parse_value_in : goal.returns-in_ok-read_tree-in-Ok-parse_value_in
returns-in_ok-read_tree-in-Ok-parse_value_in c =
    let is : text_of c.in-Ok.source ≡ c.args.text.now = c.in-Ok.ensures.0 ∙ c.as_bytes.ensures.value in
    tree_read c.args.profile c.args.text.now (tree_value c.in-Ok-parse_value_in.value) c.in_ok-read_tree-in-Ok-parse_value_in.field-0
    (subst IsText is c.in-Ok.source.is_text) (subst (SpellsValue (tree_value c.in-Ok-parse_value_in.value) 0) is c.in-Ok-parse_value_in.ensures.spelled) c.in-Ok-parse_value_in.ensures.of_profile
    c.in_ok-read_tree-in-Ok-parse_value_in.ensures
