-- The views of the recursive types, a layer at a time.
use Rattle.std.proofs.Common.{sym, ap, ◌∙◌}
use Rattle.toml_tree.specs.Tree as tree
use Rattle.toml_tree.specs.ReadingValues.{Element, Member}
use Rattle.toml_tree.specs.View.{value, value_step, array_step, inline_step, item_step, keyval_step, pair_step}
use Rattle.toml_tree.specs.ViewLaws.{ViewOfScalar, ViewOfArray, ViewOfInline, ViewOfKeyVal}
use Rattle.toml_tree.specs.declared.tree.Value.TheOpen as layer
use Rattle.toml_tree.specs.declared.tree.Value.TheVariants.{rolls-Scalar, rolls-Array, rolls-Inline}
use Rattle.toml_tree.specs.declared.tree.Value.TheFolds.{fold-roll-Value, fold_out-Array, fold_out-InlineTable, fold_out-KeyVal}

pub value_scalar : ViewOfScalar
value_scalar kind p =
    ap value (sym (rolls-Scalar kind p))
    ∙ fold-roll-Value tree.Value tree.Value tree.Value Element tree.KeyVal Member value_step array_step inline_step item_step keyval_step pair_step (layer.Scalar kind p)

pub value_array : ViewOfArray
value_array b =
    ap value (sym (rolls-Array b))
    ∙ fold-roll-Value tree.Value tree.Value tree.Value Element tree.KeyVal Member value_step array_step inline_step item_step keyval_step pair_step (layer.Array b)
    ∙ fold_out-Array tree.Value tree.Value tree.Value Element tree.KeyVal Member value_step array_step inline_step item_step keyval_step pair_step b.value

pub value_inline : ViewOfInline
value_inline b =
    ap value (sym (rolls-Inline b))
    ∙ fold-roll-Value tree.Value tree.Value tree.Value Element tree.KeyVal Member value_step array_step inline_step item_step keyval_step pair_step (layer.Inline b)
    ∙ fold_out-InlineTable tree.Value tree.Value tree.Value Element tree.KeyVal Member value_step array_step inline_step item_step keyval_step pair_step b.value

pub keyval_is : ViewOfKeyVal
keyval_is = fold_out-KeyVal tree.Value tree.Value tree.Value Element tree.KeyVal Member value_step array_step inline_step item_step keyval_step pair_step
