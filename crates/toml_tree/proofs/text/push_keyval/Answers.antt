use Rattle.std.proofs.Common.{◌++◌, string_bytes, ap, sym, subst, ◌∙◌}
use Rattle.std.proofs.Math.Logic.{∥∥₁_map}
use Rattle.toml_tree.specs.Spells.{joined, assign_parts, value_parts, keyval_parts, IsKeyVal}
use Rattle.toml_tree.specs.View.{assign, value}
use Rattle.toml_tree.specs.declared.tree.Value.TheViews.{out-KeyVal}
use Rattle.toml_tree.proofs.Texts.{written_both}
use Rattle.toml_tree.proofs.Views.{keyval_is}
use Rattle.toml_tree.proofs.text.push_keyval.Goals as goal

pub push_value-requires : goal.push_value-requires
push_value-requires c = ∥∥₁_map c.requires (λ form. (subst IsKeyVal (keyval_is c.args.k.now) form).1)

pub returns : goal.returns
returns c =
    let out = string_bytes c.args.out.now in
    let k = out-KeyVal c.args.k.now in
    written_both out (assign_parts (assign k.assign)) (value_parts (value k.value)) _ _ c.in_ok-push_assign.ensures c.in_ok-push_value.ensures
    ∙ ap (λ pair. out ++ joined (keyval_parts pair)) (sym (keyval_is c.args.k.now))
