use Rattle.std.proofs.Common.{string_bytes}
use Rattle.toml_tree.specs.Spells.{key_parts, equals_parts}
use Rattle.toml_tree.specs.View.{piece, key}
use Rattle.toml_tree.proofs.Texts.{written_both}
use Rattle.toml_tree.proofs.text.push_assign.Goals as goal

pub returns : goal.returns
returns c =
    let a = c.args.a.now in
    written_both (string_bytes c.args.out.now) (key_parts (key a.key)) (equals_parts (piece a.before_equals) (piece a.after_equals)) _ _ c.in_ok-push_key.ensures c.in_ok-push_equals.ensures
