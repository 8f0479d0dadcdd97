use Rattle.std.proofs.Common.{List, [], ◌∷◌, ◌++◌, string_bytes}
use Rattle.toml_tree.specs.Spells.{Part, symbol, header_parts}
use Rattle.toml_tree.specs.View.{header}
use Rattle.toml_tree.proofs.Texts.{written_then, written_both}
use Rattle.toml_tree.proofs.text.push_array_header.Goals as goal

pub returns : goal.returns
returns c =
    let inner = header_parts (header c.args.h.now) in
    let close : List Part = symbol (0x5D ∷ []) ∷ [] in
    written_then (string_bytes c.args.out.now) (symbol (0x5B ∷ [])) (inner ++ close) _ _ c.in_ok-push_str.ensures.bytes
    (written_both (string_bytes c.push_str.new.self) inner close _ _ c.in_ok-push_header.ensures c.in_ok-push_str-2.ensures.bytes)
