use Rattle.std.proofs.Common.{List, [], ◌∷◌, ◌++◌, string_bytes}
use Rattle.toml_tree.specs.Spells as parts
use Rattle.toml_tree.specs.Spells.{Part, symbol, key_parts}
use Rattle.toml_tree.specs.View.{piece, key}
use Rattle.toml_tree.proofs.Texts.{written_then, written_both}
use Rattle.toml_tree.proofs.text.push_header.Goals as goal

pub returns : goal.returns
returns c =
    let h = c.args.h.now in
    let close : List Part = symbol (0x5D ∷ []) ∷ [] in
    let behind_key = parts.piece (piece h.after) ∷ close in
    let behind_before = key_parts (key h.key) ++ behind_key in
    written_then (string_bytes c.args.out.now) (symbol (0x5B ∷ [])) (parts.piece (piece h.before) ∷ behind_before) _ _ c.in_ok-push_str.ensures.bytes
    (written_then (string_bytes c.push_str.new.self) (parts.piece (piece h.before)) behind_before _ _ c.in_ok-push_str-2.ensures.bytes
    (written_both (string_bytes c.push_str-2.new.self) (key_parts (key h.key)) behind_key _ _ c.in_ok-push_key.ensures
    (written_then (string_bytes c.push_key.new.out) (parts.piece (piece h.after)) close _ _ c.in_ok-push_str-3.ensures.bytes c.in_ok-push_str-4.ensures.bytes)))
