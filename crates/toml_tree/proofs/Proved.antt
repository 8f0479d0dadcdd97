-- The proofs of the laws of src/laws.rt, for the crates above.
pub use Rattle.toml_tree.proofs.Exact.{one_tree, one_tree_in, reader_sound, reader_complete}
pub use Rattle.toml_tree.proofs.Profiled.{one_is_in_two}
pub use Rattle.toml_tree.proofs.PlainTables.{inside_of_profile, bare_value_of_profile, bare_lines_of_profile, put_value_of_profile, put_lines_of_profile}
pub use Rattle.toml_tree.proofs.ExactValues.{one_value, one_keyval, one_expr, value_found, value_is_read}
pub use Rattle.toml_tree.proofs.Depths.{depth_is_nesting}
pub use Rattle.toml_tree.proofs.Inner.{value_piece, value_byte, value_start, keyval_start, expr_starts, lines_inside, keyval_inside, value_of_keyval, values_inside, keyvals_inside}
pub use Rattle.toml_tree.proofs.Parts.{parts_join, sizes_add, placed_front, placed_back, placed_both}
pub use Rattle.toml_tree.proofs.Moved.{moved_value_text, moved_keyval_text, moved_expr_text}
pub use Rattle.toml_tree.proofs.MovedBack.{moved_value_spells, moved_keyval_spells, moved_expr_spells}
pub use Rattle.toml_tree.proofs.Bared.{bare_value_text, bare_items_text, bare_pairs_text, bare_lines_text}
pub use Rattle.toml_tree.proofs.PutSame.{put_value_same, put_lines_same}
pub use Rattle.toml_tree.proofs.Put.{put_value_spells, put_lines_spell, put_doc_spells}
pub use Rattle.toml_tree.proofs.Marked.{mark_ends_at_char, text_is_spelled}
pub use Rattle.toml_tree.proofs.Unmarked.{lines_unmarked}
pub use Rattle.toml_tree.proofs.Views.{value_scalar, value_array, value_inline, keyval_is}
