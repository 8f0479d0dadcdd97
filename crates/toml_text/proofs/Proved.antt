-- The proofs of the laws of src/laws.rt, for the crates above.
pub use Rattle.toml_text.proofs.Found.{run_piece, run_found, newlines_piece, newline_found, comments_piece, comment_found}
pub use Rattle.toml_text.proofs.Runs.{run_most, run_stop}
pub use Rattle.toml_text.proofs.Firsts.{begins_other, begins_more}
pub use Rattle.toml_text.proofs.Characters.{characters_begin}
pub use Rattle.toml_text.proofs.Marks.{comment_unmarked, basic_unmarked, literal_unmarked}
