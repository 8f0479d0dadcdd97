-- The proofs of the laws of src/laws.rt, for the crates above.
pub use Rattle.toml_working.proofs.HeldLines.{held_inside, parent_held}
pub use Rattle.toml_working.proofs.RemovedOne.{held_is_no_line}
pub use Rattle.toml_working.proofs.OneLine.{put_lines_are_one, taken_lines_are_one}
