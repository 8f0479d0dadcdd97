-- The proofs of the laws of src/laws.rt, for the crates above.
pub use Rattle.toml_layout.proofs.GapSpelled.{gaps_are_spelled}
pub use Rattle.toml_layout.proofs.HeldEntries.{set_is_made}
pub use Rattle.toml_layout.proofs.Lying.{lie_front, lie_back, lie_slice}
pub use Rattle.toml_layout.proofs.OneOutline.{put_is_one, taken_is_one}
pub use Rattle.toml_layout.proofs.Outlined.{entries_is}
pub use Rattle.toml_layout.proofs.RenameAway.{pair_renamed}
pub use Rattle.toml_layout.proofs.RenameInside.{rename_aside}
pub use Rattle.toml_layout.proofs.SetInside.{set_aside}
pub use Rattle.toml_layout.proofs.TreeOutlined.{value_outlined_is, line_outlined_is, lines_outlined_are}
