-- The proofs of the laws of src/laws.rt, for the crates above.
pub use Rattle.toml_print.proofs.TreesTagged.{tree_is_tagged}
pub use Rattle.toml_print.proofs.Unique.{one_tree, one_tagged, one_printed}
pub use Rattle.toml_print.proofs.OneValue.{one_value_at}
pub use Rattle.toml_print.proofs.FloatNumbers.{float_is_number}
