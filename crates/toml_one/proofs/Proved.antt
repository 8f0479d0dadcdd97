-- The proofs of the laws of src/laws.rt, and what a list is up to the first edit that puts something too deep, for the crates above.
pub use Rattle.toml_one.proofs.OneList.{one_edit_list, one_kept_list}
pub use Rattle.toml_one.proofs.TooDeep.{deep_is_refused}
pub use Rattle.toml_one.proofs.StandsThere.{sets_what_stands}
pub use Rattle.toml_one.proofs.Cutting.{EndsTooDeep, IsCut, whole_or_cut}
