-- The proofs of the laws of src/laws.rt, for the crates above.
pub use Rattle.toml_places.proofs.Sound.{found_is_spelled}
pub use Rattle.toml_places.proofs.Complete.{spelled_is_found, one_place}
pub use Rattle.toml_places.proofs.Within.{refused_within}
pub use Rattle.toml_places.proofs.SpelledBack.{spelled_is_read_back}
pub use Rattle.toml_places.proofs.Addresses.{plain_leads, one_address, below_closed}
pub use Rattle.toml_places.proofs.LedTo.{below_steps_closed}
pub use Rattle.toml_places.proofs.Parts.{part_is_there}
pub use Rattle.toml_places.proofs.Fronts.{front_goes_on}
