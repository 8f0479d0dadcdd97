-- The proofs of the laws of src/laws.rt and src/strings/laws.rt, for the crates above.
pub use Rattle.toml_scalar.proofs.Integers.{integer_form_sound, integer_form_complete, fits_sound, fits_complete, integer_sound, integer_complete}
pub use Rattle.toml_scalar.proofs.Floats.{float_sound, float_complete}
pub use Rattle.toml_scalar.proofs.Booleans.{bool_sound, bool_complete}
pub use Rattle.toml_scalar.proofs.Moments.{moment_sound, moment_complete, moment_once, moment_first, moment_run, space_apart}
pub use Rattle.toml_scalar.proofs.MomentTexts.{date_text, time_text, local_text, offset_text}
pub use Rattle.toml_scalar.proofs.ScanSound.{scan_sound, scan_is_longest}
pub use Rattle.toml_scalar.proofs.Scanned.{scan_complete, token_first}
pub use Rattle.toml_scalar.proofs.OneKind.{one_kind}
pub use Rattle.toml_scalar.proofs.Keys.{part_sound, part_complete, part_first}
pub use Rattle.toml_scalar.proofs.LongestPart.{part_longest}
pub use Rattle.toml_scalar.proofs.ScalarValues.{token_has_value, value_is_of_token, scalar_found, scalar_meant, one_scalar_value}
pub use Rattle.toml_scalar.proofs.NameValues.{name_found, name_meant, name_total}
pub use Rattle.toml_scalar.proofs.OneNames.{one_name}
pub use Rattle.toml_scalar.proofs.SpellingLaws.{spelled_names, quoted_means}
pub use Rattle.toml_scalar.proofs.FaultPlaces.{scalar_fault_at, key_fault_at, value_fault_at}
pub use Rattle.toml_scalar.proofs.StringLaws.{string_sound, string_found, string_longest, value_found, value_means, one_string_kind, one_string_value, string_begins}
