-- The proofs of the laws of src/laws.rt, for the crates above.
pub use Rattle.toml_checker.proofs.Flags.{flags_tell}
pub use Rattle.toml_checker.proofs.LowUnits.{units_are_low}
pub use Rattle.toml_checker.proofs.ProtectedUnits.{inner_are_protected, protected_are_carried}
pub use Rattle.toml_checker.proofs.Sentence.{certified_stand}
pub use Rattle.toml_checker.proofs.Verdicts.{certified_is_all_demands, one_verdict}
pub use Rattle.toml_checker.proofs.FindingLaws.{found_is_met, judged_search, one_reason, never_bad_pair, unmet_is_none}
pub use Rattle.toml_checker.proofs.FoundAnswers.{certified_is_found}
pub use Rattle.toml_checker.proofs.SearchDemands.{one_certificate, one_search, outer_is_found, search_finds, search_serves, stuck_is_lost}
pub use Rattle.toml_checker.proofs.Together.{blank_lines_are_partners, comments_stay_together, none_is_written_there, unplaced_are_protected}
