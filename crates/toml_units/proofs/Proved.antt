-- The proofs of the laws of src/laws.rt, for the crates above.
pub use Rattle.toml_units.proofs.Alike.{units_are_alike}
pub use Rattle.toml_units.proofs.Apart.{units_are_apart}
pub use Rattle.toml_units.proofs.AtPlaces.{one_place, holders_hold_each}
pub use Rattle.toml_units.proofs.Bares.{units_of_bares}
pub use Rattle.toml_units.proofs.Bases.{units_are_based, lines_are_units}
pub use Rattle.toml_units.proofs.InLines.{line_no_lines, units_are_behind_the_mark}
pub use Rattle.toml_units.proofs.Lined.{lined_are_units, lined_have_newlines}
pub use Rattle.toml_units.proofs.MovedUnits.{inside_moves}
pub use Rattle.toml_units.proofs.Order.{outer_comes_first}
pub use Rattle.toml_units.proofs.Under.{inside_is_under}
pub use Rattle.toml_units.proofs.Certificates.{one_certificate}
pub use Rattle.toml_units.proofs.Decimals.{number_decimal}
pub use Rattle.toml_units.proofs.Ends.{pair_ends, line_ends}
pub use Rattle.toml_units.proofs.Holders.{holders_are_no_comments}
pub use Rattle.toml_units.proofs.InLines.{units_nest}
pub use Rattle.toml_units.proofs.Named.{units_are_named, units_have_addresses}
pub use Rattle.toml_units.proofs.OnLines.{units_lie_in_lines}
pub use Rattle.toml_units.proofs.Places.{units_are_sized, one_block}
pub use Rattle.toml_units.proofs.Plain.{plain_is_units, plain_is_inside}
pub use Rattle.toml_units.proofs.Read.{units_read_the_text, inside_reads_the_text}
pub use Rattle.toml_units.proofs.Tails.{tails_end_lines}
pub use Rattle.toml_units.proofs.Twins.{units_are_twins}
pub use Rattle.toml_units.proofs.UnitLines.{units_are_of_lines}
pub use Rattle.toml_units.proofs.UnitsFew.{units_are_few}
