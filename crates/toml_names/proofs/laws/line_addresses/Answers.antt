use Rattle.toml_names.proofs.Proved.{line_addresses, no_line_address}
use Rattle.toml_names.proofs.laws.line_addresses.Goals as goal

pub returns : goal.returns
returns c = record { of_lines = line_addresses; behind = no_line_address }
