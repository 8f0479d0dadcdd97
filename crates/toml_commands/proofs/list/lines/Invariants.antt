use Rattle.std.proofs.Common.{◌≡◌, take}
use Rattle.toml_commands.specs.Listing.{lines_of}
use Rattle.toml_commands.proofs.list.lines.Given as goal

abbrev pub invariant-loop-address : goal.invariant-loop-address
invariant-loop-address l = l.text.items ≡ lines_of (take l.address-index l.addresses)
