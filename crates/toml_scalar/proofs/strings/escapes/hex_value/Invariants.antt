use Rattle.std.proofs.Common.{◌≡◌, ◌<◌, ◌^◌, drop}
use Rattle.toml_scalar.specs.StringRuns.{hex_after}
use Rattle.toml_scalar.proofs.strings.escapes.hex_value.Given as goal

abbrev pub invariant-loop-digit : goal.invariant-loop-digit
invariant-loop-digit l = (hex_after l.value (drop l.digit-index l.digits) ≡ hex_after 0 l.digits) × (l.value < 16 ^ l.digit-index)
