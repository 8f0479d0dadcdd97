use Rattle.std.proofs.Common.{◌≡◌, map, take, string_bytes}
use Rattle.toml_scalar.specs.Moments.{moment_byte}
use Rattle.toml_scalar.proofs.moment.moment_text.Given as goal

abbrev pub invariant-loop-byte : goal.invariant-loop-byte
invariant-loop-byte l = string_bytes l.text ≡ map moment_byte (take l.byte-index l.run)
