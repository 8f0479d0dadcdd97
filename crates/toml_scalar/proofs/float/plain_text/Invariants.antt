use Rattle.std.proofs.Common.{◌≡◌, ◌++◌, map, drop}
use Rattle.std.specs.String.{string_bytes}
use Rattle.toml_scalar.specs.Integers.{without_underscores}
use Rattle.toml_scalar.specs.Floats.{text_byte}
use Rattle.toml_scalar.proofs.float.plain_text.Given as goal

abbrev pub invariant-loop-byte : goal.invariant-loop-byte
invariant-loop-byte l = string_bytes l.text ++ map text_byte (without_underscores (drop l.byte-index l.spelling)) ≡ map text_byte (without_underscores l.spelling)
