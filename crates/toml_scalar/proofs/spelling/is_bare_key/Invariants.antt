use Rattle.std.proofs.Common.{◌≡◌, drop}
use Rattle.std.specs.List.{list_all}
use Rattle.toml_text.specs.Bytes.{is_bare}
use Rattle.toml_scalar.proofs.spelling.is_bare_key.Given as goal

abbrev pub invariant-loop-byte : goal.invariant-loop-byte
invariant-loop-byte l = list_all is_bare (drop l.byte-index l.name) ≡ list_all is_bare l.name
