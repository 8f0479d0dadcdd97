use Rattle.std.proofs.Common.{◌≡◌, ◌∷◌, ◌++◌}
use Rattle.std.specs.List.{flat_map}
use Rattle.std.specs.String.{string_bytes}
use Rattle.toml_scalar.specs.Spelling.{spelled_byte}
use Rattle.toml_scalar.proofs.spelling.spell_string.Given as goal

-- what is left to spell gives the rest
abbrev pub invariant-loop-character : goal.invariant-loop-character
invariant-loop-character l = string_bytes l.text ++ flat_map spelled_byte l.character-iterator.rest.now ≡ 0x22 ∷ flat_map spelled_byte l.characters
