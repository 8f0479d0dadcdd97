use Rattle.std.proofs.Common.{◌≡◌, ◌++◌, IsUtf8}
use Rattle.std.specs.String.{string_bytes}
use Rattle.toml_explain.specs.Openings.{shown_text}
use Rattle.toml_explain.proofs.place.shown_place.Given as goal

-- what is left is shown as the rest
abbrev pub invariant-loop-character : goal.invariant-loop-character
invariant-loop-character l = record {
  utf8 : IsUtf8 l.character-iterator.rest.now;
  shown : string_bytes l.text ++ shown_text l.character-iterator.rest.now ≡ shown_text l.place;
}
