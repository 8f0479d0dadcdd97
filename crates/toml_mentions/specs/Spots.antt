-- Where an address stands first.
use Rattle.std.specs.Prelude.{◌≡◌, ℕ, List, Option, Some}
use Rattle.toml_text.specs.declared.span.Span.{Span}
use Rattle.toml_tree.specs.HandedOut.{AreLinesIn}
use Rattle.toml_tree.specs.Tree.{Line}
use Rattle.toml_tree.specs.declared.profile.Profile.{Profile}
use Rattle.toml_names.specs.model.Addresses.{Address}
use Rattle.toml_mentions.specs.Sought.{Sight, all_parts, first_sight, sights}

-- Where key parts mention the address, it is the span of the first of these in the text.
abbrev pub IsSpotOf : Profile → List ℕ → Address → Option Span → Type 0
IsSpotOf profile text at spot =
    (lines : List Line) (first : Sight) → AreLinesIn profile text lines → first_sight (sights at (all_parts lines)) ≡ Some first → spot ≡ Some first.span
