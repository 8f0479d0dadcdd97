-- Where the comment at the end of a line stands among the units.
use Rattle.std.specs.Prelude.{◌≡◌, List, [], ◌∷◌}
use Rattle.toml_tree.specs.Tree.{Line}
use Rattle.toml_units.specs.declared.unit.UnitKind.TheVariants as kinds
use Rattle.toml_units.specs.Units.{TextUnit, units}

-- the first unit is a line, if there is one
abbrev pub BeginsWithLine : List TextUnit → Type 0
BeginsWithLine [] = Unit {0}
BeginsWithLine (u ∷ us) = u.kind ≡ kinds.Line

-- behind each comment at the end of a line comes a line
abbrev pub TailsEnd : List TextUnit → Type 0
TailsEnd [] = Unit {0}
TailsEnd (u ∷ us) = (u.kind ≡ kinds.TailComment → BeginsWithLine us) × TailsEnd us

-- Law: so it is in each document.
abbrev pub TailsEndLines : Type 0
TailsEndLines = (lines : List Line) → TailsEnd (units lines)
