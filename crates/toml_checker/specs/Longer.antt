-- One edit more, in front of others.
use Rattle.std.specs.Prelude.{◌≡◌, List, ◌∷◌, IfSome, Option}
use Rattle.toml_edits.specs.declared.edit.Edit.{Edit}
use Rattle.toml_edits.specs.declared.moves.Moves.{Moves}
use Rattle.toml_edits.specs.Edits.{Change}
use Rattle.toml_edits.specs.Told.{TellsOf}

abbrev pub IsLonger : List Edit → List Edit → Type 0
IsLonger old new = (e : Edit) × (new ≡ e ∷ old)

-- the tree, if there is one, tells of each list of which the other tells, with the edit in front
abbrev pub TellsMore : Option Moves → Change → Option Moves → Type 0
TellsMore old c new = (cs : List Change) → IfSome old (TellsOf cs) → IfSome new (TellsOf (c ∷ cs))
