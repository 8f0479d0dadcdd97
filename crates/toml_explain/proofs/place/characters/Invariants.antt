use Rattle.std.proofs.Common.{◌≡◌, ◌≤◌, take, count_by}
use Rattle.toml_text.specs.Positions.{begins_character}
use Rattle.toml_explain.proofs.place.characters.Given as goal

abbrev pub invariant-loop-i : goal.invariant-loop-i
invariant-loop-i l = (l.count ≡ count_by begins_character (take l.i l.bytes)) × (l.count ≤ l.i)
