use Rattle.std.proofs.Common.{◌≡◌, Some}
use Rattle.toml_layout.specs.OpenOutlines.{leaf_text}
use Rattle.toml_working.specs.LookingUp.{GoneUp}
use Rattle.toml_working.specs.Placing.{lines_before}
use Rattle.toml_working.specs.Seeing.{line_at}
use Rattle.toml_working.specs.Standing.{Standing}
use Rattle.toml_working.specs.Starting.{read_of}
use Rattle.toml_working.proofs.working.Tree.like_pair.Given as goal

abbrev pub invariant-loop-slot : goal.invariant-loop-slot
invariant-loop-slot l = let read = read_of l.before in
    let slots = l.self.slots.items in
    (s : Standing) → line_at read slots l.fn.place ≡ Some s
    → GoneUp (leaf_text l.ws) read slots (lines_before read slots l.fn.place.slot l.fn.place.index) (lines_before read slots l.slot 0) l.last
