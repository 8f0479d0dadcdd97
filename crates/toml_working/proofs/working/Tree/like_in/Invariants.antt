use Rattle.std.proofs.Common.{List}
use Rattle.toml_layout.specs.OpenOutlines.{leaf_text}
use Rattle.toml_working.specs.LookingUp.{GoneUp, IsInSlot}
use Rattle.toml_working.specs.Placing.{lines_before}
use Rattle.toml_working.specs.Standing.{Standing}
use Rattle.toml_working.specs.Starting.{read_of}
use Rattle.toml_working.proofs.working.Tree.like_in.Given as goal

abbrev pub invariant-loop-index : goal.invariant-loop-index
invariant-loop-index l = let read = read_of l.before in
    let slots = l.self.slots.items in
    let above = lines_before read slots l.fn.place.slot in
    IsInSlot read slots l.fn.place → (all : List Standing) → GoneUp (leaf_text l.ws) read slots all (above l.fn.place.index) l.fn.last
    → GoneUp (leaf_text l.ws) read slots all (above l.index) l.last
