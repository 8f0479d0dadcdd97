use Rattle.toml_working.specs.Following.{NoneUpTo, is_landmark}
use Rattle.toml_working.specs.Starting.{read_of}
use Rattle.toml_working.specs.declared.working.Position.{Position}
use Rattle.toml_working.proofs.working.Tree.landmark_in.Given as goal

abbrev pub invariant-loop-index : goal.invariant-loop-index
invariant-loop-index l = (place : Position) → let read = read_of l.before in
    NoneUpTo (is_landmark l.what) read l.self.slots.items place l.fn.place.slot l.fn.place.index
    → NoneUpTo (is_landmark l.what) read l.self.slots.items place l.fn.place.slot l.index
