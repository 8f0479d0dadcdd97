use Rattle.toml_working.specs.Following.{NoneUpTo, is_landmark}
use Rattle.toml_working.specs.Starting.{read_of}
use Rattle.toml_working.proofs.working.Tree.landmark.Given as goal

abbrev pub invariant-loop-slot : goal.invariant-loop-slot
invariant-loop-slot l = NoneUpTo (is_landmark l.what) (read_of l.before) l.self.slots.items l.fn.place l.slot 0
