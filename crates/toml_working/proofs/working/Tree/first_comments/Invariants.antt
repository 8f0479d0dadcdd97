use Rattle.toml_working.specs.OpeningComments.{CommentsPassed}
use Rattle.toml_working.specs.Placing.{lines_from}
use Rattle.toml_working.specs.Standing.{slots_standing}
use Rattle.toml_working.specs.Starting.{read_of}
use Rattle.toml_working.proofs.working.Tree.first_comments.Given as goal

abbrev pub invariant-loop-slot : goal.invariant-loop-slot
invariant-loop-slot l = let read = read_of l.before in
    CommentsPassed read l.self.slots.items (slots_standing read l.self.slots.items) (lines_from read l.self.slots.items l.slot 0) l.last
