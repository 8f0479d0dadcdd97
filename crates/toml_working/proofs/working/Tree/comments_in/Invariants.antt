use Rattle.std.proofs.Common.{List}
use Rattle.toml_working.specs.OpeningComments.{CommentsPassed}
use Rattle.toml_working.specs.Placing.{lines_from}
use Rattle.toml_working.specs.Standing.{Standing}
use Rattle.toml_working.specs.Starting.{read_of}
use Rattle.toml_working.proofs.working.Tree.comments_in.Given as goal

abbrev pub invariant-loop-index : goal.invariant-loop-index
invariant-loop-index l = (all : List Standing) → let read = read_of l.before in
    CommentsPassed read l.self.slots.items all (lines_from read l.self.slots.items l.slot 0) l.fn.last
    → CommentsPassed read l.self.slots.items all (lines_from read l.self.slots.items l.slot l.index) l.found
