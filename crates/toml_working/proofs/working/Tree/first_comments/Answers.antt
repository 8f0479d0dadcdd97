use Rattle.std.proofs.Common.{◌≤◌, length, sym, subst, arith}
use Rattle.toml_working.specs.OpeningComments.{CommentsBy}
use Rattle.toml_working.specs.Placing.{lines_from}
use Rattle.toml_working.specs.Standing.{slots_standing}
use Rattle.toml_working.specs.Starting.{read_of}
use Rattle.toml_working.proofs.Commented.{comments_all}
use Rattle.toml_working.proofs.Placed.{from_first, past_all}
use Rattle.toml_working.proofs.working.Tree.first_comments.Goals as goal

pub loop-slot-init : goal.loop-slot-init
loop-slot-init c = sym (from_first (read_of c.args.before) c.args.self.now.slots.items)

pub returns-then-ends : goal.returns-then-ends
returns-then-ends c =
    let read = read_of c.args.before in
    let slots = c.args.self.now.slots.items in
    subst (λ b. CommentsBy read slots (slots_standing read slots) c.loop-slot.slot b c.in_ok-found.found) c.if-ends.true
    (c.in_ok-found.ensures (slots_standing read slots) c.loop-slot.invariant)

pub loop-slot-preserved : goal.loop-slot-preserved
loop-slot-preserved c =
    let read = read_of c.args.before in
    let slots = c.args.self.now.slots.items in
    subst (λ b. CommentsBy read slots (slots_standing read slots) c.loop-slot.slot b c.in_ok-found.found) c.if-ends.false
    (c.in_ok-found.ensures (slots_standing read slots) c.loop-slot.invariant)

pub returns : goal.returns
returns c =
    let read = read_of c.args.before in
    let slots = c.args.self.now.slots.items in
    let past : length slots ≤ c.loop-slot.slot = omega (arith, c.loop-slot-test.false) in
    comments_all read slots (slots_standing read slots) (lines_from read slots c.loop-slot.slot 0) c.loop-slot.last c.loop-slot.invariant
    (past_all read slots c.loop-slot.slot 0 past)
