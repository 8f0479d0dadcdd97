use Rattle.std.proofs.Common.{◌≡◌, ◌≤◌, ◌+◌, ◌∙◌, Some, length, ap, sym, subst, arith}
use Rattle.std.specs.Prelude.{slice_get}
use Rattle.std.proofs.lemmas.Option.{slice_get-get_or}
use Rattle.toml_working.specs.NextHeaders.{Walked}
use Rattle.toml_working.specs.Placing.{lines_from}
use Rattle.toml_working.specs.Seeing.{read_by}
use Rattle.toml_working.specs.Standing.{slots_standing}
use Rattle.toml_working.proofs.NextFound.{next_put, none_left, one_left, walk_begins}
use Rattle.toml_working.proofs.Placed.{past_all}
use Rattle.toml_working.proofs.working.Tree.behind_element.Goals as goal

pub loop-slot-init : goal.loop-slot-init
loop-slot-init c lines together =
    let read = read_by c.args.before.units.now lines in
    walk_begins c.args.element.now read c.args.self.now.slots.items c.first_slot-slot.result (c.first_slot-slot.ensures.headers lines together)

pub returns-in-Ended : goal.returns-in-Ended
returns-in-Ended c lines together =
    let read = read_by c.args.before.units.now lines in
    let slots = c.args.self.now.slots.items in
    let e = c.args.element.now in
    let all = slots_standing read slots in
    let rest = lines_from read slots (c.loop-slot.slot + 1) 0 in
    let there : slice_get slots c.loop-slot.slot ≡ Some c.index.result.now =
    slice_get-get_or slots c.loop-slot.slot c.index.result.now (omega arith) ∙ ap Some (sym c.index.ensures) in
    let walked = subst (Walked e read slots all rest) c.in-Ended.is (c.walked-walk.ensures lines slots there all together (c.loop-slot.invariant lines together)) in
    next_put e read slots rest c.in-Ended.next walked.0 walked.1

pub loop-slot-preserved : goal.loop-slot-preserved
loop-slot-preserved c lines together =
    let slots = c.args.self.now.slots.items in
    let there : slice_get slots c.loop-slot.slot ≡ Some c.index.result.now =
    slice_get-get_or slots c.loop-slot.slot c.index.result.now (omega arith) ∙ ap Some (sym c.index.ensures) in
    c.walked-walk.ensures lines slots there (slots_standing (read_by c.args.before.units.now lines) slots) together (c.loop-slot.invariant lines together)

pub returns-in-Before : goal.returns-in-Before
returns-in-Before c lines together =
    let read = read_by c.args.before.units.now lines in
    let slots = c.args.self.now.slots.items in
    let rest = lines_from read slots c.loop-slot.slot 0 in
    let past : length slots ≤ c.loop-slot.slot = omega (arith, c.loop-slot-test.false) in (
      tt,
      none_left c.args.element.now read slots rest c.loop-slot.walk (past_all read slots c.loop-slot.slot 0 past) (c.loop-slot.invariant lines together)
          c.in-Before.is,
    )

pub returns-in-Behind : goal.returns-in-Behind
returns-in-Behind c lines together =
    let read = read_by c.args.before.units.now lines in
    let slots = c.args.self.now.slots.items in
    let rest = lines_from read slots c.loop-slot.slot 0 in
    let past : length slots ≤ c.loop-slot.slot = omega (arith, c.loop-slot-test.false) in
    one_left c.args.element.now read slots rest c.loop-slot.walk c.in-Behind.next (past_all read slots c.loop-slot.slot 0 past)
    (c.loop-slot.invariant lines together) c.in-Behind.is

pub returns-in-Behind-2 : goal.returns-in-Behind-2
returns-in-Behind-2 c lines together =
    let read = read_by c.args.before.units.now lines in
    let slots = c.args.self.now.slots.items in
    let rest = lines_from read slots c.loop-slot.slot 0 in
    let past : length slots ≤ c.loop-slot.slot = omega (arith, c.loop-slot-test.false) in
    one_left c.args.element.now read slots rest c.loop-slot.walk c.in-Behind.next (past_all read slots c.loop-slot.slot 0 past)
    (c.loop-slot.invariant lines together) c.in-Behind.is
