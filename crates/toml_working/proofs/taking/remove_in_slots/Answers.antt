use Rattle.std.proofs.Common.{◌≤◌, ◌+◌, arith, ap, length, set}
use Rattle.std.specs.List.{list_any}
use Rattle.std.specs.declared.alloc.Global.{Global}
use Rattle.std.specs.declared.vec.Vec.{Vec}
use Rattle.std.proofs.lemmas.List.{drop_all}
use Rattle.toml_layout.specs.KnownLines.{lines_known}
use Rattle.toml_working.specs.declared.lines.Slot.{Slot}
use Rattle.toml_working.specs.declared.removing.Parent.{Parent}
use Rattle.toml_working.specs.Standing.{is_below, slots_standing}
use Rattle.toml_working.specs.Starting.{read_of}
use Rattle.toml_working.proofs.BelowOut.{begun, taken_all, taken_as, taken_on, taken_to_end}
use Rattle.toml_working.proofs.Past.{past_end}
use Rattle.toml_working.proofs.taking.remove_in_slots.Goals as goal
use Rattle.toml_working.proofs.taking.remove_in_slots.Goals.{in-Some+in_ok-remove_below+else-branch, in_default}

pub loop-index-init : goal.loop-index-init
loop-index-init c kept none =
    begun c.args.texts (read_of c.args.before) c.args.at.now c.args.parent.now.address c.args.parent.now.stays c.args.first c.args.slots.now.items kept none

pub loop-index-preserved : goal.loop-index-preserved
loop-index-preserved c kept none =
    let read = read_of c.args.before in
    let lines = lines_known c.args.before.known.now in
    let old = c.args.slots.now.items in
    let now = c.loop-index.slots in
    let i = c.loop-index.index in
    let q = c.args.parent.now.address in
    let stays = c.args.parent.now.stays in
    let p = c.args.at.now in
    let so_far = c.loop-index.invariant kept none in
    elim c.match-get_mut.branch [
      | in-Some+in_ok-remove_below+else-branch w ↦
          taken_as c.args.texts read p q stays (i + 1) old (set now.items i w.remove_below.new.self) c.match-get_mut.slots.items
          w.remove_below.new.parent.address c.match-get_mut.parent.address w.remove_below.new.parent.stays c.match-get_mut.parent.stays
          w.remove_below.new.is_met c.match-get_mut.is_met
          (taken_on c.args.texts read p q stays i old now.items w.in-Some.slot.now w.remove_below.new.self c.loop-index.parent.address
          w.remove_below.new.parent.address c.loop-index.parent.stays w.remove_below.new.parent.stays c.loop-index.is_met w.remove_below.new.is_met so_far
          w.in-Some.ensures.item.3.0 w.in-Some.ensures.value w.in_ok-remove_below.ensures.address (w.in_ok-remove_below.ensures.meets lines)
          w.in_ok-remove_below.ensures.slot w.in_ok-remove_below.ensures.stays)
          (ap (λ (slots : Vec Slot Global). slots.items) w.slots-is) (ap (λ (parent : Parent). parent.address) w.parent-is)
          (ap (λ (parent : Parent). parent.stays) w.parent-is) w.is_met-is
      | in_default w ↦
          let past = past_end now.items now.len i now.ok.0 w.in_default.ensures.variant.1 in
          absurd (omega (arith, past, so_far.long, c.args.slots.now.ok.0, c.len-index-end.ensures, c.loop-index-test.true))
    ]

pub returns-then-branch : goal.returns-then-branch
returns-then-branch c ss stands none section later =
    let read = read_of c.args.before in
    let lines = lines_known c.args.before.known.now in
    let ends = c.in_ok-remove_below.ensures.ends c.if-branch.true lines in
    taken_to_end c.args.texts read c.args.at.now c.args.parent.now.address c.args.parent.now.stays c.args.flat c.loop-index.index c.args.slots.now.items
    c.loop-index.slots.items c.in-Some.slot.now c.remove_below.new.self c.loop-index.parent.address c.remove_below.new.parent.address c.loop-index.parent.stays
    c.remove_below.new.parent.stays c.loop-index.is_met c.remove_below.new.is_met ss (c.loop-index.invariant stands.kept none) c.in-Some.ensures.item.3.0
    c.in-Some.ensures.value c.in_ok-remove_below.ensures.address (c.in_ok-remove_below.ensures.meets lines) c.in_ok-remove_below.ensures.slot
    c.in_ok-remove_below.ensures.stays stands.are section later ends

pub returns : goal.returns
returns c ss stands none section later =
    let read = read_of c.args.before in
    let old = c.args.slots.now.items in
    let past : length old ≤ c.loop-index.index = omega (arith, c.loop-index-test.false, c.len-index-end.ensures, c.args.slots.now.ok.0) in
    taken_all c.args.texts read c.args.at.now c.args.parent.now.address c.args.parent.now.stays c.loop-index.index old c.loop-index.slots.items
    c.loop-index.parent.address c.loop-index.parent.stays c.loop-index.is_met ss (c.loop-index.invariant stands.kept none) stands.are
    (ap (λ xs. list_any (is_below c.args.at.now) (slots_standing read xs)) (drop_all c.loop-index.index old past))
