use Rattle.std.proofs.Common.{◌-◌, arith, subst}
use Rattle.toml_layout.specs.OpenOutlines.{leaf_text}
use Rattle.toml_working.specs.LookingUp.{GoesUp}
use Rattle.toml_working.specs.Placing.{lines_before}
use Rattle.toml_working.specs.Starting.{read_of}
use Rattle.toml_working.proofs.LookedUp.{found_is, next_slot, not_begun, place_inside, top_other, top_root}
use Rattle.toml_working.proofs.working.Tree.like_pair.Goals as goal

pub returns-then-found : goal.returns-then-found
returns-then-found c s there =
    let read = read_of c.args.before in
    let slots = c.args.self.now.slots.items in
    let ws = leaf_text c.args.ws in
    let all = lines_before read slots c.args.place.slot c.args.place.index in
    let above = lines_before read slots c.args.place.slot 0 in
    found_is ws read slots all above c.in_ok-last.last
    (subst (λ b. GoesUp ws read slots all above b c.in_ok-last.last) c.if-found.true
    (c.in_ok-last.ensures (place_inside read slots c.args.place s there) all (not_begun ws read slots all)))

pub loop-slot-init : goal.loop-slot-init
loop-slot-init c s there =
    let read = read_of c.args.before in
    let slots = c.args.self.now.slots.items in
    let ws = leaf_text c.args.ws in
    let all = lines_before read slots c.args.place.slot c.args.place.index in
    subst (λ b. GoesUp ws read slots all (lines_before read slots c.args.place.slot 0) b c.in_ok-last.last) c.if-found.false
    (c.in_ok-last.ensures (place_inside read slots c.args.place s there) all (not_begun ws read slots all))

pub returns-then-found-2 : goal.returns-then-found-2
returns-then-found-2 c s there =
    let read = read_of c.args.before in
    let slots = c.args.self.now.slots.items in
    let ws = leaf_text c.args.ws in
    let all = lines_before read slots c.args.place.slot c.args.place.index in
    let here = c.loop-slot.slot in
    let above = lines_before read slots (here - 1) 0 in
    found_is ws read slots all above c.in_ok-next.next
    (subst (λ b. GoesUp ws read slots all above b c.in_ok-next.next) c.if-found-2.true
    (next_slot ws read slots c.args.place s there here (omega (arith, c.loop-slot-test.true)) (omega (arith, c.loop-slot.auto.slot)) c.lines_in-index.result
    c.lines_in-index.ensures c.loop-slot.last c.in_ok-next.next c.in_ok-next.found c.in_ok-next.ensures all (c.loop-slot.invariant s there)))

pub loop-slot-preserved : goal.loop-slot-preserved
loop-slot-preserved c s there =
    let read = read_of c.args.before in
    let slots = c.args.self.now.slots.items in
    let ws = leaf_text c.args.ws in
    let all = lines_before read slots c.args.place.slot c.args.place.index in
    let here = c.loop-slot.slot in
    subst (λ b. GoesUp ws read slots all (lines_before read slots (here - 1) 0) b c.in_ok-next.next) c.if-found-2.false
    (next_slot ws read slots c.args.place s there here (omega (arith, c.loop-slot-test.true)) (omega (arith, c.loop-slot.auto.slot)) c.lines_in-index.result
    c.lines_in-index.ensures c.loop-slot.last c.in_ok-next.next c.in_ok-next.found c.in_ok-next.ensures all (c.loop-slot.invariant s there))

pub returns-then-is_empty : goal.returns-then-is_empty
returns-then-is_empty c s there =
    let read = read_of c.args.before in
    let slots = c.args.self.now.slots.items in
    let ws = leaf_text c.args.ws in
    let all = lines_before read slots c.args.place.slot c.args.place.index in
    top_root ws read slots all c.loop-slot.last c.loop-slot.slot (omega (arith, c.loop-slot-test.false)) (c.loop-slot.invariant s there)
    c.is_empty.result c.is_empty.ensures c.if-is_empty.true

pub returns-else-is_empty : goal.returns-else-is_empty
returns-else-is_empty c s there =
    let read = read_of c.args.before in
    let slots = c.args.self.now.slots.items in
    let ws = leaf_text c.args.ws in
    let all = lines_before read slots c.args.place.slot c.args.place.index in
    top_other ws read slots all c.loop-slot.last c.loop-slot.slot (omega (arith, c.loop-slot-test.false)) (c.loop-slot.invariant s there)
    c.is_empty.result c.is_empty.ensures c.if-is_empty.false
