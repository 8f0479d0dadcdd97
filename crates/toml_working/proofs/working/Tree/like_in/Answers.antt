use Rattle.std.proofs.Common.{◌-◌, subst, arith}
use Rattle.toml_layout.specs.OpenOutlines.{leaf_text}
use Rattle.toml_working.specs.LookingUp.{GoesUp}
use Rattle.toml_working.specs.Placing.{lines_before}
use Rattle.toml_working.specs.Starting.{read_of}
use Rattle.toml_working.proofs.LookedUp.{one_up}
use Rattle.toml_working.proofs.working.Tree.like_in.Goals as goal

pub returns-then-found : goal.returns-then-found
returns-then-found c inside all up =
    let read = read_of c.args.before in
    let slots = c.args.self.now.slots.items in
    let here = c.loop-index.index in
    subst (λ b. GoesUp (leaf_text c.args.ws) read slots all (lines_before read slots c.args.place.slot (here - 1)) b c.in_ok-next.next) c.if-found.true
    (one_up (leaf_text c.args.ws) read slots c.args.place here (omega (arith, c.loop-index-test.true)) (omega (arith, c.loop-index.auto.index))
    c.loop-index.last c.in_ok-next.next c.in_ok-next.found c.in_ok-next.ensures inside all (c.loop-index.invariant inside all up))

pub loop-index-preserved : goal.loop-index-preserved
loop-index-preserved c inside all up =
    let read = read_of c.args.before in
    let slots = c.args.self.now.slots.items in
    let here = c.loop-index.index in
    subst (λ b. GoesUp (leaf_text c.args.ws) read slots all (lines_before read slots c.args.place.slot (here - 1)) b c.in_ok-next.next) c.if-found.false
    (one_up (leaf_text c.args.ws) read slots c.args.place here (omega (arith, c.loop-index-test.true)) (omega (arith, c.loop-index.auto.index))
    c.loop-index.last c.in_ok-next.next c.in_ok-next.found c.in_ok-next.ensures inside all (c.loop-index.invariant inside all up))
