use Rattle.std.proofs.Common.{◌≤◌, ◌∙◌, length, sym, subst, arith}
use Rattle.toml_working.specs.OpeningComments.{CommentsPassed}
use Rattle.toml_working.specs.Placing.{lines_from}
use Rattle.toml_working.specs.Standing.{slot_standing}
use Rattle.toml_working.specs.Starting.{read_of}
use Rattle.toml_working.proofs.Alone.{slice_get_none}
use Rattle.toml_working.proofs.Commented.{blank_seen, comment_seen, comments_all, other_seen}
use Rattle.toml_working.proofs.Got.{item_found}
use Rattle.toml_working.proofs.Placed.{from_next, none_seen, past_all}
use Rattle.toml_working.proofs.working.Tree.comments_in.Goals as goal

pub returns-in_default : goal.returns-in_default
returns-in_default c all passed =
    let read = read_of c.args.before in
    let slots = c.args.self.now.slots.items in
    let past = slice_get_none slots c.args.slot
    (item_found _ _ c.args.slot c.get.result _ c.deref.ensures.value c.get.ensures.lookup c.in_default.is) in
    comments_all read slots all (lines_from read slots c.args.slot 0) c.args.last passed (past_all read slots c.args.slot 0 past)

pub returns-in_default-seen : goal.returns-in_default-seen
returns-in_default-seen c all passed =
    let read = read_of c.args.before in
    let slots = c.args.self.now.slots.items in
    let there = item_found _ _ c.args.slot c.get.result _ c.deref.ensures.value c.get.ensures.lookup c.in-Some.is in
    subst (λ ls. CommentsPassed read slots all ls c.loop-index.found)
    (none_seen read slots c.args.slot c.in-Some.lines.now there c.loop-index.index c.seen.result (c.seen.ensures read.lines)
    c.in_default-seen.is)
    (c.loop-index.invariant all passed)

pub returns-then-not-is_bare : goal.returns-then-not-is_bare
returns-then-not-is_bare c all passed =
    let read = read_of c.args.before in
    let slots = c.args.self.now.slots.items in
    let there = item_found _ _ c.args.slot c.get.result _ c.deref.ensures.value c.get.ensures.lookup c.in-Some.is in
    other_seen read slots c.args.slot c.in-Some.lines.now there c.loop-index.index c.seen.result c.in-Some-seen.line
    (c.seen.ensures read.lines) c.in-Some-seen.is all c.loop-index.found (c.loop-index.invariant all passed)
    (sym c.is_bare.ensures ∙ c.if-not-is_bare.true)

pub returns-then-not-look : goal.returns-then-not-look
returns-then-not-look c all passed =
    let read = read_of c.args.before in
    let slots = c.args.self.now.slots.items in
    let there = item_found _ _ c.args.slot c.get.result _ c.deref.ensures.value c.get.ensures.lookup c.in-Some.is in
    blank_seen read slots c.args.slot c.in-Some.lines.now there c.loop-index.index c.seen.result c.in-Some-seen.line
    (c.seen.ensures read.lines) c.in-Some-seen.is all c.loop-index.found (c.loop-index.invariant all passed)
    c.in_ok-look.look c.in_ok-look.ensures (sym c.is_bare.ensures ∙ c.if-not-is_bare.false) c.if-not-look.true

pub loop-index-preserved : goal.loop-index-preserved
loop-index-preserved c all passed =
    let read = read_of c.args.before in
    let slots = c.args.self.now.slots.items in
    let there = item_found _ _ c.args.slot c.get.result _ c.deref.ensures.value c.get.ensures.lookup c.in-Some.is in
    comment_seen read slots c.args.slot c.in-Some.lines.now there c.loop-index.index c.seen.result c.in-Some-seen.line
    (c.seen.ensures read.lines) c.in-Some-seen.is all c.loop-index.found (c.loop-index.invariant all passed)
    c.in_ok-look.look c.in_ok-look.ensures (sym c.is_bare.ensures ∙ c.if-not-is_bare.false) c.if-not-look.false (omega arith)

pub returns : goal.returns
returns c all passed =
    let read = read_of c.args.before in
    let slots = c.args.self.now.slots.items in
    let there = item_found _ _ c.args.slot c.get.result _ c.deref.ensures.value c.get.ensures.lookup c.in-Some.is in
    let past : length (slot_standing read c.in-Some.lines.now) ≤ c.loop-index.index = omega (arith, c.loop-index-test.false, c.count-index-end.ensures read) in
    subst (λ ls. CommentsPassed read slots all ls c.loop-index.found)
    (from_next read slots c.args.slot c.loop-index.index c.in-Some.lines.now there past)
    (c.loop-index.invariant all passed)
