use Rattle.std.proofs.Common.{◌≤◌, ◌+◌, ◌∙◌, length, sym, subst, arith}
use Rattle.toml_working.specs.NextHeaders.{Walked}
use Rattle.toml_working.specs.Placing.{lines_from}
use Rattle.toml_working.specs.Seeing.{read_by}
use Rattle.toml_working.specs.Standing.{slot_standing}
use Rattle.toml_working.proofs.NextFound.{header_passed, other_passed}
use Rattle.toml_working.proofs.Placed.{from_next, none_seen}
use Rattle.toml_working.proofs.lines.Slot.walked.Goals.{then-is_header, else-is_header}
use Rattle.toml_working.proofs.lines.Slot.walked.Goals as goal

pub returns-in_default : goal.returns-in_default
returns-in_default c lines slots there all together walked =
    let read = read_by c.args.units.now lines in
    subst (λ ls. Walked c.args.element.now read slots all ls c.loop-index.walk)
    (none_seen read slots c.args.slot c.args.self.now there c.loop-index.index c.seen.result (c.seen.ensures lines) c.in_default.is)
    (c.loop-index.invariant lines slots there all together walked)

pub loop-index-preserved : goal.loop-index-preserved
loop-index-preserved c lines slots there all together walked =
    let read = read_by c.args.units.now lines in
    let e = c.args.element.now in
    let rest = lines_from read slots c.args.slot (c.loop-index.index + 1) in
    let so_far = c.loop-index.invariant lines slots there all together walked in
    elim c.if-is_header.branch [
      | then-is_header w ↦
          subst (Walked e read slots all rest) (sym w.walk-is)
          (header_passed e read slots c.args.slot c.args.self.now there c.loop-index.index c.seen.result c.in-Some.line (c.seen.ensures lines) c.in-Some.is all
          c.loop-index.walk w.past-walk.result (sym c.is_header.ensures ∙ w.if-is_header.true) together w.past-walk.ensures so_far)
      | else-is_header w ↦
          subst (Walked e read slots all rest) (sym w.walk-is)
          (other_passed e read slots c.args.slot c.args.self.now there c.loop-index.index c.seen.result c.in-Some.line (c.seen.ensures lines) c.in-Some.is all
          c.loop-index.walk (sym c.is_header.ensures ∙ w.if-is_header.false) so_far)
    ]

pub returns : goal.returns
returns c lines slots there all together walked =
    let read = read_by c.args.units.now lines in
    let past : length (slot_standing read c.args.self.now) ≤ c.loop-index.index = omega (arith, c.loop-index-test.false, c.count-index-end.ensures read) in
    subst (λ ls. Walked c.args.element.now read slots all ls c.loop-index.walk)
    (from_next read slots c.args.slot c.loop-index.index c.args.self.now there past)
    (c.loop-index.invariant lines slots there all together walked)
