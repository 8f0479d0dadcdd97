use Rattle.std.proofs.Common.{◌≤◌, ◌∙◌, length, ap, sym, arith}
use Rattle.std.proofs.lemmas.List.{take_all}
use Rattle.std.specs.List.{list_any}
use Rattle.toml_working.specs.FollowingHeaders.{is_header_line}
use Rattle.toml_working.specs.Placing.{is_header}
use Rattle.toml_working.specs.Seeing.{Found, read_by}
use Rattle.toml_working.specs.Standing.{slot_standing}
use Rattle.toml_working.proofs.BelowOut.{any_at, seen_tells}
use Rattle.toml_working.proofs.Sought.{none_on}
use Rattle.toml_working.proofs.lines.Slot.has_header.Goals as goal

pub loop-index-preserved : goal.loop-index-preserved
loop-index-preserved c lines =
    let ss = slot_standing (read_by c.args.units.now lines) c.args.self.now in
    none_on is_header_line ss c.loop-index.index
    (seen_tells (λ (f : Found). is_header f.base f.address) _ c.seen.result c.in-Some.line _ (c.seen.ensures lines) c.in-Some.is (sym c.is_header.ensures ∙ c.if-is_header.false))
    (c.loop-index.invariant lines)

pub returns-then-is_header : goal.returns-then-is_header
returns-then-is_header c lines =
    let ss = slot_standing (read_by c.args.units.now lines) c.args.self.now in
    sym (any_at is_header_line ss c.loop-index.index
    (seen_tells (λ (f : Found). is_header f.base f.address) _ c.seen.result c.in-Some.line _ (c.seen.ensures lines) c.in-Some.is (sym c.is_header.ensures ∙ c.if-is_header.true)))

pub returns : goal.returns
returns c lines =
    let ss = slot_standing (read_by c.args.units.now lines) c.args.self.now in
    let past : length ss ≤ c.loop-index.index = omega (arith, c.loop-index-test.false, c.count-index-end.ensures (read_by c.args.units.now lines)) in
    sym (ap (list_any is_header_line) (sym (take_all c.loop-index.index ss past)) ∙ c.loop-index.invariant lines)
