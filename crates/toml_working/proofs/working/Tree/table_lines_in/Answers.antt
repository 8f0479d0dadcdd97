use Rattle.std.proofs.Common.{◌≤◌, ◌+◌, ◌∙◌, length, ap, sym, subst, arith}
use Rattle.toml_working.specs.DottedTables.{has_in_table}
use Rattle.toml_working.specs.Placing.{lines_from}
use Rattle.toml_working.specs.Seeing.{read_by}
use Rattle.toml_working.specs.TableEnds.{PassedInTable}
use Rattle.toml_working.specs.Standing.{slot_standing}
use Rattle.toml_working.proofs.Alone.{slice_get_none}
use Rattle.toml_working.proofs.Got.{item_found}
use Rattle.toml_working.proofs.Placed.{from_next, none_seen, past_all}
use Rattle.toml_working.proofs.LastInTable.{header_seen, in_table_seen}
use Rattle.toml_working.proofs.working.Tree.table_lines_in.Goals as goal

pub returns-in_default : goal.returns-in_default
returns-in_default c lines all passed =
    let read = read_by c.args.before.units.now lines in
    let slots = c.args.self.now.slots.items in
    let past = slice_get_none slots c.args.slot
    (item_found _ _ c.args.slot c.get.result _ c.deref.ensures.value c.get.ensures.lookup c.in_default.is) in
    (lines_from read slots c.args.slot c.args.skip, ap (has_in_table c.args.address.now) (past_all read slots c.args.slot c.args.skip past), passed)

pub returns-in_default-seen : goal.returns-in_default-seen
returns-in_default-seen c lines all passed =
    let read = read_by c.args.before.units.now lines in
    let slots = c.args.self.now.slots.items in
    let there = item_found _ _ c.args.slot c.get.result _ c.deref.ensures.value c.get.ensures.lookup c.in-Some.is in
    subst (λ ls. PassedInTable c.args.address.now read slots all ls c.loop-index.found)
    (none_seen read slots c.args.slot c.in-Some.lines.now there c.loop-index.index c.seen.result (c.seen.ensures lines)
    c.in_default-seen.is)
    (c.loop-index.invariant lines all passed)

pub returns-then-is_header : goal.returns-then-is_header
returns-then-is_header c lines all passed =
    let read = read_by c.args.before.units.now lines in
    let slots = c.args.self.now.slots.items in
    let there = item_found _ _ c.args.slot c.get.result _ c.deref.ensures.value c.get.ensures.lookup c.in-Some.is in (
      lines_from read slots c.args.slot c.loop-index.index,
      header_seen c.args.address.now read slots c.args.slot c.in-Some.lines.now there c.loop-index.index c.seen.result c.in-Some-seen.line
          (c.seen.ensures lines) c.in-Some-seen.is
          (sym c.is_header.ensures ∙ c.if-is_header.true),
      c.loop-index.invariant lines all passed,
    )

pub loop-index-preserved : goal.loop-index-preserved
loop-index-preserved c lines all passed =
    let read = read_by c.args.before.units.now lines in
    let slots = c.args.self.now.slots.items in
    let there = item_found _ _ c.args.slot c.get.result _ c.deref.ensures.value c.get.ensures.lookup c.in-Some.is in
    subst (PassedInTable c.args.address.now read slots all (lines_from read slots c.args.slot (c.loop-index.index + 1))) (sym c.in_table_at-found.ensures)
    (in_table_seen c.args.address.now read slots c.args.slot c.in-Some.lines.now there c.loop-index.index c.seen.result c.in-Some-seen.line
    (c.seen.ensures lines) c.in-Some-seen.is
    (sym c.is_header.ensures ∙ c.if-is_header.false) (omega arith) all c.loop-index.found (c.loop-index.invariant lines all passed))

pub returns : goal.returns
returns c lines all passed =
    let read = read_by c.args.before.units.now lines in
    let slots = c.args.self.now.slots.items in
    let there = item_found _ _ c.args.slot c.get.result _ c.deref.ensures.value c.get.ensures.lookup c.in-Some.is in
    let past : length (slot_standing read c.in-Some.lines.now) ≤ c.loop-index.index = omega (arith, c.loop-index-test.false, c.count-index-end.ensures read) in
    subst (λ ls. PassedInTable c.args.address.now read slots all ls c.loop-index.found)
    (from_next read slots c.args.slot c.loop-index.index c.in-Some.lines.now there past)
    (c.loop-index.invariant lines all passed)
