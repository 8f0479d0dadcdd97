use Rattle.std.proofs.Common.{subst}
use Rattle.toml_working.specs.Seeing.{IsTableLine, read_by}
use Rattle.toml_working.proofs.BelowOut.{below_first}
use Rattle.toml_working.proofs.NextFound.{first_at, first_none}
use Rattle.toml_working.proofs.working.Tree.first_slot.Goals as goal

pub returns-in-Some-Header-clause-headers : goal.returns-in-Some-Header-clause-headers
returns-in-Some-Header-clause-headers c lines together =
    let read = read_by c.args.before.units.now lines in
    let slots = c.args.self.now.slots.items in
    first_at c.args.at.now read slots c.in-Some-Header.header
    (subst (IsTableLine c.args.at.now read slots) c.in-Some-Header.field-0-is (c.in-Some-Header.ensures.finds lines)) together

pub returns-in_default-clause-headers : goal.returns-in_default-clause-headers
returns-in_default-clause-headers c lines together = first_none c.args.at.now (read_by c.args.before.units.now lines) c.args.self.now.slots.items

pub returns-in_default-2-clause-headers : goal.returns-in_default-2-clause-headers
returns-in_default-2-clause-headers c lines together = first_none c.args.at.now (read_by c.args.before.units.now lines) c.args.self.now.slots.items

pub returns-in_default-3-clause-headers : goal.returns-in_default-3-clause-headers
returns-in_default-3-clause-headers c lines together = first_none c.args.at.now (read_by c.args.before.units.now lines) c.args.self.now.slots.items

pub returns-in-Some-Header-clause-lines : goal.returns-in-Some-Header-clause-lines
returns-in-Some-Header-clause-lines c lines first =
    let read = read_by c.args.before.units.now lines in
    let slots = c.args.self.now.slots.items in
    below_first c.args.at.now read slots c.in-Some-Header.header
    (subst (IsTableLine c.args.at.now read slots) c.in-Some-Header.field-0-is (c.in-Some-Header.ensures.finds lines)) (first c.if-begins.true)
