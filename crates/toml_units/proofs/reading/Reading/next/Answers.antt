use Rattle.std.proofs.Common.{sym, subst}
use Rattle.std.specs.Prelude.{IfOk}
use Rattle.toml_units.specs.Reading.{Hands, with_left}
use Rattle.toml_units.specs.declared.reading.Left.{Left}
use Rattle.toml_units.proofs.ReadLines.{still, stood}
use Rattle.toml_units.proofs.reading.Reading.next.Goals as goal

pub hold_read-requires-clause-goes : goal.hold_read-requires-clause-goes
hold_read-requires-clause-goes c =
    let self = c.args.self.now in
    let went = c.requires.goes in
    let out = stood went.0 went.1 went.2 self c.in-Lines.reader c.in-Lines.is went.3 in
    (went.0, went.1, went.2, c.in-Lines.reader, (still went.0 went.1 went.2 self _ out.0, out.1, c.next.ensures.hands))

pub returns : goal.returns
returns c = λ profile text lines read.
    let self = c.args.self.now in
    let out = stood profile text lines self c.in-Lines.reader c.in-Lines.is read in
    subst (λ (left : Left). IfOk c.hold_read.result (Hands profile text lines (with_left self left) c.hold_read.new.self c.hold_read.new.units.items)) (sym c.in-Lines.is)
    (c.hold_read.ensures profile text lines c.in-Lines.reader (still profile text lines self _ out.0, out.1, c.next.ensures.hands))
