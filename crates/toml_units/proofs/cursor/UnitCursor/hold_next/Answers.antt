use Rattle.std.proofs.Common.{◌≡◌, false, [], Option, Some, None, List, ℕ, refl, subst, arith}
use Rattle.std.proofs.lemmas.Result.{on_ok_weaker}
use Rattle.std.specs.Borrow.{Bor}
use Rattle.std.specs.Option.{is_some}
use Rattle.toml_units.specs.Reading.{Hands}
use Rattle.toml_units.specs.declared.opened.Opened.{Opened}
use Rattle.toml_units.proofs.Cursors.{came, came_item, stayed}
use Rattle.toml_units.proofs.cursor.UnitCursor.hold_next.Goals as goal

closed_of : (o : Option Opened) → false ≡ is_some o → o ≡ None
closed_of None none = refl
closed_of (Some o) none = cc

pub returns-then-is_some : goal.returns-then-is_some
returns-then-is_some c = λ profile text past s.
    let old = c.args.self.now in
    on_ok_weaker c.hold_item.result
    (λ more none. came_item profile text past old c.hold_item.new.self s none c.hold_item.ensures.place [] refl c.hold_item.ensures.newline c.hold_item.ensures.newlines more (omega (arith, c.hold_item.new.self.units.ok.0)))
    c.hold_item.ensures.more

pub returns-in-Some : goal.returns-in-Some
returns-in-Some c = λ profile text past s none.
    let old = c.args.self.now in
    let hands = λ (o : Option (Bor (List ℕ))). Hands profile text s.lines old.reading c.next.new.self c.next.new.units.items o in
    came profile text past old _ s none refl (closed_of old.reading.opened c.if-is_some.ensures)
    (subst hands c.in-Some.is (c.in_ok-newline.ensures profile text s.lines s.read)) (omega (arith, c.next.new.units.ok.0))

pub returns-in-None : goal.returns-in-None
returns-in-None c = λ profile text past s none.
    let old = c.args.self.now in
    let hands = λ (o : Option (Bor (List ℕ))). Hands profile text s.lines old.reading c.next.new.self c.next.new.units.items o in
    stayed profile text past old _ s none refl (closed_of old.reading.opened c.if-is_some.ensures)
    (subst hands c.in-None.is (c.in_ok-newline.ensures profile text s.lines s.read)) c.clear.ensures.items
