use Rattle.std.proofs.Common.{[], ◌∷◌, ◌++◌, refl, sym, ◌∙◌}
use Rattle.std.proofs.lemmas.Result.{on_ok_weaker}
use Rattle.std.specs.Prelude.{slice_get}
use Rattle.toml_units.specs.Cursors.{current}
use Rattle.toml_units.proofs.Ahead.{behind, line_of, no_line_of, no_unit, rest_in_line, rest_none, rest_of_line, some_here}
use Rattle.toml_units.proofs.Cursors.{moves, moves_on, some_of, stands_on}
use Rattle.toml_units.proofs.cursor.UnitCursor.go_past.Goals as goal

pub hold_next-requires : goal.hold_next-requires
hold_next-requires c =
    let self = c.args.self.now in
    let next = some_of (current self) c.requires.some in
    let goes = c.requires.goes in
    let none = sym c.in_default.ensures in
    (goes.0, goes.1, goes.2 ++ next.0 ∷ [], stands_on goes.0 goes.1 goes.2 self (behind self) next.0 next.1 refl refl refl (rest_none self none) goes.3.stands, no_unit (behind self) none)

pub returns-in_default : goal.returns-in_default
returns-in_default c = λ profile text past w.
    let self = c.args.self.now in
    let next = some_of (current self) c.requires.some in
    let none = sym c.in_default.ensures in
    let left = rest_none self none in
    on_ok_weaker c.hold_next.result (λ comes. moves_on profile text past self (behind self) next.0 next.1 refl refl refl left c.hold_next.new.self (comes (no_unit (behind self) none)))
    (c.hold_next.ensures profile text (past ++ next.0 ∷ []) (stands_on profile text past self (behind self) next.0 next.1 refl refl refl left w.stands))

pub returns-then-is_line : goal.returns-then-is_line
returns-then-is_line c = λ profile text past w.
    let self = c.args.self.now in
    let new = c.take_newline.new.self in
    let next = some_of (current self) c.requires.some in
    let u = c.in-Some.unit.now in
    let at = sym c.in-Some.ensures in
    let taken = c.take_newline.ensures in
    let left = rest_of_line self new u at (line_of u.kind (sym c.is_line.ensures ∙ c.if-is_line.true)) taken in
    let there = some_here new u ((λ i. slice_get (taken.units i).items (taken.place i)) ∙ at) in
    moves profile text past self new next.0 next.1 taken.reading taken.units taken.place left there w

pub returns-else-is_line : goal.returns-else-is_line
returns-else-is_line c = λ profile text past w.
    let self = c.args.self.now in
    let next = some_of (current self) c.requires.some in
    let u = c.in-Some.unit.now in
    let at = sym c.in-Some.ensures in
    let left = rest_in_line self u at (no_line_of u.kind (sym c.is_line.ensures ∙ c.if-is_line.false)) in
    moves profile text past self (behind self) next.0 next.1 refl refl refl left (some_here (behind self) u at) w
