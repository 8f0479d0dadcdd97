use Rattle.std.proofs.Common.{rules, subst}
use Rattle.toml_units.specs.declared.piece.Piece.TheVariants.{Kept, New}
use Rattle.toml_working.proofs.Tidy.{end_is}
use Rattle.toml_working.specs.Tidy.{IsKeptTo, EndsWith}
use Rattle.toml_working.proofs.pieces.take_kept.Goals as goal

pub returns-in-Some-Kept : goal.returns-in-Some-Kept
returns-in-Some-Kept c =
    let is = rw c.in-Some-Kept.field-0-is at c.in-Some-Kept.ensures.items in
    let ends : EndsWith (IsKeptTo c.args.place) c.args.pieces.now.items = search rules in
    (end_is (IsKeptTo c.args.place) c.pop.new.self.items (Kept c.in-Some-Kept.last) (subst (EndsWith (IsKeptTo c.args.place)) is ends), is)

pub returns-in-Some-New : goal.returns-in-Some-New
returns-in-Some-New c =
    let is = rw c.in-Some-New.field-0-is at c.in-Some-New.ensures.items in
    let ends : EndsWith (IsKeptTo c.args.place) c.args.pieces.now.items = search rules in
    absurd (end_is (IsKeptTo c.args.place) c.pop.new.self.items (New c.in-Some-New.field-0-0) (subst (EndsWith (IsKeptTo c.args.place)) is ends))
