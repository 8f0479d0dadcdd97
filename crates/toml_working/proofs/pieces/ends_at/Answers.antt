use Rattle.std.proofs.Common.{rules}
use Rattle.toml_working.proofs.Tidy.{ends_kept, ends_with}
use Rattle.toml_working.specs.Tidy.{IsKeptTo}
use Rattle.toml_units.specs.declared.piece.Piece.TheVariants.{New}
use Rattle.toml_working.proofs.pieces.ends_at.Goals as goal

pub returns-in-Some-Kept : goal.returns-in-Some-Kept
returns-in-Some-Kept c =
    let is = rw c.in-Some-Kept.field-0-is at c.in-Some-Kept.ensures.value in
    ends_kept c.args.place c.in-Some-Kept.last c.args.pieces.now is

pub returns-in-Some-New : goal.returns-in-Some-New
returns-in-Some-New c =
    let is = rw c.in-Some-New.field-0-is at c.in-Some-New.ensures.value in
    let h = ends_with (IsKeptTo c.args.place) (New c.in-Some-New.field-0-0) c.args.pieces.now is in
    (search rules, λ e. absurd (h.1 e))
