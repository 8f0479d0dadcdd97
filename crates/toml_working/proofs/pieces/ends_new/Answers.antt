use Rattle.std.proofs.Common.{rules}
use Rattle.toml_working.proofs.Tidy.{ends_with}
use Rattle.toml_working.specs.Tidy.{IsNew}
use Rattle.toml_units.specs.declared.piece.Piece.TheVariants.{Kept, New}
use Rattle.toml_working.proofs.pieces.ends_new.Goals as goal

pub returns-in-Some-New : goal.returns-in-Some-New
returns-in-Some-New c =
    let is = rw c.in-Some-New.field-0-is at c.in-Some-New.ensures.value in
    let h = ends_with IsNew (New c.in-Some-New.field-0-0) c.args.pieces.now is in
    (λ t. h.0 tt, search rules)

pub returns-in-Some-Kept : goal.returns-in-Some-Kept
returns-in-Some-Kept c =
    let is = rw c.in-Some-Kept.field-0-is at c.in-Some-Kept.ensures.value in
    let h = ends_with IsNew (Kept c.in-Some-Kept.field-0-0) c.args.pieces.now is in
    (search rules, λ e. absurd (h.1 e))
