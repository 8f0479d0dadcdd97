use Rattle.std.proofs.Common.{inl, inr}
use Rattle.toml_units.specs.declared.reading.Left.TheVariants.{Lines, Nothing}
use Rattle.toml_units.proofs.Cursors.{walked}
use Rattle.toml_units.proofs.cursor.UnitCursor.into_names.Goals as goal

pub returns : goal.returns
returns c = λ profile text past w. elim c.in-Lines.is [
  | inl h ↦ walked profile text past c.args.self (Lines h.0) h.1 (λ e. cc) c.requires w
  | inr h ↦ walked profile text past c.args.self Nothing h (λ e. cc) c.requires w
]
