use Rattle.std.proofs.Common.{ap, map, refl}
use Rattle.toml_units.specs.Taken.{newline_text}
use Rattle.toml_units.proofs.Held.{held_walks}
use Rattle.toml_units.proofs.cursor.UnitCursor.held.Goals as goal

pub returns : goal.returns
returns c = λ profile text d spelled h.
    held_walks profile text d spelled c.args.taken h _ c.take_newline.new.self refl refl refl (ap (map newline_text) c.into_iter.ensures.rest) c.take_newline.ensures
