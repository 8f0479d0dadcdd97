use Rattle.std.proofs.Common.{[], ap, map, subst, sym}
use Rattle.toml_names.specs.reader.LineNames.{StandFor}
use Rattle.toml_units.specs.Taken.{newline_text}
use Rattle.toml_units.specs.View.{all_units}
use Rattle.toml_units.proofs.taken.TakenLines.new.Goals as goal

pub returns : goal.returns
returns c = record {
  names = subst (λ n. StandFor n []) (sym c.over.ensures.names) c.in_ok-new.ensures;
  section_is = c.over.ensures.section;
  left = c.over.ensures.left;
  closed = c.over.ensures.opened;
  units = ap all_units c.new-2.ensures.items;
  newlines = ap (map newline_text) c.new-3.ensures.items;
}
