use Rattle.std.proofs.Common.{List, take}
use Rattle.std.specs.Prelude.{MatchOption}
use Rattle.toml_tree.specs.Tree as tree
use Rattle.toml_working.specs.Seeing.{FindsTable, LacksSought, read_by}
use Rattle.toml_working.specs.Standing.{slots_standing}
use Rattle.toml_working.specs.TablePlaces.{IsDottedPlace, IsImpliedPlace}
use Rattle.toml_working.specs.declared.lines.Sought.TheVariants.{Dotted, Header, HeaderBelow}
use Rattle.toml_working.proofs.working.Tree.sought_table.Given as goal

abbrev pub invariant-loop-slot : goal.invariant-loop-slot
invariant-loop-slot l =
    let slots = l.self.slots.items in
    let gone = take l.slot slots in record {
      dotted : FindsTable l.at l.before.units.now slots l.dotted;
      implicit : FindsTable l.at l.before.units.now slots l.implicit;
      no_header : (lines : List tree.Line) → LacksSought Header l.at (slots_standing (read_by l.before.units.now lines) gone);
      made : (lines : List tree.Line) → MatchOption l.dotted (LacksSought Dotted l.at (slots_standing (read_by l.before.units.now lines) gone)) IsDottedPlace;
      implied : (lines : List tree.Line) → let read = read_by l.before.units.now lines in
          MatchOption l.implicit (LacksSought HeaderBelow l.at (slots_standing read gone)) (IsImpliedPlace l.at read slots);
    }
