use Rattle.std.proofs.Common.{◌+◌, List, arith, refl, sym, subst, take}
use Rattle.std.specs.Prelude.{IfSome, MatchOption}
use Rattle.toml_tree.specs.Tree as tree
use Rattle.toml_working.specs.Seeing.{FindsHeaderIn, FindsTable, LacksSought, read_by}
use Rattle.toml_working.specs.Standing.{slots_standing}
use Rattle.toml_working.specs.TablePlaces.{IsDottedPlace, IsImpliedPlace}
use Rattle.toml_working.specs.declared.lines.Sought.{Sought}
use Rattle.toml_working.specs.declared.lines.Sought.TheVariants.{Dotted, Header, HeaderBelow}
use Rattle.toml_working.proofs.Alone.{header_somewhere, none_in_next, table_or}
use Rattle.toml_working.proofs.TablesFound.{dotted_next, dotted_or, found_still, implied_next, implied_or, no_header_met, not_found}
use Rattle.toml_working.proofs.working.Tree.sought_table.Goals.{then-is_none, else-is_none, then-is_none-2, else-is_none-2}
use Rattle.toml_working.proofs.working.Tree.sought_table.Goals as goal

pub loop-slot-preserved : goal.loop-slot-preserved
loop-slot-preserved c =
    let p = c.args.at.now in
    let units = c.args.before.units.now in
    let slots = c.args.self.now.slots.items in
    let i = c.loop-slot.slot in
    let finds = FindsTable p units slots in
    let lacks = λ (what : Sought) (lines : List tree.Line). LacksSought what p (slots_standing (read_by units lines) (take (i + 1) slots)) in
    let is_place = λ (lines : List tree.Line). IsImpliedPlace p (read_by units lines) slots in record {
      dotted = elim c.if-is_none.branch [
        | then-is_none w ↦ subst finds (sym w.dotted-is) w.dotted_in-dotted.ensures.finds
        | else-is_none w ↦ subst finds (sym w.dotted-is) c.loop-slot.invariant.dotted
      ];
      implicit = elim c.if-is_none-2.branch [
        | then-is_none-2 w ↦ subst finds (sym w.implicit-is) w.implicit_in-implicit.ensures.finds
        | else-is_none-2 w ↦ subst finds (sym w.implicit-is) c.loop-slot.invariant.implicit
      ];
      no_header = λ lines.
          none_in_next Header p units slots i lines (omega arith)
          (subst (FindsHeaderIn p units slots i) c.in_default.is c.header_in.ensures.header lines)
          (c.loop-slot.invariant.no_header lines);
      made = λ lines. elim c.if-is_none.branch [
        | then-is_none w ↦ subst (λ o. MatchOption o (lacks Dotted lines) IsDottedPlace) (sym w.dotted-is)
            (dotted_next p units slots i lines (omega arith) w.dotted_in-dotted.result w.dotted_in-dotted.ensures.dotted
            (not_found c.loop-slot.dotted _ IsDottedPlace w.if-is_none.ensures (c.loop-slot.invariant.made lines)))
        | else-is_none w ↦ subst (λ o. MatchOption o (lacks Dotted lines) IsDottedPlace) (sym w.dotted-is)
            (found_still c.loop-slot.dotted _ _ IsDottedPlace w.if-is_none.ensures (c.loop-slot.invariant.made lines))
      ];
      implied = λ lines. elim c.if-is_none-2.branch [
        | then-is_none-2 w ↦ subst (λ o. MatchOption o (lacks HeaderBelow lines) (is_place lines)) (sym w.implicit-is)
            (implied_next p units slots i lines (omega arith) w.implicit_in-implicit.result w.implicit_in-implicit.ensures.implied
            (not_found c.loop-slot.implicit _ (is_place lines) w.if-is_none-2.ensures (c.loop-slot.invariant.implied lines)))
        | else-is_none-2 w ↦ subst (λ o. MatchOption o (lacks HeaderBelow lines) (is_place lines)) (sym w.implicit-is)
            (found_still c.loop-slot.implicit _ _ (is_place lines) w.if-is_none-2.ensures (c.loop-slot.invariant.implied lines))
      ];
    }

pub returns-in-Some-clause-header : goal.returns-in-Some-clause-header
returns-in-Some-clause-header c lines headed = (
  c.in-Some.header,
  refl,
  subst (FindsHeaderIn c.args.at.now c.args.before.units.now c.args.self.now.slots.items c.loop-slot.slot) c.in-Some.is c.header_in.ensures.header lines,
)

pub returns-in-Some-clause-dotted : goal.returns-in-Some-clause-dotted
returns-in-Some-clause-dotted c lines no_header there =
    let slots = c.args.self.now.slots.items in
    absurd (subst (λ o. IfSome o (λ place. ⊥)) c.in-Some.is
    (no_header_met c.args.at.now (read_by c.args.before.units.now lines) slots (λ place. ⊥) c.header_in.result _ no_header (c.header_in.ensures.finds lines)
    (c.header_in.ensures.header lines)))

pub returns-in-Some-clause-implied : goal.returns-in-Some-clause-implied
returns-in-Some-clause-implied c lines no_header no_dotted there =
    let slots = c.args.self.now.slots.items in
    absurd (subst (λ o. IfSome o (λ place. ⊥)) c.in-Some.is
    (no_header_met c.args.at.now (read_by c.args.before.units.now lines) slots (λ place. ⊥) c.header_in.result _ no_header (c.header_in.ensures.finds lines)
    (c.header_in.ensures.header lines)))

pub returns-clause-header : goal.returns-clause-header
returns-clause-header c lines headed =
    absurd (header_somewhere c.args.at.now (read_by c.args.before.units.now lines) c.args.self.now.slots.items c.loop-slot.slot
    (omega (arith, c.loop-slot-test.false)) headed (c.loop-slot.invariant.no_header lines))

pub returns-clause-finds : goal.returns-clause-finds
returns-clause-finds c =
    table_or c.args.at.now c.args.before.units.now c.args.self.now.slots.items c.loop-slot.dotted c.loop-slot.implicit c.or.result c.or.ensures
    c.loop-slot.invariant.dotted c.loop-slot.invariant.implicit

pub returns-clause-dotted : goal.returns-clause-dotted
returns-clause-dotted c lines no_header =
    dotted_or c.args.at.now (read_by c.args.before.units.now lines) c.args.self.now.slots.items c.loop-slot.slot (omega (arith, c.loop-slot-test.false))
    c.loop-slot.dotted c.loop-slot.implicit c.or.result c.or.ensures (c.loop-slot.invariant.made lines)

pub returns-clause-implied : goal.returns-clause-implied
returns-clause-implied c lines no_header no_dotted =
    implied_or c.args.at.now (read_by c.args.before.units.now lines) c.args.self.now.slots.items c.loop-slot.slot (omega (arith, c.loop-slot-test.false))
    c.loop-slot.dotted c.loop-slot.implicit c.or.result c.or.ensures no_dotted (c.loop-slot.invariant.dotted lines) (c.loop-slot.invariant.made lines)
    (c.loop-slot.invariant.implied lines)
