use Rattle.std.proofs.Common.{subst, sym}
use Rattle.toml_layout.specs.declared.layout.Layout.TheVariants as layouts
use Rattle.toml_working.specs.Seeing.{read_by}
use Rattle.toml_working.specs.TableEnds.{FindsEnd}
use Rattle.toml_working.proofs.LastInTable.{end_found, plain_end}
use Rattle.toml_working.proofs.working.Tree.table_end.Goals.{in-Plain, in-Follow}
use Rattle.toml_working.proofs.working.Tree.table_end.Goals as goal

pub returns : goal.returns
returns c lines =
    let layout = c.args.self.now.texts.layout in
    let section = c.args.section.now in
    let q = c.args.table.now in
    let read = read_by c.args.before.units.now lines in
    let slots = c.args.self.now.slots.items in
    let from = c.args.line in
    end_found layout section q read slots from c.unwrap_or.result c.match-self.last c.unwrap_or.ensures (elim c.match-self.branch [
      | in-Plain w ↦ subst (λ l. FindsEnd l section q read slots from c.match-self.last) (sym w.in-Plain.is)
          (subst (FindsEnd layouts.Plain section q read slots from) (sym w.last-is)
          (plain_end section q read slots from w.last_of_section-last.result (w.last_of_section-last.ensures lines)))
      | in-Follow w ↦ subst (λ l. FindsEnd l section q read slots from c.match-self.last) (sym w.in-Follow.is)
          (subst (FindsEnd layouts.Follow section q read slots from) (sym w.last-is) (w.last_of_table-last.ensures lines))
    ])
