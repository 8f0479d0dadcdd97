use Rattle.std.proofs.Common.{subst}
use Rattle.std.specs.Prelude.{IfSome}
use Rattle.toml_working.specs.Sections.{IsOfSectionAt}
use Rattle.toml_working.specs.TableEnds.{IsLastInTableFrom}
use Rattle.toml_working.proofs.LastInTable.{in_table_of_guess}
use Rattle.toml_working.proofs.working.Tree.last_of_table.Goals as goal

pub returns-in-Some : goal.returns-in-Some
returns-in-Some c =
    let units = c.args.before.units.now in
    let slots = c.args.self.now.slots.items in
    let start = c.args.self.now.section_end in
    in_table_of_guess c.args.section.now c.args.table.now units slots start c.args.from c.in-Some.found
    (subst (λ o. IfSome o (IsLastInTableFrom c.args.table.now units slots start)) c.in-Some.is c.guessed_in_table.ensures.last)
    (subst (λ o. IfSome o (IsOfSectionAt c.args.section.now units slots)) c.in-Some.is c.guessed_in_table.ensures.there)
