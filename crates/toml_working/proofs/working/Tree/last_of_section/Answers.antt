use Rattle.std.proofs.Common.{subst}
use Rattle.std.specs.Prelude.{IfSome}
use Rattle.toml_working.specs.Sections.{IsEndFrom, IsOfSectionAt}
use Rattle.toml_working.proofs.Sectioned.{end_of_guess}
use Rattle.toml_working.proofs.working.Tree.last_of_section.Goals as goal

pub returns-in-Some : goal.returns-in-Some
returns-in-Some c =
    let units = c.args.before.units.now in
    let slots = c.args.self.now.slots.items in
    let start = c.args.self.now.section_end in
    let table = c.args.table.now in
    end_of_guess table units slots start c.args.from c.in-Some.found
    (subst (λ o. IfSome o (IsEndFrom units slots start)) c.in-Some.is c.guessed_end.ensures.last)
    (subst (λ o. IfSome o (IsOfSectionAt table units slots)) c.in-Some.is c.guessed_end.ensures.there)
