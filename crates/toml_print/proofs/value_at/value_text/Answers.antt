use Rattle.std.proofs.Common.{not, ap, subst, ◌∙◌}
use Rattle.toml_names.specs.reader.Parts.{part_kinds}
use Rattle.toml_places.specs.Leading.{IsAddressOf, below_steps}
use Rattle.toml_places.specs.Parts.{Stands}
use Rattle.toml_print.specs.Searching.{FindsInText}
use Rattle.toml_print.proofs.Found.{is_none}
use Rattle.toml_print.proofs.PartsPrinted.{nothing_there, there}
use Rattle.toml_print.proofs.value_at.value_text.Goals as goal

pub returns-then-is_none : goal.returns-then-is_none
returns-then-is_none c = λ lines are closed.
    let parts = c.args.names.now in
    let kinds = part_kinds parts 0 in
    let leads = subst (IsAddressOf kinds c.args.place.now) c.in-Some.is c.in_ok-at.ensures in
    let none = is_none c.in_ok-part_at.field-0 (c.is_none.ensures ∙ ap not c.if-is_none.true) in
    nothing_there kinds c.args.place.now parts c.in-Some.at closed leads (subst (λ o. Stands parts o (below_steps c.in-Some.at kinds)) none c.in_ok-part_at.ensures)

pub returns : goal.returns
returns c = λ lines are closed.
    let parts = c.args.names.now in
    let kinds = part_kinds parts 0 in
    let leads = subst (IsAddressOf kinds c.args.place.now) c.in-Some.is c.in_ok-at.ensures in
    record {
      at = c.in-Some.at;
      leads = leads;
      there = there kinds c.args.place.now parts c.in-Some.at closed leads c.in_ok-part_at.field-0 (c.is_none.ensures ∙ ap not c.if-is_none.false) c.in_ok-part_at.ensures;
      none = subst (FindsInText lines c.in-Some.at) c.in-None.is (c.in_ok-text.ensures lines are);
    }
