use Rattle.std.proofs.Common.{subst}
use Rattle.toml_names.specs.reader.Parts.{part_kinds}
use Rattle.toml_places.specs.Leading.{IsAddressOf, below_steps}
use Rattle.toml_places.specs.Parts.{Stands}
use Rattle.toml_print.proofs.PartsPrinted.{nothing_there, part_printed}
use Rattle.toml_print.proofs.printing.print_at.Goals as goal

pub returns-in-Some-2 : goal.returns-in-Some-2
returns-in-Some-2 c = λ closed.
    let parts = c.args.names.now in
    let kinds = part_kinds parts 0 in
    let place = c.args.place.now in
    let leads = subst (IsAddressOf kinds place) c.in-Some.is c.in_ok-at.ensures in
    let stands = subst (λ o. Stands parts o (below_steps c.in-Some.at kinds)) c.in-Some-2.is c.in_ok-part.ensures in
    part_printed kinds place parts c.in-Some.at closed leads c.args.form c.in-Some-2.part c.in_ok-print_part-in-Some-2.field-0.items stands c.in_ok-print_part-in-Some-2.ensures

pub returns : goal.returns
returns c = λ closed.
    let parts = c.args.names.now in
    let kinds = part_kinds parts 0 in
    let place = c.args.place.now in
    let leads = subst (IsAddressOf kinds place) c.in-Some.is c.in_ok-at.ensures in
    let stands = subst (λ o. Stands parts o (below_steps c.in-Some.at kinds)) c.in-None.is c.in_ok-part.ensures in
    nothing_there kinds place parts c.in-Some.at closed leads stands
