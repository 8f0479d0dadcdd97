use Rattle.std.proofs.Common.{ap, length, arith}
use Rattle.std.proofs.lemmas.Result.{on_ok_weaker}
use Rattle.toml_names.specs.model.Addresses.{Address}
use Rattle.toml_working.specs.Starting.{read_of}
use Rattle.toml_working.proofs.AtPlace.{holder_found}
use Rattle.toml_working.proofs.RenamedSlots.{holder_is_renamed, none_holds, one_is_it}
use Rattle.toml_working.proofs.working.Tree.rename.Goals as goal

pub returns-in_ok-change_value-in-Some-clause-renames : goal.returns-in_ok-change_value-in-Some-clause-renames
returns-in_ok-change_value-in-Some-clause-renames c =
    let read = read_of c.args.before in
    let old = c.args.self.now.slots.items in
    holder_is_renamed c.args.at.now c.args.name.now c.args.spelled c.args.self.now.texts read old c.change_value.new.self.slots.items
    c.in-Some.place _ _
    c.in_ok-change_value-in-Some.field-0 (holder_found read old c.in-Some.place c.args.at.now _ c.in-Some.is c.value_line.ensures.0)
    (c.depth.ensures read.lines)
    (ap (λ (a : Address). length a) c.steps.ensures) c.if-depth-steps.true c.in_ok-change_value-in-Some.ensures.slots

pub returns-in-Some-2-clause-renames : goal.returns-in-Some-2-clause-renames
returns-in-Some-2-clause-renames c =
    let read = read_of c.args.before in
    let old = c.args.self.now.slots.items in
    let found = holder_found read old c.in-Some.place c.args.at.now _ c.in-Some.is c.value_line.ensures.0 in
    on_ok_weaker c.rename_in_slot.result
    (one_is_it c.args.at.now c.args.name.now c.args.spelled.now c.args.self.now.texts read old c.rename_in_slot.new.slots.items
    c.in-Some.place _ _ found
    (c.depth.ensures read.lines) (ap (λ (a : Address). length a) c.steps.ensures) (omega (arith, c.if-depth-steps.false)))
    c.rename_in_slot.ensures

pub returns-in-None-clause-renames : goal.returns-in-None-clause-renames
returns-in-None-clause-renames c =
    on_ok_weaker c.rename_lines.result
    (none_holds c.args.at.now c.args.name.now c.args.spelled.now c.args.self.now.texts (read_of c.args.before) c.args.self.now.slots.items
    c.rename_lines.new.self.slots.items
    (c.value_line.ensures.1 c.in-None.is)) c.rename_lines.ensures.slots
