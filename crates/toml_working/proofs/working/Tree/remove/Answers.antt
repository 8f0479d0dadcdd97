use Rattle.std.proofs.Common.{◌∙◌, ap, subst, sym, true≢false}
use Rattle.std.specs.List.{list_any}
use Rattle.std.proofs.lemmas.Result.{IfOk-weaker, on_ok_weaker}
use Rattle.toml_text.specs.Source.{text_of}
use Rattle.toml_layout.specs.Holders.{parent_of}
use Rattle.toml_working.specs.RemoveStanding.{makes_beside}
use Rattle.toml_working.specs.Seeing.{FindsHolder}
use Rattle.toml_working.specs.Starting.{read_of}
use Rattle.toml_working.proofs.Answered.{if_ok_always, on_ok_always}
use Rattle.toml_working.proofs.HeldLines.{held_there, not_inside}
use Rattle.toml_working.proofs.RemovedOne.{none_goes}
use Rattle.toml_working.proofs.working.Tree.remove.Goals as goal

pub returns-in-Some-clause-line : goal.returns-in-Some-clause-line
returns-in-Some-clause-line c =
    let read = read_of c.args.before in
    let found = subst (FindsHolder c.args.at.now c.args.before.units.now c.args.self.now.slots.items) c.in-Some.is c.value_line.ensures.0 read.lines in
    on_ok_weaker c.remove_value.result (λ removes. removes found) c.remove_value.ensures.line

pub returns-in-Some-clause-value : goal.returns-in-Some-clause-value
returns-in-Some-clause-value c =
    let read = read_of c.args.before in
    let found = subst (FindsHolder c.args.at.now c.args.before.units.now c.args.self.now.slots.items) c.in-Some.is c.value_line.ensures.0 read.lines in
    IfOk-weaker c.remove_value.result _ _ (λ done takes. takes found) c.remove_value.ensures.value

pub returns-in-None-clause-line : goal.returns-in-None-clause-line
returns-in-None-clause-line c =
    on_ok_always _ c.remove_table.result
    (none_goes c.args.at.now (read_of c.args.before) c.args.self.now c.remove_table.new.self (c.value_line.ensures.1 c.in-None.is))

pub returns-in-None-clause-value : goal.returns-in-None-clause-value
returns-in-None-clause-value c =
    let read = read_of c.args.before in
    let tree = c.args.self.now in
    if_ok_always _ c.remove_table.result (λ done not_root ss stands ordered there.
    absurd (not_inside c.args.at.now (text_of tree.texts.source) read tree.slots.items ss (c.value_line.ensures.1 c.in-None.is) not_root stands ordered there))

pub returns-in-Some-clause-element : goal.returns-in-Some-clause-element
returns-in-Some-clause-element c =
    let read = read_of c.args.before in
    let tree = c.args.self.now in
    let found = subst (FindsHolder c.args.at.now c.args.before.units.now tree.slots.items) c.in-Some.is c.value_line.ensures.0 read.lines in
    if_ok_always _ c.remove_value.result (λ done ss stands ordered none is_element.
    absurd (true≢false (sym (held_there c.args.at.now (text_of tree.texts.source) read tree.slots.items c.in-Some.place ss found stands) ∙ none)))

pub returns-in-None-clause-element : goal.returns-in-None-clause-element
returns-in-None-clause-element c =
    let at = c.args.at.now in
    IfOk-weaker c.remove_table.result _ _ (λ done leaves. λ ss stands ordered none is_element.
    leaves is_element (read_of c.args.before).lines ∙ ap (list_any (makes_beside (parent_of at) at)) stands.are) c.remove_table.ensures.elements

pub returns-in-Some-clause-table : goal.returns-in-Some-clause-table
returns-in-Some-clause-table c =
    let read = read_of c.args.before in
    let tree = c.args.self.now in
    let found = subst (FindsHolder c.args.at.now c.args.before.units.now tree.slots.items) c.in-Some.is c.value_line.ensures.0 read.lines in
    if_ok_always _ c.remove_value.result (λ done not_root ss stands none together.
    absurd (true≢false (sym (held_there c.args.at.now (text_of tree.texts.source) read tree.slots.items c.in-Some.place ss found stands) ∙ none)))

pub returns-in-None-clause-table : goal.returns-in-None-clause-table
returns-in-None-clause-table c =
    IfOk-weaker c.remove_table.result _ _ (λ done removes. λ not_root ss stands none together. removes not_root ss stands together) c.remove_table.ensures.table
