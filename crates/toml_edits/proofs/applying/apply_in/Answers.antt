use Rattle.std.proofs.Common.{◌≡◌, ◌⊎◌, Some, None, IfErr, OnOk, ap, subst, sym, ◌∙◌}
use Rattle.toml_names.specs.model.Data.{kind_at}
use Rattle.toml_edits.specs.After.{IsAfter}
use Rattle.toml_edits.specs.declared.fault.EditFault.TheVariants.{NoMemory}
use Rattle.toml_edits.specs.Edits.{Change, change, rename, remove, new_section, new_element}
use Rattle.toml_edits.specs.Faults.{IsFault}
use Rattle.toml_edits.proofs.applying.apply_in.Goals as goal

pub returns-in-Rename-clause-fault : goal.returns-in-Rename-clause-fault
returns-in-Rename-clause-fault c =
    let is : rename c.steps-in-Rename.result.now c.as_str-in-Rename.result.now ≡ change c.args.edit.now = ap (λ at. rename at c.as_str-in-Rename.result.now) c.steps-in-Rename.ensures ∙ ap (rename c.in-Rename.at) c.as_str-in-Rename.ensures.value ∙ ap change (sym c.in-Rename.is) in
    subst (λ (d : Change). IfErr c.rename.result (λ x. (x ≡ NoMemory) ⊎ IsFault c.args.profile d (kind_at c.args.«data».now.root) (Some x))) is (c.rename.ensures.fault c.args.profile)

pub returns-in-Rename-clause-ok : goal.returns-in-Rename-clause-ok
returns-in-Rename-clause-ok c =
    let is : rename c.steps-in-Rename.result.now c.as_str-in-Rename.result.now ≡ change c.args.edit.now = ap (λ at. rename at c.as_str-in-Rename.result.now) c.steps-in-Rename.ensures ∙ ap (rename c.in-Rename.at) c.as_str-in-Rename.ensures.value ∙ ap change (sym c.in-Rename.is) in
    subst (λ (d : Change). OnOk c.rename.result (IsFault c.args.profile d (kind_at c.args.«data».now.root) None × IsAfter c.args.profile d (kind_at c.args.«data».now.root) (kind_at c.rename.new.root))) is (c.rename.ensures.ok c.args.profile)

pub returns-in-Remove-clause-fault : goal.returns-in-Remove-clause-fault
returns-in-Remove-clause-fault c =
    let is : remove c.steps-in-Remove.result.now ≡ change c.args.edit.now = ap remove c.steps-in-Remove.ensures ∙ ap change (sym c.in-Remove.is) in
    subst (λ (d : Change). IfErr c.remove.result (λ x. (x ≡ NoMemory) ⊎ IsFault c.args.profile d (kind_at c.args.«data».now.root) (Some x))) is (c.remove.ensures.fault c.args.profile)

pub returns-in-Remove-clause-ok : goal.returns-in-Remove-clause-ok
returns-in-Remove-clause-ok c =
    let is : remove c.steps-in-Remove.result.now ≡ change c.args.edit.now = ap remove c.steps-in-Remove.ensures ∙ ap change (sym c.in-Remove.is) in
    subst (λ (d : Change). OnOk c.remove.result (IsFault c.args.profile d (kind_at c.args.«data».now.root) None × IsAfter c.args.profile d (kind_at c.args.«data».now.root) (kind_at c.remove.new.root))) is (c.remove.ensures.ok c.args.profile)

pub returns-in-Section-clause-fault : goal.returns-in-Section-clause-fault
returns-in-Section-clause-fault c =
    let is : new_section c.steps-in-Section.result.now ≡ change c.args.edit.now = ap new_section c.steps-in-Section.ensures ∙ ap change (sym c.in-Section.is) in
    subst (λ (d : Change). IfErr c.section.result (λ x. (x ≡ NoMemory) ⊎ IsFault c.args.profile d (kind_at c.args.«data».now.root) (Some x))) is (c.section.ensures.fault c.args.profile)

pub returns-in-Section-clause-ok : goal.returns-in-Section-clause-ok
returns-in-Section-clause-ok c =
    let is : new_section c.steps-in-Section.result.now ≡ change c.args.edit.now = ap new_section c.steps-in-Section.ensures ∙ ap change (sym c.in-Section.is) in
    subst (λ (d : Change). OnOk c.section.result (IsFault c.args.profile d (kind_at c.args.«data».now.root) None × IsAfter c.args.profile d (kind_at c.args.«data».now.root) (kind_at c.section.new.root))) is (c.section.ensures.ok c.args.profile)

pub returns-in-Element-clause-fault : goal.returns-in-Element-clause-fault
returns-in-Element-clause-fault c =
    let is : new_element c.steps-in-Element.result.now ≡ change c.args.edit.now = ap new_element c.steps-in-Element.ensures ∙ ap change (sym c.in-Element.is) in
    subst (λ (d : Change). IfErr c.element.result (λ x. (x ≡ NoMemory) ⊎ IsFault c.args.profile d (kind_at c.args.«data».now.root) (Some x))) is (c.element.ensures.fault c.args.profile)

pub returns-in-Element-clause-ok : goal.returns-in-Element-clause-ok
returns-in-Element-clause-ok c =
    let is : new_element c.steps-in-Element.result.now ≡ change c.args.edit.now = ap new_element c.steps-in-Element.ensures ∙ ap change (sym c.in-Element.is) in
    subst (λ (d : Change). OnOk c.element.result (IsFault c.args.profile d (kind_at c.args.«data».now.root) None × IsAfter c.args.profile d (kind_at c.args.«data».now.root) (kind_at c.element.new.root))) is (c.element.ensures.ok c.args.profile)
