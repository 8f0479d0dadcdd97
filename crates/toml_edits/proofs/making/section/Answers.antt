use Rattle.std.proofs.Common.{inr, ◌++◌, ◌∷◌, [], sym, ap, ◌∙◌}
use Rattle.std.proofs.lemmas.Result.{on_ok_weaker}
use Rattle.toml_tree.specs.declared.profile.Profile.TheVariants.{One}
use Rattle.toml_names.specs.declared.model.address.Step.{Step}
use Rattle.toml_names.specs.declared.model.address.Step.TheVariants.{Name}
use Rattle.toml_names.specs.model.Data.{kind_at}
use Rattle.toml_edits.specs.declared.fault.EditFault.TheVariants.{NotAName}
use Rattle.toml_edits.proofs.NewTables.{section_there, section_made}
use Rattle.toml_edits.proofs.making.section.Goals as goal

pub returns-in-Some-clause-fault : goal.returns-in-Some-clause-fault
returns-in-Some-clause-fault c = λ profile. inr (c.in-Some.ensures profile)

pub returns-in_default-last-clause-fault : goal.returns-in_default-last-clause-fault
returns-in_default-last-clause-fault c = λ profile.
    let q = c.in-Some-split_last.parent.now in
    absurd (c.in_default.ensures profile NotAName (q, c.in_default-last.field-0, c.in-Some-split_last.ensures.cases.0 ∙ ap (λ (s : Step). q ++ s ∷ []) c.in_default-last.is))

pub alter-requires : goal.alter-requires
alter-requires c =
    let q = c.in-Some-split_last.parent.now in
    section_there One c.args.root.now c.args.at.now q c.in-Name.name (c.in-Some-split_last.ensures.cases.0 ∙ ap (λ (s : Step). q ++ s ∷ []) c.in-Name.is) (c.in_default.ensures One)

pub returns-clause-ok : goal.returns-clause-ok
returns-clause-ok c = λ profile.
    let q = c.in-Some-split_last.parent.now in
    let n = c.as_str.result.now in
    let is = c.in-Some-split_last.ensures.cases.0 ∙ ap (λ (s : Step). q ++ s ∷ []) (c.in-Name.is ∙ ap Name (sym c.as_str.ensures)) in
    on_ok_weaker c.alter.result
    (λ made. (c.in_default.ensures profile, section_made profile c.args.root.now c.args.at.now q n is (c.in_default.ensures profile) (kind_at c.empty_table-table.result) (kind_at c.alter.new.root) c.empty_table-table.ensures made))
    c.alter.ensures.ok
